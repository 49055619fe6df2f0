use Rattle.std.proofs.Common.{◌≡◌, ◌++◌, ◌∷◌, [], ap, sym, ◌∙◌, rules, SFits, to_z, of_z, w8}
use Rattle.std.proofs.lemmas.Int.{to_z-of_z}
use Rattle.replicate_merge.proofs.Reading.{node-missing, node-there}
use Rattle.replicate_merge.proofs.fronts.front_of.Goals as goal

pub returns-in-Some-find_near : goal.returns-in-Some-find_near
returns-in-Some-find_near c =
    let walks = c.args.walks.now in
    let at = c.in-Some-find_near.at in
    let front = c.in-Some.front.now in
    let turn = c.in-Some.turn.now in
    let fits : SFits w8 turn = search rules in
    let same : to_z w8 (of_z w8 turn) ≡ turn = to_z-of_z w8 turn fits in
    (front, c.in-Some.ensures.cases.0 ∙ ap (λ t. front ++ t ∷ []) (sym same), node-there walks at front c.in-Some-find_near.ensures.place)

pub returns-in-None : goal.returns-in-None
returns-in-None c = (c.in-Some.front.now, c.in-Some.turn.now, c.in-Some.ensures.cases.0, node-missing c.args.walks.now c.in-Some.front.now (sym c.in-None.ensures.found))
