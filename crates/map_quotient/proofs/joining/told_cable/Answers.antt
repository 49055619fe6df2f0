use Rattle.std.proofs.Common.{◌≡◌, ◌+◌, Some, refl, ap, sym, ◌∙◌, rules, w8, to_z, of_z, FitsSigned}
use Rattle.std.proofs.lemmas.Int.{to_z-of_z}
use Rattle.map_quotient.specs.Joining.{cable_between}
use Rattle.map_quotient.specs.Joining.TellsCable.{from_node, from_none}
use Rattle.map_quotient.proofs.Places.{one-there}
use Rattle.map_quotient.proofs.joining.told_cable.Goals as goal

pub returns-in-Some-find_near : goal.returns-in-Some-find_near
returns-in-Some-find_near c = λ walk e.
    let turn = c.in-Some.turn.now in
    let at = c.in-Some-find_near.at in
    let fits : FitsSigned w8 turn = search rules in
    let same : to_z w8 (of_z w8 turn) ≡ turn = to_z-of_z w8 turn fits in
    from_node c.in-Some.front.now turn at (one-there c.args.walks.now c.args.at walk c.walk.result.now e c.walk.ensures ∙ c.in-Some.ensures.cases.0) c.in-Some-find_near.ensures.place (ap Some (c.cable_between-in-Some-find_near.ensures ∙ ap (λ t. cable_between c.args.c.now c.args.vertices.now (at + 1) t (c.args.at + 1)) same))

pub returns-in-None : goal.returns-in-None
returns-in-None c = λ walk e. from_none c.in-Some.front.now c.in-Some.turn.now (one-there c.args.walks.now c.args.at walk c.walk.result.now e c.walk.ensures ∙ c.in-Some.ensures.cases.0) (sym c.in-None.ensures.found) refl
