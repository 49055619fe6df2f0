use Rattle.std.proofs.Common.{◌≡◌, ◌+◌, ◌++◌, ◌∷◌, [], Some, ap, ◌∙◌, rules, SFits, to_z, of_z, w8}
use Rattle.std.specs.Prelude.{slice_get}
use Rattle.std.proofs.lemmas.Int.{to_z-of_z}
use Rattle.std.proofs.lemmas.Result.{on_ok_weaker}
use Rattle.replicate_merge.specs.Behind.AddsBehind.{is_there}
use Rattle.replicate_merge.specs.Cables.{both_ways}
use Rattle.replicate_merge.proofs.pushing.push_behind.Goals as goal

pub returns-in-Some-clause-adds : goal.returns-in-Some-clause-adds
returns-in-Some-clause-adds c =
    let walks = c.args.walks.now in
    let old = c.args.ways.now.items in
    let at = c.in-Some.at in
    let turn = c.args.turn in
    let fits : SFits w8 turn = search rules in
    let same : to_z w8 (of_z w8 turn) ≡ turn = to_z-of_z w8 turn fits in
    let walk : c.deref.result.now ≡ c.args.walk.now.items ++ turn ∷ [] = c.deref.ensures.value ∙ c.in_ok-push.ensures.items ∙ ap (λ t. c.args.walk.now.items ++ t ∷ []) same in
    let there : slice_get walks at ≡ Some (c.args.walk.now.items ++ turn ∷ []) = c.in-Some.ensures.place ∙ ap (λ w. Some w) walk in
    on_ok_weaker c.push_both.result (λ e. is_there at there (e ∙ ap (λ t. old ++ both_ways c.args.node t (at + 1)) same)) c.push_both.ensures
