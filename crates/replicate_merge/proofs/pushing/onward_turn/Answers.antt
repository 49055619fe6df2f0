use Rattle.std.proofs.Common.{Some, ap, sym, ◌∙◌, arith, rules, SFits, w8}
use Rattle.std.proofs.lemmas.Int.{to_z-of_z}
use Rattle.replicate_merge.proofs.Behind.{onward-late}
use Rattle.replicate_merge.proofs.pushing.onward_turn.Goals as goal

pub returns-else-place-lt15 : goal.returns-else-place-lt15
returns-else-place-lt15 c =
    let turn = c.turn_at-else-place-lt15.result in
    let fits : SFits w8 turn = search rules in
    let late = c.if-place-lt15.false in
    onward-late c.args.place (omega arith) c.requires ∙ ap (λ t. Some t) (sym (to_z-of_z w8 turn fits ∙ c.turn_at-else-place-lt15.ensures))
