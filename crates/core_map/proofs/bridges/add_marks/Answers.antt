use Rattle.std.proofs.Common.{◌≡◌, false, length, sym, ◌∙◌, arith}
use Rattle.std.proofs.lemmas.List.{ext_get_or}
use Rattle.core_map.specs.Marks.{either}
use Rattle.core_map.proofs.Marking.{either-at, either-long}
use Rattle.core_map.proofs.bridges.add_marks.Goals as goal

pub returns : goal.returns
returns c =
    let bs = c.args.marks.now in
    let cs = c.args.more.now in
    let new = c.loop-v.marks in
    let long = c.loop-v.invariant.long in
    let same : length bs ≡ length cs = c.requires in
    let past = c.loop-v-test.false in
    ext_get_or false new (either bs cs) (long ∙ sym (either-long bs cs same))
    (λ u l. c.loop-v.invariant.before u (omega arith) ∙ sym (either-at bs cs u same))
