use Rattle.std.proofs.Common.{◌≡◌, length, replicate, false, ◌∙◌, rules}
use Rattle.core_map.proofs.Marking.{no_marks}
use Rattle.core_map.proofs.bridges.no_marks.Goals as goal

pub returns : goal.returns
returns c =
    let e : c.in_ok-marks.marks.items ≡ replicate (length c.args.m.now.vertices) false = search rules in
    e ∙ no_marks c.args.m.now
