use Rattle.std.proofs.Common.{take}
use Rattle.replicate_merge.specs.AtOnce.{AreOrphans}
use Rattle.replicate_merge.proofs.journals.orphans_of.Given as goal

abbrev pub invariant-loop-at : goal.invariant-loop-at
invariant-loop-at l = AreOrphans (take l.at l.j.entries) l.walks l.orphans
