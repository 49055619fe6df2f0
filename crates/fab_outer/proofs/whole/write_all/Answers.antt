use Rattle.std.proofs.Common.{rules}
use Rattle.fab_outer.proofs.Flow.{taken-more}
use Rattle.fab_outer.proofs.whole.write_all.Goals as goal

pub writing-preserved : goal.writing-preserved
writing-preserved g c = record {
  taken = taken-more _ _ _ _ _ _ _ c.writing.invariant.taken c.in-Ok.ensures.appended c.split_at.ensures.back;
  later = search rules;
}
