use Rattle.std.proofs.Common.{◌≡◌, take}
use Rattle.circ_map.specs.Inside.{bare, cables_in}
use Rattle.circ_map.proofs.inside.join_kept.Given as goal

abbrev pub invariant-loop-k : goal.invariant-loop-k
invariant-loop-k l = record {
  vertices : l.map.vertices ≡ (bare l.m l.kept).vertices;
  cables : l.map.cables ≡ cables_in l.kept (take l.k l.m.cables);
  core : l.map.core ≡ (bare l.m l.kept).core;
}
