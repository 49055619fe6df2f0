use Rattle.std.proofs.Common.{◌≡◌, ◌<◌, length}
use Rattle.circ_map.specs.Growing.{IsAsking, IsOpen, front_of}
use Rattle.circ_map.proofs.expanding.expand_walk.Given as goal

abbrev pub invariant-loop-step : goal.invariant-loop-step
invariant-loop-step g l = record {
  asking : IsAsking (g.P.CircProber.fabric l.initial.p) (g.P.CircProber.mapper l.initial.p) l.depth l.tree.found.items l.tree.asks l.at l.step;
  open_at : IsOpen l.depth l.tree.found.items l.at (front_of l.initial.walk);
  some : 0 < length l.walk;
  same_front : front_of l.walk ≡ front_of l.initial.walk;
  host : l.tree.host ≡ l.initial.tree.host;
  same_fabric : g.P.CircProber.fabric l.p ≡ g.P.CircProber.fabric l.initial.p;
  same_mapper : g.P.CircProber.mapper l.p ≡ g.P.CircProber.mapper l.initial.p;
}
