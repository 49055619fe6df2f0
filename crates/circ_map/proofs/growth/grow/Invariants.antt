use Rattle.std.proofs.Common.{◌≡◌, ◌-◌}
use Rattle.circ_map.specs.Growing.{IsAsking}
use Rattle.circ_map.proofs.growth.grow.Given as goal

abbrev pub invariant-loop-at : goal.invariant-loop-at
invariant-loop-at g l = record {
  asking : IsAsking (g.P.CircProber.fabric l.initial.p) (g.P.CircProber.mapper l.initial.p) l.depth l.tree.found.items l.tree.asks l.at 0;
  host : l.tree.host ≡ l.initial.tree.host;
  same_fabric : g.P.CircProber.fabric l.p ≡ g.P.CircProber.fabric l.initial.p;
  same_mapper : g.P.CircProber.mapper l.p ≡ g.P.CircProber.mapper l.initial.p;
}

abbrev pub decreases-loop-at : goal.decreases-loop-at
decreases-loop-at g l = 65536 - l.at
