use Rattle.std.proofs.Common.{◌≡◌, ◌≤◌, ◌-◌, []}
use Rattle.net_defs.specs.Network.{IsFabric}
use Rattle.mapper.specs.Growths.{GrowsBy, IsSwept}
use Rattle.mapper.proofs.growth.grow_tree.Given as goal

abbrev pub invariant-growing : goal.invariant-growing
invariant-growing g l = record {
  settled : IsSwept l.tree l.next;
  host : l.tree.journal.host ≡ g.P.Prober.mapper l.fn.p;
  depth : l.tree.depth ≡ l.fn.tree.depth;
  grown : GrowsBy g.P.Prober.State g.P.Prober.asked (g.P.Prober.fabric l.fn.p) (g.P.Prober.mapper l.fn.p) l.fn.tree.depth [] (g.P.Prober.state l.fn.p) (g.P.Prober.lost l.fn.p) l.tree.journal.entries (g.P.Prober.state l.p) (g.P.Prober.lost l.p);
  one_fabric : IsFabric (g.P.Prober.fabric l.fn.p);
  same_fabric : g.P.Prober.fabric l.p ≡ g.P.Prober.fabric l.fn.p;
  same_mapper : g.P.Prober.mapper l.p ≡ g.P.Prober.mapper l.fn.p;
  later : g.P.Prober.lost l.fn.p ≤ g.P.Prober.lost l.p;
  is_ready : g.P.Prober.ready l.p;
}

abbrev pub decreases-growing : goal.decreases-growing
decreases-growing g l = 4294967295 - l.next
