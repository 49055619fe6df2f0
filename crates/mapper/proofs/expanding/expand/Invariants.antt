use Rattle.std.proofs.Common.{◌≡◌, ◌≤◌}
use Rattle.mapper.specs.Turns.{IsOnward}
use Rattle.mapper.proofs.Adding.{IsMidst}
use Rattle.mapper.proofs.expanding.expand.Given as goal

abbrev pub invariant-loop-step : goal.invariant-loop-step
invariant-loop-step g l = record {
  midst : IsMidst g.P.Prober.State g.P.Prober.asked (g.P.Prober.fabric l.initial.p) l.initial.tree (g.P.Prober.state l.initial.p) (g.P.Prober.lost l.initial.p) l.front l.step l.tree (g.P.Prober.state l.p) (g.P.Prober.lost l.p);
  next : IsOnward l.front l.next;
  is_ready : g.P.Prober.ready l.p;
  same_fabric : g.P.Prober.fabric l.p ≡ g.P.Prober.fabric l.initial.p;
  same_mapper : g.P.Prober.mapper l.p ≡ g.P.Prober.mapper l.initial.p;
  later : g.P.Prober.lost l.initial.p ≤ g.P.Prober.lost l.p;
}
