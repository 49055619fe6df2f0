-- The cables of the places before.
use Rattle.std.proofs.Common.{◌≡◌, ◌≤◌, ◌+◌, ◌*◌}
use Rattle.map_quotient.specs.InOrder.{cables_below}
use Rattle.map_quotient.proofs.cables.add_cables_of.Given as goal

abbrev pub invariant-loop-place : goal.invariant-loop-place
invariant-loop-place l = record {
  cables : l.cables.items ≡ cables_below l.map l.place;
  within : l.place ≤ 31 * l.v + 31;
}
