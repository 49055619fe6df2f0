-- The walk so far is on no way, and what the cables before lead to from hosts was met.
use Rattle.std.proofs.Common.{◌≡◌, []}
use Rattle.core_map.specs.Walking.{AreSeen, IsWalk}
use Rattle.core_map.proofs.walk.walk_all.Given as goal

abbrev pub invariant-loop-i : goal.invariant-loop-i
invariant-loop-i l = record {
  walk : IsWalk l.m l.walk;
  nowhere : l.walk.path ≡ [];
  seen : AreSeen l.m l.walk l.i;
}
