-- The routes before this place are the same.
use Rattle.std.proofs.Common.{◌≡◌, drop}
use Rattle.net_defs.specs.RouteSet.{same_routes}
use Rattle.adopted_routes.proofs.same.are_same.Given as goal

abbrev pub invariant-loop-i : goal.invariant-loop-i
invariant-loop-i l = same_routes (drop l.i l.routes) (drop l.i l.others) ≡ same_routes l.routes l.others
