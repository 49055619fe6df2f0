use Rattle.std.proofs.Common.{◌≡◌, ◌++◌, drop}
use Rattle.fab_remap.specs.Remap.{stuck_pairs}
use Rattle.fab_remap.proofs.broken_routes.stuck_pairs.Given as goal

abbrev pub invariant-loop-r : goal.invariant-loop-r
invariant-loop-r l = l.pairs.items ++ stuck_pairs l.w (drop l.r-index l.routes) ≡ stuck_pairs l.w l.routes
