use Rattle.std.proofs.Common.{◌≡◌, take}
use Rattle.port_graph.proofs.routes.RouteSet.copied.Given as goal

abbrev pub invariant-loop-r : goal.invariant-loop-r
invariant-loop-r l = l.routes.items ≡ take l.r-index l.r-items
