use Rattle.std.proofs.Common.{◌≡◌, take}
use Rattle.map_quotient.specs.Naming.{bare_map, vertices_of}
use Rattle.map_quotient.proofs.naming.named_for.Given as goal

abbrev pub invariant-loop-node : goal.invariant-loop-node
invariant-loop-node l = l.map ≡ bare_map (vertices_of l.j.host l.j.entries l.walks (take l.node-index l.least))
