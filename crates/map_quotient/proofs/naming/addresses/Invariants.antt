use Rattle.std.proofs.Common.{◌≡◌, map, take}
use Rattle.journal_defs.specs.Tree.{host_of, nodes}
use Rattle.map_quotient.proofs.naming.addresses.Given as goal

abbrev pub invariant-loop-e : goal.invariant-loop-e
invariant-loop-e l = l.found.items ≡ map (host_of l.j.host l.j.entries) (nodes (take l.e-index l.j.entries))
