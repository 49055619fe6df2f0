use Rattle.std.proofs.Common.{◌≡◌, map, take}
use Rattle.map_defs.specs.NetMap.{host_of_vertex}
use Rattle.map_defs.specs.Quotient.{named}
use Rattle.map_renumber.specs.Canon.{is_of_core}
use Rattle.map_renumber.specs.Naming.{bare_map}
use Rattle.map_renumber.proofs.naming.vertices_of.Given as goal

abbrev pub invariant-loop-entry : goal.invariant-loop-entry
invariant-loop-entry l = l.map ≡ bare_map (named 0 (map (λ d. host_of_vertex l.m d.0) (take l.entry-index l.found))) (map (λ d. is_of_core l.m d.0) (take l.entry-index l.found))
