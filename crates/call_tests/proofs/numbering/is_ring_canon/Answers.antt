use Rattle.std.proofs.Common.{refl, sym, ap, subst}
use Rattle.map_defs.specs.NetMap.{NetMap, IsConnected, host_of_vertex}
use Rattle.map_defs.proofs.Levels.{connected-by}
use Rattle.map_renumber.specs.Examples.{ring_map}
use Rattle.call_tests.proofs.numbering.is_ring_canon.Goals as goal

pub is_canon-requires-clause-connected : goal.is_canon-requires-clause-connected
is_canon-requires-clause-connected c = subst IsConnected (sym c.in-Ok.ensures) (connected-by ring_map refl)

pub is_canon-requires-clause-host : goal.is_canon-requires-clause-host
is_canon-requires-clause-host c = (0, ap (λ (m : NetMap). host_of_vertex m 0) c.in-Ok.ensures)
