use Rattle.std.proofs.Common.{◌≡◌, length, get_or, true, false}
use Rattle.map_defs.specs.NetMap.{map_edges}
use Rattle.map_defs.specs.Core.{without}
use Rattle.core_map.proofs.Spreading.{AreReached, unmarked}
use Rattle.core_map.proofs.side.side.Given as goal

abbrev pub invariant-spread : goal.invariant-spread
invariant-spread l = record {
  long : length l.marks.items ≡ length l.fn.m.vertices;
  reached : AreReached (map_edges (without l.fn.m.cables l.fn.k)) l.fn.v l.marks.items;
  marked : get_or l.marks.items l.fn.v false ≡ true;
}

abbrev pub decreases-spread : goal.decreases-spread
decreases-spread l = unmarked l.marks.items
