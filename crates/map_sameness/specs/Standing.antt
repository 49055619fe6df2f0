-- Which vertex of a fabric a vertex of a map must stand for, if the map is right.
use Rattle.std.specs.Prelude.{◌≡◌, ℕ, ℤ, pos, ◌-ℤ◌, Some}
use Rattle.net_defs.specs.declared.vertex.Vertex.{Vertex}
use Rattle.net_defs.specs.declared.vertex.Vertex.TheVariants.{Host}
use Rattle.net_defs.specs.declared.vertex.End.{End}
use Rattle.net_defs.specs.Network.{Network, far}
use Rattle.map_defs.specs.NetMap.{NetMap, MapPort, map_far}
use Rattle.map_defs.specs.Routing.{vertex_of_host}

-- A vertex of the map stands for one of the fabric, port p of it for port p + offset: the mapper's host for itself, and
-- where a vertex stands for one, the far ends of a port of both stand for each other.
pub data Stands (n : Network) (host : ℕ) (m : NetMap) : ℕ → Vertex → ℤ → Type 0 where
  start : {v : ℕ} → vertex_of_host m host ≡ Some v → Stands n host m v (Host host) (pos 0)
  over : {v : ℕ} {x : Vertex} {offset : ℤ} → Stands n host m v x offset → (p : ℕ) (e : End) (d : MapPort)
      → far n (record { v = x; p = p }) ≡ Some e → map_far m (record { v = v; p = pos p -ℤ offset }) ≡ Some d
      → Stands n host m d.v e.v (pos e.p -ℤ d.p)
