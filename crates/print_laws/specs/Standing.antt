-- A map that stands over a fabric: each vertex and cable that it shows is there, though it may show it twice, or lack
-- something.
use Rattle.std.specs.Prelude.{◌≡◌, ℕ, ◌<◌, ℤ, pos, ◌+ℤ◌, length, Some}
use Rattle.net_defs.specs.declared.vertex.Vertex.{Vertex}
use Rattle.net_defs.specs.Network.{Network}
use Rattle.journal_defs.specs.Part.{IsInPart}
use Rattle.map_defs.specs.NetMap.{NetMap, MapPort, IsCabled, host_of_vertex}
use Rattle.map_defs.specs.Sameness.{Joined, address_of}

-- Each vertex of the map stands over one of the mapper's part, a host over the host of its address and a switch over a
-- switch, and port p of a vertex over port p + offset of that; and over each cable of the map is one of the fabric.
pub record StandsOver (n : Network) (host : ℕ) (m : NetMap) : Type 0 where
  pub image : ℕ → Vertex
  pub offset : ℕ → ℤ
  pub image_in : (v : ℕ) → v < length m.vertices → IsInPart n host (image v)
  pub addresses : (v : ℕ) → v < length m.vertices → address_of (image v) ≡ host_of_vertex m v
  pub host_offsets : (v a : ℕ) → v < length m.vertices → host_of_vertex m v ≡ Some a → offset v ≡ pos 0
  pub cables : (d e : MapPort) → IsCabled m d e
      → Joined n (image d.v) (d.p +ℤ offset d.v) (image e.v) (e.p +ℤ offset e.v)
