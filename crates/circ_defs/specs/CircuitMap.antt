-- The circuit map: the map of the whole tree, without the vertices that are outside.
use Rattle.std.specs.Prelude.{◌≡◌, ◌↔◌, ℕ, ◌<◌, ℤ, true, false, List, map, length, slice_get, Some}
use Rattle.net_defs.specs.declared.vertex.Vertex.{Vertex}
use Rattle.net_defs.specs.Network.{Network}
use Rattle.journal_defs.specs.declared.entry.Entry.{Entry}
use Rattle.map_defs.specs.NetMap.{NetMap, IsCabled, AreInOrder, host_of_vertex}
use Rattle.map_defs.specs.Quotient.{IsQuotient, named}
use Rattle.map_defs.specs.Core.{is_outside}
use Rattle.map_defs.specs.Sameness.{PortGraph, IsSame, Joined, address_of, graph_of_map}
use Rattle.circ_defs.specs.Circuit.{IsWholeTree}
use Rattle.circ_defs.specs.Cores.{IsCore}

-- a map without the vertices that are outside, as a port graph
abbrev pub graph_of_inside : NetMap → PortGraph ℕ
graph_of_inside m = record {
  IsIn = λ v. (v < length m.vertices) × (is_outside m v ≡ false);
  address = host_of_vertex m;
  Joins = λ v p w q. IsCabled m (record { v = v; p = p }) (record { v = w; p = q });
}

-- the core of a mapper's part, as a port graph
abbrev pub graph_of_core : Network → ℕ → PortGraph Vertex
graph_of_core n host = record { IsIn = IsCore n host; address = address_of; Joins = Joined n }

-- two ports of the smaller map are cabled, since the ports for which they stand are
pub record IsKeptCable (m : NetMap) (kept : List ℕ) (v : ℕ) (p : ℤ) (w : ℕ) (q : ℤ) : Type 0 where
  pub from : ℕ
  pub to : ℕ
  pub from_there : slice_get kept v ≡ Some from
  pub to_there : slice_get kept w ≡ Some to
  pub cabled : IsCabled m (record { v = from; p = p }) (record { v = to; p = q })

-- a vertex that is kept has a number in the smaller map
pub record HasNumber (kept : List ℕ) (u : ℕ) : Type 0 where
  pub number : ℕ
  pub there : slice_get kept number ≡ Some u

-- A map without the vertices of another that are outside: the others in their order, the switches numbered anew, and
-- the cables between them; all of it is core.
pub record IsWithoutOutside (m k : NetMap) : Type 0 where
  pub kept : List ℕ
  pub each : (v u : ℕ) → slice_get kept v ≡ Some u → (u < length m.vertices) × (is_outside m u ≡ false)
  pub in_order : (v w u x : ℕ) → v < w → slice_get kept v ≡ Some u → slice_get kept w ≡ Some x → u < x
  pub covered : (u : ℕ) → u < length m.vertices → is_outside m u ≡ false → HasNumber kept u
  pub vertices : k.vertices ≡ named 0 (map (host_of_vertex m) kept)
  pub cabled : (v w : ℕ) (p q : ℤ) → IsCabled k (record { v = v; p = p })
      (record { v = w; p = q }) ↔ IsKeptCable m kept v p w q
  pub cables_in_order : AreInOrder k.cables
  pub all_core : k.core ≡ map (λ v. true) k.vertices

-- The circuit map of a fabric to a depth is the map of its whole tree, without what is outside.
pub record IsCircuitMap (n : Network) (host depth : ℕ) (j : List Entry) (k : NetMap) : Type 0 where
  pub tree : IsWholeTree n host depth j
  pub with_outside : NetMap
  pub quotient : IsQuotient host j with_outside
  pub without_outside : IsWithoutOutside with_outside k

-- the core of a mapper's part, up to each switch's offset
abbrev pub IsMapOfCore : Network → ℕ → NetMap → Type 0
IsMapOfCore n host k = IsSame (graph_of_map k) (graph_of_core n host)
