-- The core by paths: outside is what some cable between two switches, taken away, leaves on a side without hosts.
use Rattle.std.specs.Prelude.{◌≡◌, ◌⊎◌, ◌↔◌, ℕ, true, slice_get, Some}
use Rattle.journal_defs.specs.Edges.{Steps}
use Rattle.map_defs.specs.declared.vertex.MapCable.{MapCable}
use Rattle.map_defs.specs.NetMap.{NetMap, IsMap, map_edges, host_of_vertex, is_switch_vertex}
use Rattle.map_defs.specs.Core.{without, is_outside, is_switch_bridge}

-- a path without a cable joins two vertices
pub record IsJoinedWithout (m : NetMap) (k v u : ℕ) : Type 0 where
  pub cables : ℕ
  pub path : Steps (map_edges (without m.cables k)) v cables u

-- A cable between two switches, taken away, leaves a vertex on the side of one of its ends, and no host.
pub record IsCutOffBy (m : NetMap) (k u : ℕ) : Type 0 where
  pub cable : MapCable
  pub there : slice_get m.cables k ≡ Some cable
  pub first_switch : is_switch_vertex m cable.v ≡ true
  pub second_switch : is_switch_vertex m cable.w ≡ true
  pub end : ℕ
  pub one_end : (end ≡ cable.v) ⊎ (end ≡ cable.w)
  pub joined : IsJoinedWithout m k end u
  pub no_host : (w h : ℕ) → IsJoinedWithout m k end w → host_of_vertex m w ≡ Some h → ⊥

-- A vertex is outside exactly where some cable cuts it off; all others are of the core.
abbrev pub OutsideIsByPaths : Type 0
OutsideIsByPaths = (m : NetMap) (u : ℕ) → IsMap m → (is_outside m u ≡ true) ↔ ((k : ℕ) × IsCutOffBy m k u)

-- A cable is a switch bridge exactly where it cuts something off.
abbrev pub BridgesAreByPaths : Type 0
BridgesAreByPaths = (m : NetMap) (k : ℕ) → IsMap m → (is_switch_bridge m k ≡ true) ↔ ((u : ℕ) × IsCutOffBy m k u)
