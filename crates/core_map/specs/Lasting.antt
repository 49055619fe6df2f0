-- Vertices that no cable between two switches cuts off from all hosts.
use Rattle.std.specs.Prelude.{◌≡◌, ◌⊎◌, ℕ, true, slice_get, Some}
use Rattle.std.specs.Prelude.{is_some}
use Rattle.map_defs.specs.declared.vertex.MapCable.{MapCable}
use Rattle.map_defs.specs.NetMap.{NetMap, host_of_vertex, is_switch_vertex}
use Rattle.core_map.specs.Laws.{IsJoinedWithout}

-- a path without a cable joins a vertex to a host
pub record HasHostWithout (m : NetMap) (k v : ℕ) : Type 0 where
  pub host : ℕ
  pub joined : IsJoinedWithout m k v host
  pub is_host : is_some (host_of_vertex m host) ≡ true

-- A cable joins two switches.
pub record IsBetweenSwitches (m : NetMap) (k : ℕ) : Type 0 where
  pub cable : MapCable
  pub there : slice_get m.cables k ≡ Some cable
  pub first : is_switch_vertex m cable.v ≡ true
  pub second : is_switch_vertex m cable.w ≡ true

-- a host is joined to a vertex whichever cable between two switches is taken away
abbrev pub Lasts : NetMap → ℕ → Type 0
Lasts m v = (k : ℕ) → IsBetweenSwitches m k → HasHostWithout m k v

-- The cable of a number joins two vertices, one way or the other.
pub record IsJoinedBy (m : NetMap) (i v w : ℕ) : Type 0 where
  pub cable : MapCable
  pub there : slice_get m.cables i ≡ Some cable
  pub ends : ((cable.v ≡ v) × (cable.w ≡ w)) ⊎ ((cable.w ≡ v) × (cable.v ≡ w))
