-- What mapping over circuit links answers.
use Rattle.std.specs.Prelude.{◌≡◌, ℕ, ◌≤◌, Bool, true, false, List, length}
use Rattle.net_defs.specs.Network.{Network}
use Rattle.journal_defs.specs.declared.entry.Entry.{Entry}
use Rattle.map_defs.specs.NetMap.{NetMap}
use Rattle.map_defs.specs.Quotient.{IsQuotient}
use Rattle.fabric_map.specs.Growing.{empty_map}
use Rattle.circ_defs.specs.Asking.{IsTreeGrowing, IsTreeEnded}
use Rattle.circ_defs.specs.CircuitMap.{IsCircuitMap, IsMapOfCore, IsWithoutOutside}
use Rattle.circ_defs.specs.PathList.{Ear, most_back}
use Rattle.circ_defs.specs.Cores.{ArePathsOfCore}
use Rattle.circ_map.specs.Growing.{IsPassed}
use Rattle.circ_map.specs.declared.mapping.CircEnd.{CircEnd}
use Rattle.circ_map.specs.declared.mapping.CircEnd.TheVariants.{Whole, Nodes}

-- the map of what a journal found, without what is outside
pub record HasInside (host : ℕ) (found : List Entry) (k : NetMap) : Type 0 where
  pub with_outside : NetMap
  pub quotient : IsQuotient host found with_outside
  pub without_outside : IsWithoutOutside with_outside k

-- The whole tree was asked in walk order, by so many asks; its nodes keep the limit, and this is its circuit map.
pub record IsMappedWhole (n : Network) (host depth : ℕ) (map : NetMap) (asks : ℕ) : Type 0 where
  pub journal : List Entry
  pub growing : IsTreeGrowing n host depth journal
  pub ended : IsTreeEnded depth journal
  pub asks_is : asks ≡ length journal
  pub map_is : IsCircuitMap n host depth journal map

-- what is answered with each end: with Nodes there is no map
abbrev pub IsMappedBy : Network → ℕ → ℕ → NetMap → ℕ → CircEnd → Type 0
IsMappedBy n host depth map asks Whole = IsMappedWhole n host depth map asks
IsMappedBy n host depth map asks Nodes = IsPassed n host depth asks × (map ≡ empty_map)

-- What is made of a tree: its map where it is whole.
pub record IsTreeMapped (host : ℕ) (found : List Entry) (asked : ℕ) (whole : Bool) (map : NetMap) (asks : ℕ)
    (end : CircEnd) : Type 0 where
  pub counted : asks ≡ asked
  pub mapped : whole ≡ true → (end ≡ Whole) × HasInside host found map
  pub passed : whole ≡ false → (end ≡ Nodes) × (map ≡ empty_map)

-- Where the depth is at least the most cables in a return walk of some path list of the core, the map is the core, up
-- to each switch's offset.
abbrev pub IsCoreWhereDeep : Network → ℕ → ℕ → NetMap → Type 0
IsCoreWhereDeep n host depth map = (es : List Ear) → ArePathsOfCore n host es → most_back es ≤ depth
    → IsMapOfCore n host map
