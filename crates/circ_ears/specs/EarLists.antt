-- Path lists by the numbers of their cables.
use Rattle.std.specs.Prelude.{◌≡◌, ℕ, suc, ◌≤◌, List, [], ◌∷◌, ◌++◌, length, max}
use Rattle.net_defs.specs.Network.{Network, IsFabric}
use Rattle.journal_defs.specs.declared.entry.Entry.{Entry}
use Rattle.map_defs.specs.NetMap.{NetMap}
use Rattle.circ_defs.specs.Ways.{IsOneOf, cables_on}
use Rattle.circ_defs.specs.PathList.{Ear, return_walk}
use Rattle.circ_defs.specs.Cores.{ArePathsOfCore, IsCoreCable}
use Rattle.circ_defs.specs.CircuitMap.{IsCircuitMap, IsMapOfCore}

-- a path and its return walk, each by the numbers of its cables in order
pub record EarNumbers : Type 0 where
  pub path : List ℕ
  pub back : List ℕ

-- the numbers of a path with its return walk
abbrev pub numbers_of : Ear → EarNumbers
numbers_of e = record { path = cables_on e.path; back = cables_on (return_walk e) }

-- the numbers of a path list, the path taken first in front
abbrev pub all_numbers : List Ear → List EarNumbers
all_numbers [] = []
all_numbers (e ∷ es) = all_numbers es ++ numbers_of e ∷ []

-- these are the numbers of a path list of the core, with its return walks
pub record AreNumbersOfCore (n : Network) (host : ℕ) (ns : List EarNumbers) : Type 0 where
  pub ears : List Ear
  pub paths : ArePathsOfCore n host ears
  pub are : ns ≡ all_numbers ears

-- the most cables that a return walk crosses, by its numbers
abbrev pub deepest : List EarNumbers → ℕ
deepest [] = 0
deepest (e ∷ es) = max (length e.back) (deepest es)

-- Where the depth is at least the most cables in a return walk of the path list that was made, the circuit map is the
-- core, up to each switch's offset.
abbrev pub MapAtThisDepthIsCore : Type 0
MapAtThisDepthIsCore = (n : Network) (host depth : ℕ) (ns : List EarNumbers) (j : List Entry) (k : NetMap)
    → IsFabric n → AreNumbersOfCore n host ns → deepest ns ≤ depth → IsCircuitMap n host depth j k
    → IsMapOfCore n host k

-- A return walk of the path list that was made crosses at most one cable more than any list that has the core's cables.
abbrev pub ReturnWalksAreShort : Type 0
ReturnWalksAreShort = (n : Network) (host : ℕ) (ns : List EarNumbers) (ks : List ℕ) → IsFabric n
    → AreNumbersOfCore n host ns → ((k : ℕ) → IsCoreCable n host k → IsOneOf k ks) → deepest ns ≤ suc (length ks)
