-- Path lists: each has short return walks, and every host has one.
use Rattle.std.specs.Prelude.{ℕ, suc, ◌≤◌, List, length}
use Rattle.net_defs.specs.Network.{Network, IsFabric}
use Rattle.circ_defs.specs.Ways.{Step, IsOneOf, cables_in, ArePaths}
use Rattle.circ_defs.specs.PathList.{Ear, IsPathList, cables_of, most_back}
use Rattle.circ_defs.specs.Cores.{ArePathsOfCore, IsCoreCable}

-- a path list over the cables of paths
pub record HasReturns (n : Network) (host : ℕ) (ps : List (List Step)) : Type 0 where
  pub ears : List Ear
  pub list : IsPathList n host ears
  pub some : (k : ℕ) → IsOneOf k (cables_in ps) → IsOneOf k (cables_of ears)
  pub only : (k : ℕ) → IsOneOf k (cables_of ears) → IsOneOf k (cables_in ps)

-- Paths that were taken one by one have return walks.
abbrev pub PathsHaveReturns : Type 0
PathsHaveReturns = (n : Network) (host : ℕ) (ps : List (List Step)) → IsFabric n → ArePaths n host ps
    → HasReturns n host ps

-- A return walk of a path list crosses at most one cable more than the list has.
abbrev pub PathListsAreShort : Type 0
PathListsAreShort = (n : Network) (host : ℕ) (es : List Ear) → IsPathList n host es
    → most_back es ≤ suc (length (cables_of es))

-- A return walk of a path list of the core crosses at most one cable more than any list that has the core's cables.
abbrev pub CorePathListsAreShort : Type 0
CorePathListsAreShort = (n : Network) (host : ℕ) (es : List Ear) (ks : List ℕ) → IsFabric n → ArePathsOfCore n host es
    → ((k : ℕ) → IsCoreCable n host k → IsOneOf k ks) → most_back es ≤ suc (length ks)

-- a path list of the core, whose return walks cross at most one cable more than the core has
pub record HasPathList (n : Network) (host : ℕ) : Type 0 where
  pub ears : List Ear
  pub paths : ArePathsOfCore n host ears
  pub short : most_back ears ≤ suc (length (cables_of ears))

-- Every host of a fabric has a path list.
abbrev pub PathListsExist : Type 0
PathListsExist = (n : Network) (host : ℕ) → IsFabric n → HasPathList n host
