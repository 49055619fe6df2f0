-- The two walks of which a return walk is made.
use Rattle.std.specs.Prelude.{◌≡◌, ◌⊎◌, ℕ, true, List, [], ◌∷◌, ◌++◌}
use Rattle.net_defs.specs.declared.vertex.Vertex.{Vertex}
use Rattle.net_defs.specs.declared.vertex.Vertex.TheVariants.{Host}
use Rattle.net_defs.specs.Network.{Network}
use Rattle.net_defs.specs.Route.{host_port}
use Rattle.circ_defs.specs.Circuit.{are_apart}
use Rattle.circ_defs.specs.Ways.{Step, IsWay, IsTouched, AreAmong, AreNone, cables_on, cables_in, ArePaths}

-- the end of a way home: nothing, or the mapper's own cable back
abbrev pub IsHomeward : ℕ → List Step → Type 0
IsHomeward host [] = Unit {0}
IsHomeward host (s ∷ ss) = (s.into ≡ host_port host) × (ss ≡ [])

-- Two walks go over these cables, one from the mapper's host to the first vertex, one from the second vertex to some
-- host. They have no cable in common, and none twice, but the mapper's own.
pub record HasTwo (n : Network) (host : ℕ) (gs : List ℕ) (x y : Vertex) : Type 0 where
  pub there : List Step
  pub body : List Step
  pub tail : List Step
  pub h : ℕ
  pub way_there : IsWay n (Host host) there x
  pub way_home : IsWay n y (body ++ tail) (Host h)
  pub there_among : AreAmong (cables_on there) gs
  pub home_among : AreAmong (cables_on (body ++ tail)) gs
  pub there_apart : are_apart (cables_on there) ≡ true
  pub body_apart : are_apart (cables_on body) ≡ true
  pub disjoint : AreNone (cables_on body) (cables_on there)
  pub homeward : IsHomeward host tail

-- Any two vertices of paths that were taken one by one have two such walks, in some order.
abbrev pub PathsHaveTwoWalks : Type 0
PathsHaveTwoWalks = (n : Network) (host : ℕ) (ps : List (List Step)) (x y : Vertex) → ArePaths n host ps
    → IsTouched n (cables_in ps) x → IsTouched n (cables_in ps) y
    → HasTwo n host (cables_in ps) x y ⊎ HasTwo n host (cables_in ps) y x
