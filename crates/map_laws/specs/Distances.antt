-- D and Q are the distances that they are said to be: nothing in the mapper's part is farther, and something is as far.
use Rattle.std.specs.Prelude.{◌≡◌, ◌⊎◌, ℕ, ◌≤◌, true}
use Rattle.net_defs.specs.declared.vertex.Vertex.{Vertex}
use Rattle.net_defs.specs.declared.vertex.Vertex.TheVariants.{Host, Switch}
use Rattle.net_defs.specs.Network.{Network, IsFabric, has_vertex}
use Rattle.journal_defs.specs.Part.{Path, IsInPart, farthest, host_distance}

-- A vertex of the part to which no path from the mapper's host has fewer cables than D.
pub record IsFarthest (n : Network) (host : ℕ) (v : Vertex) : Type 0 where
  pub inside : IsInPart n host v
  pub far : (m : ℕ) → Path n (Host host) m v → farthest n host ≤ m

-- D is reached: some vertex of the part is as far.
abbrev pub FarthestIsReached : Type 0
FarthestIsReached = (n : Network) (host : ℕ) → IsFabric n → has_vertex n (Host host) ≡ true
    → (v : Vertex) × IsFarthest n host v

-- A switch of the part from which no path to a host has fewer cables than Q.
pub record IsRemote (n : Network) (host s : ℕ) : Type 0 where
  pub inside : IsInPart n host (Switch s)
  pub far : (a m : ℕ) → Path n (Switch s) m (Host a) → host_distance n host ≤ m

-- Q is reached, where it isn't 0: some switch of the part has no host nearer.
abbrev pub HostDistanceIsReached : Type 0
HostDistanceIsReached = (n : Network) (host : ℕ) → IsFabric n → has_vertex n (Host host) ≡ true
    → (host_distance n host ≡ 0) ⊎ ((s : ℕ) × IsRemote n host s)
