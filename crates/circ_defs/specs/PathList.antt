-- Path lists: paths with return walks, which lead a probe over all cables of the path to a host.
use Rattle.std.specs.Prelude.{◌≡◌, ◌≢◌, ◌⊎◌, ℕ, List, [], ◌∷◌, ◌++◌, None, length, max}
use Rattle.net_defs.specs.declared.vertex.Vertex.{Vertex}
use Rattle.net_defs.specs.declared.vertex.Vertex.TheVariants.{Host}
use Rattle.net_defs.specs.Network.{Network, far}
use Rattle.net_defs.specs.Route.{host_port}
use Rattle.circ_defs.specs.Ways.{Step, IsWay, IsNewWay, IsOneOf, AreAmong, AreNone, IsTouched, IsOwnCable, cables_on}

-- A path has its return walk: over the cables before it, across it, and over those after it. (It is an ear, as graphs
-- without bridges have them.)
pub record Ear : Type 0 where
  pub before : List Step
  pub path : List Step
  pub after : List Step

-- the return walk
abbrev pub return_walk : Ear → List Step
return_walk ear = ear.before ++ (ear.path ++ ear.after)

-- Steps after a last one that cross no cable twice, nor one of these, but that the last may lead home over the
-- mapper's own, not straight back.
abbrev pub CrossesOnce : ℕ → ℕ → List ℕ → List Step → Type 0
CrossesOnce host last ks [] = Unit {0}
CrossesOnce host last ks (s ∷ ss) = ((¬ IsOneOf s.cable ks) × CrossesOnce host s.cable (s.cable ∷ ks) ss)
    ⊎ ((s.into ≡ host_port host) × (s.cable ≢ last) × (ss ≡ []))

-- A path that is taken after old cables, with a return walk over these and its own, which crosses no cable twice but
-- the mapper's.
pub record IsEar (n : Network) (host : ℕ) (old : List ℕ) (ear : Ear) : Type 0 where
  pub start : Vertex
  pub end : Vertex
  pub last : ℕ
  pub there : IsWay n (Host host) ear.before start
  pub across : IsNewWay n old start ear.path end
  pub home : IsWay n end ear.after (Host last)
  pub starts : IsTouched n old start
  pub before_old : AreAmong (cables_on ear.before) old
  pub after_old : AreAmong (cables_on ear.after) old
  pub is_new : AreNone (cables_on ear.path) old
  pub first : Step
  pub rest : List Step
  pub begins : return_walk ear ≡ first ∷ rest
  pub once : CrossesOnce host first.cable (first.cable ∷ []) rest

-- the cables of the paths, the last path first
abbrev pub cables_of : List Ear → List ℕ
cables_of [] = []
cables_of (e ∷ es) = cables_on e.path ++ cables_of es

-- the first path is the mapper's own cable, which needs no more to be found
pub record IsFirstEar (n : Network) (host : ℕ) (ear : Ear) : Type 0 where
  pub own : IsOwnCable n host ear.path
  pub nothing_before : ear.before ≡ []
  pub nothing_after : ear.after ≡ []

-- A path list has paths taken one by one, the last one first. It is empty where the mapper has no cable.
abbrev pub IsPathList : Network → ℕ → List Ear → Type 0
IsPathList n host [] = far n (host_port host) ≡ None
IsPathList n host (e ∷ []) = IsFirstEar n host e
IsPathList n host (e ∷ f ∷ es) = IsEar n host (cables_of (f ∷ es)) e × IsPathList n host (f ∷ es)

-- the most cables that a return walk crosses
abbrev pub most_back : List Ear → ℕ
most_back [] = 0
most_back (e ∷ es) = max (length (return_walk e)) (most_back es)
