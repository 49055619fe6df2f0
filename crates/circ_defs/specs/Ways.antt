-- Ways over the cables of a fabric, which they name by number.
use Rattle.std.specs.Prelude.{◌≡◌, ◌⊎◌, ℕ, true, List, [], ◌∷◌, ◌++◌, slice_get, Some}
use Rattle.std.specs.List.{AllByRecursion}
use Rattle.net_defs.specs.declared.vertex.Vertex.{Vertex}
use Rattle.net_defs.specs.declared.vertex.Vertex.TheVariants.{Host}
use Rattle.net_defs.specs.declared.vertex.End.{End}
use Rattle.net_defs.specs.declared.vertex.Cable.{Cable}
use Rattle.net_defs.specs.Network.{Network}
use Rattle.net_defs.specs.Route.{host_port}
use Rattle.circ_defs.specs.Circuit.{are_apart}

-- the cable of this number leads from one of its ends to the other
pub data Joins (n : Network) (k : ℕ) : End → End → Type 0 where
  forth : {c : Cable} → slice_get n.cables k ≡ Some c → Joins n k c.a c.b
  back : {c : Cable} → slice_get n.cables k ≡ Some c → Joins n k c.b c.a

-- a cable, crossed out of one end into the other
pub record Step : Type 0 where
  pub cable : ℕ
  pub out : End
  pub into : End

-- a step crosses its cable in the fabric
abbrev pub IsStep : Network → Step → Type 0
IsStep n s = Joins n s.cable s.out s.into

-- steps that lead from a vertex to a vertex
abbrev pub IsWay : Network → Vertex → List Step → Vertex → Type 0
IsWay n x [] z = x ≡ z
IsWay n x (s ∷ ss) z = IsStep n s × (s.out.v ≡ x) × IsWay n s.into.v ss z

-- the cables that steps cross, in order
abbrev pub cables_on : List Step → List ℕ
cables_on [] = []
cables_on (s ∷ ss) = s.cable ∷ cables_on ss

-- a number is one of these
abbrev pub IsOneOf : ℕ → List ℕ → Type 0
IsOneOf k [] = ⊥
IsOneOf k (l ∷ ls) = (k ≡ l) ⊎ IsOneOf k ls

-- all of these are among those
abbrev pub AreAmong : List ℕ → List ℕ → Type 0
AreAmong ks ls = AllByRecursion (λ k. IsOneOf k ls) ks

-- none of these is one of those
abbrev pub AreNone : List ℕ → List ℕ → Type 0
AreNone ks ls = AllByRecursion (λ k. ¬ IsOneOf k ls) ks

-- one of these cables ends at a vertex
pub record IsTouched (n : Network) (ks : List ℕ) (x : Vertex) : Type 0 where
  pub cable : ℕ
  pub from : End
  pub to : End
  pub one_of : IsOneOf cable ks
  pub joins : Joins n cable from to
  pub there : from.v ≡ x

-- a way of at least one step whose inner vertices are different and at none of the old cables
abbrev pub IsNewWay : Network → List ℕ → Vertex → List Step → Vertex → Type 0
IsNewWay n old x [] z = ⊥
IsNewWay n old x (s ∷ []) z = IsStep n s × (s.out.v ≡ x) × (s.into.v ≡ z)
IsNewWay n old x (s ∷ t ∷ ss) z = IsStep n s × (s.out.v ≡ x) × (¬ IsTouched n old s.into.v)
    × IsNewWay n (s.cable ∷ old) s.into.v (t ∷ ss) z

-- the mapper's own cable, crossed from its host
pub record IsOwnCable (n : Network) (host : ℕ) (path : List Step) : Type 0 where
  pub cable : ℕ
  pub into : End
  pub joins : Joins n cable (host_port host) into
  pub is : path ≡ record { cable = cable; out = host_port host; into = into } ∷ []

-- A path that is taken after old cables: it begins at one of them, ends at one of them or at a host, and crosses
-- other cables, none twice.
pub record IsPath (n : Network) (old : List ℕ) (path : List Step) : Type 0 where
  pub start : Vertex
  pub end : Vertex
  pub across : IsNewWay n old start path end
  pub starts : IsTouched n old start
  pub ends : IsTouched n old end ⊎ ((h : ℕ) × (end ≡ Host h))
  pub is_new : AreNone (cables_on path) old
  pub apart : are_apart (cables_on path) ≡ true

-- the cables of paths, the last path first
abbrev pub cables_in : List (List Step) → List ℕ
cables_in [] = []
cables_in (p ∷ ps) = cables_on p ++ cables_in ps

-- paths taken one by one, the last one first: the mapper's own cable is the first that is taken
abbrev pub ArePaths : Network → ℕ → List (List Step) → Type 0
ArePaths n host [] = ⊥
ArePaths n host (p ∷ []) = IsOwnCable n host p
ArePaths n host (p ∷ q ∷ ps) = IsPath n (cables_in (q ∷ ps)) p × ArePaths n host (q ∷ ps)
