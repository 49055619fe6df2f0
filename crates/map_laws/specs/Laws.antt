-- The laws of a mapper's growth: its journal is one, it is short, and the depth that suffices to close it.
use Rattle.std.specs.Prelude.{◌≡◌, ◌≢◌, ◌⊎◌, ℕ, ◌+◌, ◌*◌, ◌≤◌, ℤ, true, List, ◌∷◌, ◌++◌, length}
use Rattle.net_defs.specs.declared.vertex.Vertex.TheVariants.{Host}
use Rattle.net_defs.specs.declared.place.Answer.{Answer}
use Rattle.net_defs.specs.declared.place.Answer.TheVariants.{Nothing}
use Rattle.net_defs.specs.Network.{Network, IsFabric, has_vertex}
use Rattle.net_defs.specs.Route.{answer}
use Rattle.journal_defs.specs.declared.entry.Entry.{Entry}
use Rattle.journal_defs.specs.Tree.{nodes, reached}
use Rattle.journal_defs.specs.Truth.{IsTrueJournal, IsTrueWhereFound}
use Rattle.journal_defs.specs.Growth.{NextAsk, node_limit, IsGrowing, IsGrown, IsEndedByDepth, IsEndedAtLimit, IsClosed}
use Rattle.journal_defs.specs.Part.{farthest, host_distance}
use Rattle.journal_defs.specs.Depth.{IsSmallEnough, enough_depth}

-- Each answer is what is said of its walk after the entries before it: by a fabric, or by a world that probes have
-- changed.
pub record IsTold (tell : List Entry → List ℤ → Answer) (j : List Entry) : Type 0 where
  pub told : (before : List Entry) (e : Entry) (rest : List Entry) → j ≡ before ++ e ∷ rest
      → e.answer ≡ tell before e.walk

-- Two journals that are answered so and have grown to one depth are one journal.
abbrev pub ToldJournalIsOne : Type 0
ToldJournalIsOne = (tell : List Entry → List ℤ → Answer) (host depth : ℕ) (j l : List Entry) → IsTold tell j
    → IsTold tell l → IsGrown host depth j → IsGrown host depth l → j ≡ l

-- What is said is true of a fabric wherever it finds something.
abbrev pub TellsTruth : Network → ℕ → (List Entry → List ℤ → Answer) → Type 0
TellsTruth n host tell = (j : List Entry) (w : List ℤ) → tell j w ≢ Nothing → tell j w ≡ answer n host w

-- Then there is such a journal, for every depth.
abbrev pub ToldJournalExists : Type 0
ToldJournalExists = (n : Network) (host depth : ℕ) (tell : List Entry → List ℤ → Answer) → IsFabric n
    → TellsTruth n host tell → (j : List Entry) × IsTold tell j × IsTrueWhereFound n host j × IsGrown host depth j

-- So two journals of true answers that have grown to one depth are one journal.
abbrev pub GrownJournalIsOne : Type 0
GrownJournalIsOne = (n : Network) (host depth : ℕ) (j l : List Entry) → IsTrueJournal n host j
    → IsTrueJournal n host l → IsGrown host depth j → IsGrown host depth l → j ≡ l

-- And over every fabric there is one.
abbrev pub GrownJournalExists : Type 0
GrownJournalExists = (n : Network) (host depth : ℕ) → IsFabric n
    → (j : List Entry) × IsTrueJournal n host j × IsGrown host depth j

-- A growing journal whose answers are true where they found something has a next ask, or its growth has ended by its
-- depth.
abbrev pub GrowthGoesOnOrEnds : Type 0
GrowthGoesOnOrEnds = (n : Network) (host depth : ℕ) (j : List Entry) → IsFabric n → IsTrueWhereFound n host j
    → IsGrowing host depth j → length (nodes j) ≤ node_limit
    → ((x : List ℤ) × NextAsk host depth j x) ⊎ IsEndedByDepth host depth j

-- A journal that grows has at most 30 asks for each walk that found something, and one more.
abbrev pub AsksAreFew : Type 0
AsksAreFew = (host depth : ℕ) (j : List Entry) → IsGrowing host depth j → length j ≤ 1 + 30 * length (reached j)

-- How a journal ends that has grown to a sufficient depth: no class of switches is left to expand, and a greater
-- depth changes nothing.
pub record EndsClosed (host depth : ℕ) (j : List Entry) : Type 0 where
  pub closed : IsClosed host j
  pub by_depth : IsEndedByDepth host depth j
  pub not_at_limit : ¬ IsEndedAtLimit j
  pub deeper : (more : ℕ) → depth ≤ more → IsGrown host more j

-- Where every answer is true of a fabric, a depth of Q + D + 1 suffices.
abbrev pub DepthSuffices : Type 0
DepthSuffices = (n : Network) (host depth : ℕ) (j : List Entry) → IsFabric n → has_vertex n (Host host) ≡ true
    → enough_depth n host ≤ depth → IsSmallEnough n host → IsTrueJournal n host j → IsGrown host depth j
    → EndsClosed host depth j

-- A fabric with a host, and their journal to depth Q + D, in which some class of switches has no expanded member.
pub record IsOpenBelow (n : Network) (host : ℕ) (j : List Entry) : Type 0 where
  pub fabric : IsFabric n
  pub there : has_vertex n (Host host) ≡ true
  pub small : IsSmallEnough n host
  pub truth : IsTrueJournal n host j
  pub grown : IsGrown host (host_distance n host + farthest n host) j
  pub not_closed : ¬ IsClosed host j

-- A depth of Q + D does not suffice.
abbrev pub BoundIsTight : Type 0
BoundIsTight = (n : Network) × (host : ℕ) × (j : List Entry) × IsOpenBelow n host j
