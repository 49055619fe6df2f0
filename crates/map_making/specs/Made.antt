-- What is made by mapping from a host: a map with its core marked, its words, and the number of asks.
use Rattle.std.specs.Prelude.{◌≡◌, ℕ, ℤ, List, length}
use Rattle.net_defs.specs.declared.place.Answer.{Answer}
use Rattle.journal_defs.specs.declared.entry.Entry.{Entry}
use Rattle.journal_defs.specs.Growth.{IsGrown, IsEndedAtLimit}
use Rattle.fabric_map.specs.Growing.{empty_map}
use Rattle.run_defs.specs.Mapped.{IsMarkedMap, IsCalled}
use Rattle.mapper.specs.Asks.{AreAsked}
use Rattle.map_making.specs.declared.making.MadeMap.{MadeMap}

-- Mapping from a host to a depth: a grown journal's asks lead the prober from the one state to the other, and the map
-- is the journal's, with its core marked, unless the journal ended at the limit of nodes. It is called by how the
-- journal ended and how many asks drowned.
pub record IsMade (S : Type 0) (asked : S → List ℤ → Answer → S
    → Type 0) (host depth : ℕ) (before : S) (drowned : ℕ) (m : MadeMap) (after : S) : Type 0 where
  pub journal : List Entry
  pub led : AreAsked S asked before journal after
  pub grown : IsGrown host depth journal
  pub within : ¬ IsEndedAtLimit journal → IsMarkedMap host journal m.map
  pub beyond : IsEndedAtLimit journal → m.map ≡ empty_map
  pub called : IsCalled host journal drowned m.words
  pub asks : m.asks ≡ length journal
