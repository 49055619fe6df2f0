-- What the command `map` does: the asks of a journal that grows to its depth, and the map of that journal.
use Rattle.std.specs.Prelude.{◌≡◌, ℕ, ◌<◌, List, [], map}
use Rattle.journal_defs.specs.declared.entry.Entry.{Entry}
use Rattle.journal_defs.specs.Growth.{IsGrown, IsEndedAtLimit, IsClosed}
use Rattle.map_defs.specs.NetMap.{NetMap}
use Rattle.map_defs.specs.Quotient.{IsQuotient}
use Rattle.map_defs.specs.Core.{core_of}
use Rattle.world_defs.specs.World.{WorldState}
use Rattle.world_defs.specs.Log.{Log}
use Rattle.world_defs.specs.Logs as log
use Rattle.run_defs.specs.declared.line.MapWords.{MapWords}
use Rattle.run_defs.specs.declared.line.MapWords.TheVariants.{Complete, Doubtful, IncompleteDepth, IncompleteNodes}

-- A map is called by the first of these words that holds.
pub data IsCalled (host : ℕ) (j : List Entry) (drowned : ℕ) : MapWords → Type 0 where
  too_many_nodes : IsEndedAtLimit j → IsCalled host j drowned IncompleteNodes
  too_shallow : ¬ IsEndedAtLimit j → ¬ IsClosed host j → IsCalled host j drowned IncompleteDepth
  doubted : ¬ IsEndedAtLimit j → IsClosed host j → 0 < drowned → IsCalled host j drowned (Doubtful drowned)
  right : ¬ IsEndedAtLimit j → IsClosed host j → drowned ≡ 0 → IsCalled host j drowned Complete

-- the asks of a journal from a host, with so many tries each; their mapper is made in the world before them
abbrev pub asks_of : ℕ → ℕ → List Entry → WorldState → Log log.AskedAll
asks_of host tries j w = log.asks w.links.cables.changes host tries (map (λ e. e.walk) j) w

-- A map is a journal's quotient with its core marked.
pub record IsMarkedMap (host : ℕ) (j : List Entry) (m : NetMap) : Type 0 where
  pub unmarked : NetMap
  pub quotient : IsQuotient host j unmarked
  pub marked : m ≡ record unmarked { core = core_of unmarked }

-- The asks of a journal that has grown from a host to a depth, with so many tries each, lead from one world to another.
-- Within the limit of nodes the map is the journal's, marked; at the limit none is made, and what stands for it is
-- without vertices. These words are what the map is called.
pub record IsMapped (host depth tries : ℕ) (before after : WorldState) (j : List Entry) (m : NetMap)
    (words : MapWords) : Type 0 where
  pub drowned : ℕ
  pub asked : (asks_of host tries j before).value ≡ record { entries = j; drowned = drowned }
  pub led : after ≡ (asks_of host tries j before).world
  pub grown : IsGrown host depth j
  pub within : ¬ IsEndedAtLimit j → IsMarkedMap host j m
  pub beyond : IsEndedAtLimit j → m ≡ record { vertices = []; cables = []; core = [] }
  pub called : IsCalled host j drowned words
