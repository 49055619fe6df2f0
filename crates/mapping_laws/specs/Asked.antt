-- That there is a mapping wherever a map can be made: asks can be made until their journal has grown, and it has a map.
use Rattle.std.specs.Prelude.{◌≡◌, ℕ, List, map}
use Rattle.journal_defs.specs.declared.entry.Entry.{Entry}
use Rattle.journal_defs.specs.Growth.{IsGrown}
use Rattle.journal_defs.specs.Truth.{IsTrueWhereFound}
use Rattle.map_defs.specs.NetMap.{NetMap}
use Rattle.world_defs.specs.World.{WorldState, fabric_of}
use Rattle.world_defs.specs.Logs as log
use Rattle.run_defs.specs.declared.line.MapWords.{MapWords}
use Rattle.run_defs.specs.Mapped.{IsMapped}
use Rattle.mapping_laws.specs.Laws.{CanMap}

-- A journal that has grown to a depth, by asks of a host in a world; how many of them drowned, and the world then.
pub record HasAskedJournal (host depth tries : ℕ) (w : WorldState) : Type 0 where
  pub journal : List Entry
  pub drowned : ℕ
  pub after : WorldState
  pub asked : (log.asks w.links.cables.changes host tries (map (λ e. e.walk) journal) w).value
      ≡ record { entries = journal; drowned = drowned }
  pub led : after ≡ (log.asks w.links.cables.changes host tries (map (λ e. e.walk) journal) w).world
  pub grown : IsGrown host depth journal
  pub found : IsTrueWhereFound (fabric_of w) host journal

-- There is one wherever a map can be made, whatever is planned.
abbrev pub AskedJournalExists : Type 0
AskedJournalExists = (host depth tries : ℕ) (w : WorldState) → CanMap host depth w → HasAskedJournal host depth tries w

-- A mapping of a world to a depth, with so many tries an ask.
pub record HasMapping (host depth tries : ℕ) (before : WorldState) : Type 0 where
  pub after : WorldState
  pub journal : List Entry
  pub made : NetMap
  pub words : MapWords
  pub is : IsMapped host depth tries before after journal made words

-- There is one wherever a map can be made, whatever is planned.
abbrev pub MappingExists : Type 0
MappingExists = (host depth tries : ℕ) (w : WorldState) → CanMap host depth w → HasMapping host depth tries w
