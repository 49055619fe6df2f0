-- What holds of every mapping.
use Rattle.std.specs.Prelude.{◌≡◌, ℕ, List}
use Rattle.journal_defs.specs.declared.entry.Entry.{Entry}
use Rattle.map_defs.specs.NetMap.{NetMap}
use Rattle.world_defs.specs.World.{WorldState}
use Rattle.run_defs.specs.declared.line.MapWords.{MapWords}
use Rattle.run_defs.specs.Mapped.{IsMapped}

-- A host's mapping of a world to a depth, with so many tries an ask, is one: the world after it, the journal, the
-- map and its words.
abbrev pub MappingIsOne : Type 0
MappingIsOne =
    (host depth tries : ℕ) (before v w : WorldState) (j l : List Entry) (m k : NetMap) (x y : MapWords)
    → IsMapped host depth tries before v j m x → IsMapped host depth tries before w l k y
    → (v ≡ w) × (j ≡ l) × (m ≡ k) × (x ≡ y)
