-- The promise of a run, for scripts of one map over the two hosts at one switch.
use Rattle.std.specs.Prelude.{◌≡◌, ℕ, ◌≤◌, List, [], ◌∷◌}
use Rattle.net_defs.specs.Examples.{two_hosts}
use Rattle.journal_defs.specs.declared.entry.Entry.{Entry}
use Rattle.journal_defs.specs.Examples.{two_hosts_journal}
use Rattle.map_defs.specs.NetMap.{NetMap}
use Rattle.world_defs.specs.World.{WorldState, new_world}
use Rattle.run_defs.specs.declared.command.Command.TheVariants.{Map, Finish}
use Rattle.run_defs.specs.declared.line.MapWords.{MapWords}
use Rattle.run_defs.specs.declared.line.MapWords.TheVariants.{Complete}
use Rattle.run_defs.specs.Mapped.{IsMapped}
use Rattle.run_defs.specs.Headline.{CompleteIsTrue}
use Rattle.run_defs.specs.Examples.{mapped_world, setup_map}

-- Every mapping of the first world from host 0 with one try an ask, to a depth of two cables or more, has one
-- journal, one map and one world after it, and says complete.
abbrev pub MappingIsComplete : Type 0
MappingIsComplete =
    (depth : ℕ) (after : WorldState) (j : List Entry) (m : NetMap) (words : MapWords) → 2 ≤ depth
    → IsMapped 0 depth 1 (new_world two_hosts) after j m words
    → (after ≡ mapped_world) × (j ≡ two_hosts_journal) × (m ≡ setup_map) × (words ≡ Complete)

-- whatever map a run of such a script prints under the word complete is the mapper's part of the fabric
abbrev pub MapsAreRight : Type 0
MapsAreRight = (depth : ℕ) → 2 ≤ depth → CompleteIsTrue two_hosts (Map 0 depth 1 ∷ Finish ∷ [])
