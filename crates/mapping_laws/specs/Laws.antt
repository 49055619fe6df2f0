-- What holds of every mapping over the world of a fabric: whatever it found is there, and a map that it calls
-- complete is right.
use Rattle.std.specs.Prelude.{◌≡◌, ◌⊎◌, ℕ, ◌<◌, ◌≤◌, true, List}
use Rattle.world_defs.specs.History.{IsHistory}
use Rattle.world_defs.specs.Links.{is_idle}
use Rattle.journal_defs.specs.declared.entry.Entry.{Entry}
use Rattle.journal_defs.specs.Truth.{IsTrueJournal, IsTrueWhereFound}
use Rattle.journal_defs.specs.Depth.{enough_depth}
use Rattle.map_defs.specs.NetMap.{NetMap, IsMap, IsConnected}
use Rattle.map_defs.specs.Sameness.{IsMapOfPart}
use Rattle.world_defs.specs.World.{WorldState, fabric_of, host_count, last_count}
use Rattle.world_defs.specs.EightBits.{HasByteFaults}
use Rattle.world_laws.specs.Shape.{IsWorld}
use Rattle.ask_laws.specs.Kept.{IsAskKept}
use Rattle.run_defs.specs.declared.line.MapWords.{MapWords}
use Rattle.run_defs.specs.declared.line.MapWords.TheVariants.{Complete, Doubtful}
use Rattle.run_defs.specs.Mapped.{IsMapped}
use Rattle.run_defs.specs.Headline.{IsQuiet}

-- What a mapping is made over: a world whose cables are a history, with idle links, in which the mapper is a host, and
-- each planned flip has a pattern of eight bits. To a depth of 65 cables a walk has at most 64 turns, as many as a
-- probe carries.
pub record CanMap (host depth : ℕ) (w : WorldState) : Type 0 where
  pub history : IsHistory w.links.cables
  pub world : IsWorld w
  pub idle : is_idle w.links ≡ true
  pub is_host : host < host_count w
  pub byte_flips : HasByteFaults w
  pub shallow : depth ≤ 65

-- Whatever a mapping found is there in the fabric as it stood before, also where probes of it were lost.
abbrev pub FoundIsThere : Type 0
FoundIsThere =
    (host depth tries : ℕ) (before after : WorldState) (j : List Entry) (m : NetMap) (words : MapWords)
    → CanMap host depth before → IsMapped host depth tries before after j m words
    → IsTrueWhereFound (fabric_of before) host j

-- Where no ask drowned, all its answers are true.
abbrev pub UndrownedIsTrue : Type 0
UndrownedIsTrue =
    (host depth tries : ℕ) (before after : WorldState) (j : List Entry) (m : NetMap) (words : MapWords)
    → CanMap host depth before → (made : IsMapped host depth tries before after j m words) → made.drowned ≡ 0
    → IsTrueJournal (fabric_of before) host j

-- A map that was made keeps the rules of maps, whatever it is called.
abbrev pub MadeMapIsMap : Type 0
MadeMapIsMap =
    (host depth tries : ℕ) (before after : WorldState) (j : List Entry) (m : NetMap) (words : MapWords)
    → CanMap host depth before → IsMapped host depth tries before after j m words → IsMap m

-- It is connected.
abbrev pub MadeMapIsConnected : Type 0
MadeMapIsConnected =
    (host depth tries : ℕ) (before after : WorldState) (j : List Entry) (m : NetMap) (words : MapWords)
    → IsMapped host depth tries before after j m words → IsConnected m

-- A map that is called complete is the mapper's part of the fabric as it stood before, the ports of each switch counted
-- from elsewhere.
abbrev pub MadeMapIsRight : Type 0
MadeMapIsRight =
    (host depth tries : ℕ) (before after : WorldState) (j : List Entry) (m : NetMap)
    → CanMap host depth before → IsMapped host depth tries before after j m Complete
    → IsMapOfPart (fabric_of before) host m

-- A mapping changes no table, no connection and no port, and leaves a world in which the host can map again.
abbrev pub MappingKeeps : Type 0
MappingKeeps =
    (host depth tries : ℕ) (before after : WorldState) (j : List Entry) (m : NetMap) (words : MapWords)
    → CanMap host depth before → IsMapped host depth tries before after j m words
    → IsAskKept before after × CanMap host depth after

-- On a quiet fabric a map to the depth that suffices, with 1 to 8 tries an ask, is called complete.
abbrev pub DeepMapIsComplete : Type 0
DeepMapIsComplete =
    (host depth tries : ℕ) (before after : WorldState) (j : List Entry) (m : NetMap) (words : MapWords)
    → CanMap host depth before → IsMapped host depth tries before after j m words → IsQuiet host before after
    → 1 ≤ tries → tries ≤ 8 → enough_depth (fabric_of before) host ≤ depth → words ≡ Complete

-- A map that is called doubtful has its cause: where injections are left after it, a planned fault lost, held or
-- flipped a packet of it, or a cable went.
abbrev pub DoubtfulWasHarmed : Type 0
DoubtfulWasHarmed =
    (host depth tries drowned : ℕ) (before after : WorldState) (j : List Entry) (m : NetMap)
    → CanMap host depth before → IsMapped host depth tries before after j m (Doubtful drowned)
    → 1 ≤ tries → after.injected < last_count
    → (before.harmed < after.harmed) ⊎ (before.links.cables.changes < after.links.cables.changes)
