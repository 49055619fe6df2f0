-- What mapping from a host gives: a journal that has grown to a depth, how its growth ended, and its map.
use Rattle.std.specs.Prelude.{◌≡◌, ℕ, ◌≤◌, ℤ, Bool, List, MatchBool}
use Rattle.net_defs.specs.declared.place.Answer.{Answer}
use Rattle.net_defs.specs.Network.{Network}
use Rattle.fab_outer.specs.Fault.{Rose}
use Rattle.journal_defs.specs.declared.entry.Entry.{Entry}
use Rattle.journal_defs.specs.Depth.{IsSmallEnough, enough_depth}
use Rattle.journal_defs.specs.Growth.{IsGrown, IsEndedAtLimit}
use Rattle.journal_defs.specs.Truth.{IsTrueJournal, IsTrueWhereFound}
use Rattle.map_defs.specs.NetMap.{NetMap}
use Rattle.map_defs.specs.Quotient.{IsQuotient}
use Rattle.map_defs.specs.Sameness.{IsMapOfPart}
use Rattle.fabric_map.specs.Growing.{empty_map}
use Rattle.mapper.specs.Asks.{AreAsked}
use Rattle.mapper.specs.Ends.{IsEnd, IsOneDeeper}
use Rattle.mapper.specs.declared.mapping.MapEnd.TheVariants.{Closed}
use Rattle.mapper.specs.declared.mapping.Mapped.{Mapped}

-- The prober of a host was asked a journal that has grown to a depth, whose answers other than Nothing are true of the
-- fabric, and this is how the growth ended. While no ask drowned all answers are true; the map of a journal that ended
-- closed is then the host's part of the fabric; and a journal that is deep enough, in a fabric that is small enough,
-- ended so, and is the one to every greater depth too.
pub record MapsBy (S : Type 0) (asked : S → List ℤ → Answer → S
    → Type 0) (n : Network) (host depth : ℕ) (before : S) (lost : ℕ) (m : Mapped) (after : S)
    (now : ℕ) : Type 0 where
  pub same_host : m.journal.host ≡ host
  pub grown : IsGrown host depth m.journal.entries
  pub led : AreAsked S asked before m.journal.entries after
  pub found : IsTrueWhereFound n host m.journal.entries
  pub truth : (Rose lost now → ⊥) → IsTrueJournal n host m.journal.entries
  pub end : IsEnd host m.journal.entries m.end
  pub certificate : m.end ≡ Closed → (Rose lost now → ⊥) → IsMapOfPart n host m.map
  pub deep : (Rose lost now → ⊥) → enough_depth n host ≤ depth → IsSmallEnough n host → m.end ≡ Closed
  pub deeper : (Rose lost now → ⊥) → enough_depth n host ≤ depth → IsSmallEnough n host
      → IsOneDeeper n host depth m.journal.entries

-- The map of a journal within the limit of nodes; of one that ended at the limit none is made, and what stands for it
-- has no vertices.
pub record IsMapWithin (host : ℕ) (j : List Entry) (m : NetMap) : Type 0 where
  pub quotient : ¬ IsEndedAtLimit j → IsQuotient host j m
  pub none : IsEndedAtLimit j → m ≡ empty_map

-- the map that is made of a journal: always, or within the limit of nodes alone
abbrev pub IsMapIf : Bool → ℕ → List Entry → NetMap → Type 0
IsMapIf always host j m = MatchBool always (IsQuotient host j m) (IsMapWithin host j m)
