-- How a journal grows by what a prober answers.
use Rattle.std.specs.Prelude.{◌≡◌, ◌⊎◌, ℕ, ◌+◌, ◌<◌, ◌≤◌, ℤ, true, false, List, [], ◌++◌, length, slice_get, Some}
use Rattle.std.specs.Prelude.{if◌then◌else◌, nat_lt}
use Rattle.net_defs.specs.declared.place.Answer.{Answer}
use Rattle.net_defs.specs.declared.place.Answer.TheVariants.{Switch}
use Rattle.net_defs.specs.Network.{Network, IsFabric}
use Rattle.fab_outer.specs.Fault.{Rose}
use Rattle.journal_defs.specs.declared.entry.Entry.{Entry}
use Rattle.journal_defs.specs.Tree.{IsJournal, is_asked, is_found, nodes}
use Rattle.journal_defs.specs.Tree.Node.{Reached}
use Rattle.journal_defs.specs.Truth.{IsTrueJournal, IsTrueWhereFound}
use Rattle.journal_defs.specs.Growth.{IsGrowing, IsAtRest, IsExpanded, HasExpanded, IsGrown, IsEndedAtLimit, NextAsk}
use Rattle.journal_defs.specs.Growth.{crossed, node_limit}
use Rattle.probe.specs.Keeping.{with_entry}
use Rattle.probe.specs.Drowning.{IsTrueOrDrowned}
use Rattle.replicate_merge.specs.Next.{IsNext}
use Rattle.replicate_merge.specs.Table.{ClassTable, StandsFor}
use Rattle.mapper.specs.Asks.{AreAsked}
use Rattle.mapper.specs.Finding.{IsOpenEntry}
use Rattle.mapper.specs.declared.growth.Grown.{Grown}
use Rattle.mapper.specs.declared.tree.Tree.{Tree}

-- A journal grows by entries, and the prober was asked just these.
pub record GrowsBy (S : Type 0) (asked : S → List ℤ → Answer → S
    → Type 0) (n : Network) (host depth : ℕ) (j : List Entry) (before : S) (lost : ℕ) (more : List Entry) (after : S)
    (now : ℕ) : Type 0 where
  pub growing : IsGrowing host depth (j ++ more)
  pub led : AreAsked S asked before more after
  pub found : IsTrueWhereFound n host more
  pub truth : (Rose lost now → ⊥) → IsTrueJournal n host more
  pub later : lost ≤ now

-- The growth stopped since memory ran out: between two asks, or within the next one.
pub data StopsShort (S : Type 0) (asked : S → List ℤ → Answer → S → Type 0) (cut : S → List ℤ → S
    → Type 0) (host depth : ℕ) (j : List Entry) (before after : S) : Type 0 where
  between_asks : (more : List Entry) → IsGrowing host depth (j ++ more)
      → (length (nodes (j ++ more)) ≤ node_limit) ⊎ IsEndedAtLimit (j ++ more) → AreAsked S asked before more after
      → StopsShort S asked cut host depth j before after
  within_ask : (more : List Entry) (x : List ℤ) (between : S) → IsGrowing host depth (j ++ more)
      → length (nodes (j ++ more)) ≤ node_limit → AreAsked S asked before more between
      → NextAsk host depth (j ++ more) x → cut between x after → StopsShort S asked cut host depth j before after

-- A tree whose journal grows by the rules and keeps the limit of nodes, with the classes of that journal.
pub record IsUnderWay (t : Tree) : Type 0 where
  pub stands : StandsFor t.journal.host t.journal.entries t.classes
  pub growing : IsGrowing t.journal.host t.depth t.journal.entries
  pub counted : t.nodes ≡ length (nodes t.journal.entries)
  pub kept : t.nodes ≤ node_limit

-- the tree with an entry more, and these classes
abbrev pub grown_by : Tree → List ℤ → Answer → ClassTable → Tree
grown_by t w a classes = record t {
  journal = with_entry t.journal (record { walk = w; answer = a });
  classes = classes;
  nodes = t.nodes + (if is_found a then 1 else 0);
}

-- The new tree has an entry more, and the classes of that journal.
pub record GrownBy (w : List ℤ) (a : Answer) (old new : Tree) : Type 0 where
  pub kept : new ≡ grown_by old w a new.classes
  pub stands : StandsFor new.journal.host new.journal.entries new.classes

-- A journal whose answers other than Nothing are true of a fabric.
pub record IsToldOf (n : Network) (host : ℕ) (j : List Entry) : Type 0 where
  pub is_fabric : IsFabric n
  pub told : IsTrueWhereFound n host j

-- A walk may be asked next: it is new, and the classes are those of the journal, whose answers other than Nothing are
-- true of a fabric.
pub record IsNextWalk (n : Network) (host : ℕ) (t : Tree) (w : List ℤ) : Type 0 where
  pub same_host : t.journal.host ≡ host
  pub stands : StandsFor host t.journal.entries t.classes
  pub told : IsToldOf n host t.journal.entries
  pub once : IsJournal t.journal.entries
  pub fresh : is_asked t.journal.entries w ≡ false
  pub few : length t.journal.entries + 1 < 4294967295

-- An entry may be the next of a tree's journal, whose classes these are.
pub record IsNextEntry (t : Tree) (e : Entry) : Type 0 where
  pub stands : StandsFor t.journal.host t.journal.entries t.classes
  pub next : IsNext t.journal.host t.journal.entries e

-- One ask whose answer stands at the end of the journal.
pub record IsAsk (S : Type 0) (asked : S → List ℤ → Answer → S
    → Type 0) (truth : Answer) (before : S) (lost : ℕ) (w : List ℤ) (old new : Tree) (after : S)
    (now : ℕ) : Type 0 where
  pub told : Answer
  pub as_asked : asked before w told after
  pub is_true : IsTrueOrDrowned truth lost now told
  pub grown : GrownBy w told old new

-- One ask that ran out of memory, or whose answer did.
pub data IsLostAsk (S : Type 0) (asked : S → List ℤ → Answer → S → Type 0) (cut : S → List ℤ → S
    → Type 0) (before : S) (w : List ℤ) (after : S) : Type 0 where
  was_asked : (told : Answer) → asked before w told after → IsLostAsk S asked cut before w after
  was_cut : cut before w after → IsLostAsk S asked cut before w after

-- A tree whose journal grew by entries, for which the prober was asked.
pub record HasGrown (S : Type 0) (asked : S → List ℤ → Answer → S
    → Type 0) (n : Network) (old : Tree) (before : S) (lost : ℕ) (new : Tree) (after : S) (now : ℕ) : Type 0 where
  pub more : List Entry
  pub entries : new.journal.entries ≡ old.journal.entries ++ more
  pub host : new.journal.host ≡ old.journal.host
  pub depth : new.depth ≡ old.depth
  pub by_asks : GrowsBy S asked n old.journal.host old.depth old.journal.entries before lost more after now

-- A node was expanded, or the limit of nodes was passed before.
pub data ExpandsOrFills (t : Tree) (front : List ℤ) : Type 0 where
  expands : IsUnderWay t → IsAtRest t.journal.entries → IsExpanded t.journal.entries front → ExpandsOrFills t front
  fills : StandsFor t.journal.host t.journal.entries t.classes → t.nodes ≡ length (nodes t.journal.entries)
      → IsEndedAtLimit t.journal.entries → ExpandsOrFills t front

-- The entry at a place is to be expanded.
pub record IsOpenAt (host depth : ℕ) (j : List Entry) (place : ℕ) : Type 0 where
  pub entry : Entry
  pub there : slice_get j place ≡ Some entry
  pub is_open : IsOpenEntry host depth j entry

-- From one place to before another no entry is to be expanded.
pub record AreExpanded (host depth : ℕ) (j : List Entry) (from to : ℕ) : Type 0 where
  pub each : (i : ℕ) (e : Entry) → from ≤ i → i < to → slice_get j i ≡ Some e → e.answer ≡ Switch
      → crossed e.walk < depth → HasExpanded host j (Reached e.walk)

-- A place was found: it is the first from there on.
pub record IsNextOpen (host depth : ℕ) (j : List Entry) (from place : ℕ) : Type 0 where
  pub later : from ≤ place
  pub is_open : IsOpenAt host depth j place
  pub first : AreExpanded host depth j from place

-- A tree at rest, of which no entry before a place is to be expanded.
pub record IsSwept (t : Tree) (next : ℕ) : Type 0 where
  pub under_way : IsUnderWay t
  pub rest : IsAtRest t.journal.entries
  pub started : is_asked t.journal.entries [] ≡ true
  pub within : next ≤ length t.journal.entries
  pub expanded : AreExpanded t.journal.host t.depth t.journal.entries 0 next

-- A tree that has grown, with the classes of its journal.
pub record IsWhole (t : Tree) : Type 0 where
  pub stands : StandsFor t.journal.host t.journal.entries t.classes
  pub counted : t.nodes ≡ length (nodes t.journal.entries)
  pub grown : IsGrown t.journal.host t.depth t.journal.entries

-- A walk stands at a place of a journal.
pub record IsWalkAt (j : List Entry) (place : ℕ) (w : List ℤ) : Type 0 where
  pub entry : Entry
  pub there : slice_get j place ≡ Some entry
  pub walk : entry.walk ≡ w

-- A tree before its first ask.
pub record IsBareTree (host depth : ℕ) (t : Tree) : Type 0 where
  pub at_host : t.journal.host ≡ host
  pub empty : t.journal.entries ≡ []
  pub one : t.nodes ≡ 1
  pub to_depth : t.depth ≡ depth
  pub stands : StandsFor host [] t.classes

-- A tree after the first ask.
pub record IsStarted (S : Type 0) (asked : S → List ℤ → Answer → S
    → Type 0) (n : Network) (host depth : ℕ) (before : S) (lost : ℕ) (t : Tree) (after : S) (now : ℕ) : Type 0 where
  pub at_host : t.journal.host ≡ host
  pub to_depth : t.depth ≡ depth
  pub settled : IsSwept t 0
  pub grown : GrowsBy S asked n host depth [] before lost t.journal.entries after now

-- A tree that has grown to its depth, for which the prober was asked.
pub record IsGrownTree (S : Type 0) (asked : S → List ℤ → Answer → S
    → Type 0) (n : Network) (host depth : ℕ) (before : S) (lost : ℕ) (t : Tree) (after : S) (now : ℕ) : Type 0 where
  pub at_host : t.journal.host ≡ host
  pub to_depth : t.depth ≡ depth
  pub whole : IsWhole t
  pub grown : GrowsBy S asked n host depth [] before lost t.journal.entries after now

-- what a tree has grown to
abbrev pub grown_of : Tree → Grown
grown_of t = record { journal = t.journal; classes = t.classes; at_limit = nat_lt node_limit t.nodes }
