-- Classes between two entries of a journal: the node of the new one is there, and its turn isn't counted yet.
use Rattle.std.specs.Prelude.{◌≡◌, ◌≢◌, ℕ, ◌+◌, ℤ, pos, Bool, true, false, List, [], ◌∷◌, ◌++◌, map, set, slice_get}
use Rattle.std.specs.Prelude.{slice_index_or, Some}
use Rattle.journal_defs.specs.declared.entry.Entry.{Entry}
use Rattle.journal_defs.specs.Tree.{Node, IsNode, is_asked, nodes}
use Rattle.journal_defs.specs.Tree.Node.{Reached}
use Rattle.replicate_merge.specs.declared.fronts.Front.{Front}
use Rattle.replicate_merge.specs.declared.fronts.Front.TheVariants.{Mapper, Node as AtNode, Missing}
use Rattle.replicate_merge.specs.declared.way.Way.{Way}
use Rattle.replicate_merge.specs.Ways.{AreWays, frame_at}
use Rattle.replicate_merge.specs.Heads.{head_at, seen_frame}
use Rattle.replicate_merge.specs.Rounds.{IsSettling}
use Rattle.replicate_merge.specs.Asked.{CountsAsked, HasOrphans}
use Rattle.replicate_merge.specs.Table.{ClassTable, StandsFor}
use Rattle.replicate_merge.specs.Next.{IsNext}

-- the frames are those by the nodes that name classes, as callers see them
abbrev pub HasSeenFrames : ClassTable → Type 0
HasSeenFrames c = c.frames ≡ map (seen_frame c.kept.heads) c.kept.frames

-- A walk has no turn; or it leaves the node of a number by its last turn; or without its last turn it is none of
-- these nodes.
abbrev pub IsFrontOf : List Node → List ℤ → Front → Type 0
IsFrontOf ns w Mapper = w ≡ []
IsFrontOf ns w (AtNode n t) = (front : List ℤ) × (w ≡ front ++ t ∷ []) × (slice_get ns n ≡ Some (Reached front))
IsFrontOf ns w Missing = (front : List ℤ) × (t : ℤ) × (w ≡ front ++ t ∷ [])
    × ((n : ℕ) → slice_get ns n ≢ Some (Reached front))

-- The tables have the node of the entry and its ways. The asks that are counted are those of the entries before it.
pub record IsBetween (host : ℕ) (j : List Entry) (e : Entry) (c : ClassTable) : Type 0 where
  pub numbered : c.nodes ≡ nodes (j ++ e ∷ [])
  pub frames : HasSeenFrames c
  pub ways : List Way
  pub are : AreWays host (j ++ e ∷ []) c.nodes ways
  pub settled : IsSettling host
      (j ++ e ∷ []) j c.nodes ways c.kept.frames c.kept.ends c.kept.hosts [] c.kept.heads c.kept.names c.expanded
  pub asked : CountsAsked j c.nodes c.kept.asked
  pub orphans : HasOrphans (j ++ e ∷ []) c.kept.orphans true
  pub none : c.kept.ahead ≡ false → (w : List ℤ) (t : ℤ) → is_asked j (w ++ t ∷ []) ≡ true → IsNode j (Reached w)

-- What an entry adds, for each journal whose next entry it may be.
abbrev pub AddsEntry : ClassTable → Entry → ClassTable → Type 0
AddsEntry old e new = (host : ℕ) (j : List Entry) → StandsFor host j old → IsNext host j e → IsBetween host j e new

-- how many turns of a node were counted
abbrev pub turns_of : ClassTable → ℕ → ℕ
turns_of c n = slice_index_or c.kept.asked n 0

-- the number of a node's class
abbrev pub number_of : ClassTable → ℕ → ℕ
number_of c n = (head_at c.kept.heads (frame_at c.kept.frames n).class).number

-- the tables with these marks, and one turn more of a node
abbrev pub turned : ℕ → List Bool → ClassTable → ClassTable
turned n marks c = record c { expanded = marks; kept = record c.kept { asked = set c.kept.asked n (turns_of c n + 1) } }

-- One turn more of a node was counted, if it isn't turn 0; at the last of the 30 its class was marked.
pub data CountsTurn (n : ℕ) (t : ℤ) (old new : ClassTable) : Type 0 where
  is_back : t ≡ pos 0 → new ≡ old → CountsTurn n t old new
  is_more : t ≢ pos 0 → turns_of old n + 1 ≢ 30 → new ≡ turned n old.expanded old → CountsTurn n t old new
  is_last : t ≢ pos 0 → turns_of old n + 1 ≡ 30 → new ≡ turned n (set old.expanded (number_of old n) true) old
      → CountsTurn n t old new

-- the tables with a walk that found nothing
abbrev pub with_orphan : List ℤ → ClassTable → ClassTable
with_orphan w c = record c { kept = record c.kept { orphans = c.kept.orphans ++ w ∷ [] } }

-- the tables once a walk was asked ahead of its front
abbrev pub looking_ahead : ClassTable → ClassTable
looking_ahead c = record c { kept = record c.kept { ahead = true } }
