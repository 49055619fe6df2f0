-- Heads of classes as one class is joined to another.
use Rattle.std.specs.Prelude.{◌≡◌, ◌≢◌, ℕ, ◌+◌, ◌-◌, ◌<◌, ℤ, ◌+ℤ◌, true, false, Bool, List, length, take, set}
use Rattle.std.specs.Prelude.{slice_get, Some}
use Rattle.journal_defs.specs.Tree.{Node, node_below}
use Rattle.replicate_merge.specs.declared.heads.Head.{Head}
use Rattle.replicate_merge.specs.Ways.{node_at}
use Rattle.replicate_merge.specs.Heads.{head_at}

-- The head of a class once another was joined to it, whose ports lie so far from its own: the lesser of the two least
-- nodes is the least.
pub data JoinsHead (ns : List Node) (old kept new : Head) (by : ℤ) : Type 0 where
  under_old : node_below (node_at ns old.least) (node_at ns kept.least) ≡ true → new.number ≡ kept.number
      → new.least ≡ old.least → new.base ≡ old.base +ℤ by → JoinsHead ns old kept new by
  under_kept : node_below (node_at ns old.least) (node_at ns kept.least) ≡ false → new.number ≡ kept.number
      → new.least ≡ kept.least → new.base ≡ kept.base → JoinsHead ns old kept new by

-- Heads after that: one number less, and the class of the last number has the number of the class that is gone.
pub record JoinsHeads (ns : List Node) (from to : ℕ) (by : ℤ) (hs new : List Head) (names after : List ℕ)
    (last : ℕ) : Type 0 where
  pub count : length names ≡ length after + 1
  pub last_is : slice_get names (length after) ≡ Some last
  pub joined : JoinsHead ns (head_at hs from) (head_at hs to)
      (record (head_at new to) { number = (head_at hs to).number }) by
  pub other : (n : ℕ) → n ≢ to → (head_at new n).least ≡ (head_at hs n).least
  pub other_base : (n : ℕ) → n ≢ to → (head_at new n).base ≡ (head_at hs n).base
  pub renumbered : (head_at new last).number ≡ (head_at hs from).number
  pub number : (n : ℕ) → n ≢ last → (head_at new n).number ≡ (head_at hs n).number
  pub taken : (head_at hs from).number < length after → slice_get after (head_at hs from).number ≡ Some last
  pub stays : (class : ℕ) → class < length after → class ≢ (head_at hs from).number
      → slice_get after class ≡ slice_get names class

-- One class is marked where another is.
pub data MarksBoth (old kept : ℕ) (marks new : List Bool) : Type 0 where
  is_marked : slice_get marks old ≡ Some true → new ≡ set marks kept true → MarksBoth old kept marks new
  is_plain : slice_get marks old ≡ Some false → new ≡ marks → MarksBoth old kept marks new

-- The number of a class is gone, and the class of the last number has it.
pub record DropsNumber (number : ℕ) (hs new : List Head) (names after : List ℕ)
    (marks marked : List Bool) : Type 0 where
  pub last : ℕ
  pub last_is : slice_get names (length names - 1) ≡ Some last
  pub names_are : after ≡ take (length names - 1) (set names number last)
  pub mark : Bool
  pub mark_is : slice_get marks (length names - 1) ≡ Some mark
  pub marks_are : marked ≡ take (length names - 1) (set marks number mark)
  pub heads_are : new ≡ set hs last (record (head_at hs last) { number = number })

-- Heads and names after a join, whichever class had the last number.
pub record IsJoinedByHeads (ns : List Node) (from to : ℕ) (by : ℤ) (hs new : List Head)
    (names after : List ℕ) : Type 0 where
  pub last : ℕ
  pub joins : JoinsHeads ns from to by hs new names after last

-- Marks after a join: a class is marked where one of the two was, and the last mark moves to the number that is gone.
pub record IsJoinedByMarks (old kept : ℕ) (names : List ℕ) (marks new : List Bool) : Type 0 where
  pub between : List Bool
  pub both : MarksBoth old kept marks between
  pub mark : Bool
  pub mark_is : slice_get between (length names - 1) ≡ Some mark
  pub moved : new ≡ take (length names - 1) (set between old mark)
