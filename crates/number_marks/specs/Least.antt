-- The least of the marked numbers, as it is kept beside the marks.
use Rattle.std.specs.Prelude.{◌≡◌, ℕ, ◌^◌, ◌≤◌, List, length, Option, Bool, true, false}
use Rattle.std.specs.Option.{IfSome, IfNone}
use Rattle.number_marks.specs.Marks.{mark_at, IsNextMark}

-- a number's mark: 1 where it is to be marked, else 0
abbrev pub mark_of : Bool → ℕ
mark_of true = 1
mark_of false = 0

-- The least marked number is known, if there is one, and the words are few.
pub record IsKept (words : List ℕ) (least : Option ℕ) : Type 0 where
  pub few : length words ≤ 2 ^ 32
  pub next : IfSome least (IsNextMark words 0)
  pub none : IfNone least ((k : ℕ) → mark_at words k ≡ 0)
