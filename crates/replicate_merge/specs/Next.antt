-- The next entry of a journal for which classes stand.
use Rattle.std.specs.Prelude.{◌≡◌, ℕ, ◌+◌, ◌<◌, false, List, [], ◌∷◌, ◌++◌, length}
use Rattle.journal_defs.specs.declared.entry.Entry.{Entry}
use Rattle.journal_defs.specs.Tree.{IsJournal, is_asked}
use Rattle.replicate_merge.specs.Table.{ClassTable, IsTrueOfOne, StandsFor}

-- An entry may be the next of a journal: its walk is new, and its answer with those before it is true of one fabric.
pub record IsNext (host : ℕ) (j : List Entry) (e : Entry) : Type 0 where
  pub once : IsJournal j
  pub fresh : is_asked j e.walk ≡ false
  pub few : length j + 1 < 4294967295
  pub true_of_one : IsTrueOfOne host (j ++ e ∷ [])

-- The classes stand for a journal of which it may be the next entry.
pub record HasNext (c : ClassTable) (e : Entry) : Type 0 where
  pub host : ℕ
  pub journal : List Entry
  pub stands : StandsFor host journal c
  pub next : IsNext host journal e

-- The classes stand for each such journal with the entry.
abbrev pub StandsForNext : ClassTable → Entry → ClassTable → Type 0
StandsForNext old e new = (host : ℕ) (j : List Entry) → StandsFor host j old → IsNext host j e
    → StandsFor host (j ++ e ∷ []) new
