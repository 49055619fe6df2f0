-- What a journal in memory is, and when it takes an entry.
use Rattle.std.specs.Prelude.{ℕ, ◌<◌, ◌≤◌, ◌*◌, ℤ, Bool, List, ◌∷◌, [], ◌++◌, length, map}
use Rattle.std.specs.List.{list_any}
use Rattle.journal_defs.specs.declared.entry.Entry.{Entry}
use Rattle.net_defs.specs.Turn.{same_turns}
use Rattle.journal_defs.specs.Tree.{IsJournal}
use Rattle.probe.specs.Chained.{IsChained}

-- The host that asks, and what it was told, in order.
pub record JournalState : Type 0 where
  pub host : ℕ
  pub entries : List Entry

-- the journal with one entry more
abbrev pub with_entry : JournalState → Entry → JournalState
with_entry j e = record j { entries = j.entries ++ e ∷ [] }

-- a walk stands among walks
abbrev pub has_walk : List (List ℤ) → List ℤ → Bool
has_walk ws w = list_any (λ v. same_turns v w) ws

-- Chains lead to walks, with at most two walks a bucket.
pub record AreIndexed (walks : List (List ℤ)) (latest before : List ℕ) : Type 0 where
  pub chained : IsChained walks latest before
  pub enough : length walks ≤ 2 * length latest

-- No walk of entries stands twice, and where walks are chained, chains lead to all of them.
pub record IsIndexed (entries : List Entry) (latest before : List ℕ) : Type 0 where
  pub once : IsJournal entries
  pub indexed : 0 < length before → AreIndexed (map (λ e. e.walk) entries) latest before
