-- How the asks of a prober lead from one of its states to another.
use Rattle.std.specs.Prelude.{◌≡◌, ℤ, List, [], ◌∷◌}
use Rattle.net_defs.specs.declared.place.Answer.{Answer}
use Rattle.journal_defs.specs.declared.entry.Entry.{Entry}

-- The entries were asked one after another, and lead from the one state to the other.
abbrev pub AreAsked : (S : Type 0) → (S → List ℤ → Answer → S → Type 0) → S → List Entry → S → Type 0
AreAsked S asked before [] after = before ≡ after
AreAsked S asked before (e ∷ rest) after = (between : S) × asked before e.walk e.answer between
    × AreAsked S asked between rest after
