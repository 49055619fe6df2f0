-- A keyword in front of other words.
use Rattle.std.specs.Prelude.{ℕ, Bool, false, not, List, [], ◌∷◌}
use Rattle.std.specs.List.{list_all}
use Rattle.fab_text.specs.Line.{is_blank}

-- a word: one byte or more, and no blank
abbrev pub is_plain : List ℕ → Bool
is_plain [] = false
is_plain (b ∷ w) = list_all (λ c. not (is_blank c)) (b ∷ w)
