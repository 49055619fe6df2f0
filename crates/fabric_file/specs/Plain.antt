-- Words that separate nothing where they are written in a line.
use Rattle.std.specs.Prelude.{◌≡◌, ℕ, Bool, true, false, List, [], ◌∷◌, nat_lt}
use Rattle.std.specs.List.{AllByRecursion, list_all}

-- a byte that separates nothing: it is above a space
abbrev pub is_plain_byte : ℕ → Bool
is_plain_byte b = nat_lt 32 b

-- a word of such bytes
abbrev pub is_plain : List ℕ → Bool
is_plain [] = false
is_plain (b ∷ bs) = list_all is_plain_byte (b ∷ bs)

-- Each of the words is one of such bytes: none has a blank in it.
abbrev pub ArePlain : List (List ℕ) → Type 0
ArePlain ws = AllByRecursion (λ w. is_plain w ≡ true) ws
