-- Walks whose turns lie one after another.
use Rattle.std.specs.Prelude.{◌≡◌, ℕ, ℤ, ◌≤◌, List, [], ◌∷◌, length, slice_range}

-- the walks whose turns end at these places: those of the first begin at a place, those of each other where the one
-- before it ends
abbrev pub walks_in : List ℤ → ℕ → List ℕ → List (List ℤ)
walks_in turns start [] = []
walks_in turns start (end ∷ ends) = slice_range turns start end ∷ walks_in turns end ends

-- from that place on the ends don't fall, and the last of them is where the turns end
abbrev pub AreEnds : List ℤ → ℕ → List ℕ → Type 0
AreEnds turns start [] = start ≡ length turns
AreEnds turns start (end ∷ ends) = (start ≤ end) × AreEnds turns end ends
