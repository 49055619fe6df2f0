-- Walks in their order: by length, then turn by turn as signed numbers.
use Rattle.std.specs.Prelude.{◌≡◌, ◌≢◌, ℕ, zero, suc, ℤ, pos, negsuc, Bool, true, false, ◌&&◌, ◌||◌, List, [], ◌∷◌}
use Rattle.std.specs.Prelude.{◌++◌, map, length, nat_eq, nat_lt, int_lt}
use Rattle.std.specs.Ordering.{int_eq}
use Rattle.net_defs.specs.Turn.{IsTurn}
use Rattle.journal_defs.specs.Counting.{numbers_below}

-- the first turns that differ decide
abbrev pub turns_below : List ℤ → List ℤ → Bool
turns_below (s ∷ ss) (t ∷ ts) = int_lt s t || (int_eq s t && turns_below ss ts)
turns_below _ _ = false

-- the first walk stands before the second
abbrev pub walk_below : List ℤ → List ℤ → Bool
walk_below v w = nat_lt (length v) (length w) || (nat_eq (length v) (length w) && turns_below v w)

-- What a strict order of walks is.
pub record IsStrictOrder (below : List ℤ → List ℤ → Bool) : Type 0 where
  pub not_itself : (w : List ℤ) → below w w ≡ false
  pub transitive : (u v w : List ℤ) → below u v ≡ true → below v w ≡ true → below u w ≡ true
  pub total : (v w : List ℤ) → v ≢ w → below v w ≡ false → below w v ≡ true

-- a turn that doesn't go back by the entry port: one of 30
abbrev pub IsOnward : ℤ → Type 0
IsOnward t = IsTurn t × (t ≢ pos 0)

-- the turns from -count up to -1
abbrev pub falling_turns : ℕ → List ℤ
falling_turns zero = []
falling_turns (suc k) = negsuc k ∷ falling_turns k

-- the 30 turns other than 0, in rising order
abbrev pub onward_turns : List ℤ
onward_turns = falling_turns 15 ++ map (λ k. pos (suc k)) (numbers_below 15)
