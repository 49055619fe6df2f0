-- Which channels are full, and the marks of the full ones.
use Rattle.std.specs.Prelude.{◌≡◌, ◌≢◌, ℕ, ◌+◌, ◌-◌, ◌*◌, ◌^◌, ◌<◌, ◌≤◌, true, List, [], ◌∷◌, length, slice_index_or}
use Rattle.std.specs.Prelude.{find, Option, Some, None, is_some}
use Rattle.std.specs.List.{range_with_len}
use Rattle.world_defs.specs.Links.{Held}
use Rattle.number_marks.specs.Marks.{mark_at}

-- a channel counts as one where it is full
abbrev pub full_of : Option Held → ℕ
full_of None = 0
full_of (Some held) = 1

-- how many of them are full
abbrev pub full_count : List (Option Held) → ℕ
full_count [] = 0
full_count (p ∷ ps) = full_of p + full_count ps

-- the first full one from a place on
abbrev pub full_from : List (Option Held) → ℕ → Option ℕ
full_from ps from = find (λ c. is_some (slice_index_or ps c None)) (range_with_len from (length ps - from))

-- A channel is full, and no other is.
pub record IsLone (ps : List (Option Held)) (c : ℕ) : Type 0 where
  pub there : c < length ps
  pub full : is_some (slice_index_or ps c None) ≡ true
  pub others : (k : ℕ) → k ≢ c → slice_index_or ps k None ≡ None

-- The full ones are counted and marked, and there is room for the mark of each.
pub record IsIndexed (ps : List (Option Held)) (count : ℕ) (words : List ℕ) : Type 0 where
  pub counted : count ≡ full_count ps
  pub room : length ps ≤ 64 * length words
  pub few : length words ≤ 2 ^ 32
  pub marks : (c : ℕ) → mark_at words c ≡ full_of (slice_index_or ps c None)
