-- Digits in front of bytes, and turns of so many digits.
use Rattle.std.specs.Prelude.{◌≡◌, ℕ, ◌≤◌, true, not, pos, List, [], ◌∷◌, take, Ok, length}
use Rattle.fab_text.specs.Line.{is_blank, words_of}
use Rattle.fab_text.specs.Word.{u32_of, minus}
use Rattle.run_defs.specs.Script.{turns_of}
use Rattle.fab_script.specs.LineLists.{behind}

-- so many bytes in front are a number of this value
abbrev pub IsNumberOf : List ℕ → ℕ → ℕ → Type 0
IsNumberOf bytes count value = (count ≤ length bytes) × (u32_of (take count bytes) ≡ Ok value)

-- The first word is digits that say a number, also behind a byte that is no blank; other words are left.
pub record IsNumberAhead (bytes : List ℕ) (value : ℕ) (left : List ℕ) : Type 0 where
  pub digits : List ℕ
  pub says : u32_of digits ≡ Ok value
  pub first : words_of bytes ≡ digits ∷ words_of left
  pub signed : (s : ℕ) → not (is_blank s) ≡ true → words_of (s ∷ bytes) ≡ (s ∷ digits) ∷ words_of left

-- Digits come first, and other words are left behind them: behind a `-` (45), a `+` (43) or no sign they are a turn.
pub record IsSizeAhead (digits : List ℕ) (size : ℕ) (left : List ℕ) : Type 0 where
  pub down : turns_of (words_of (45 ∷ digits)) ≡ behind (minus size ∷ []) (turns_of (words_of left))
  pub up : turns_of (words_of (43 ∷ digits)) ≡ behind (pos size ∷ []) (turns_of (words_of left))
  pub unsigned : turns_of (words_of digits) ≡ behind (pos size ∷ []) (turns_of (words_of left))
