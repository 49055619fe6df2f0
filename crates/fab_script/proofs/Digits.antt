-- The number that one digit says.
use Rattle.std.proofs.Common.{◌≡◌, ◌-◌, ◌≤◌, ℕ, [], ◌∷◌, Ok, arith}
use Rattle.std.proofs.lemmas.Bool.Decides.{nat_tests}
use Rattle.std.proofs.lemmas.Str.{digit_value_digit}
use Rattle.fab_text.specs.Word.{u32_of}

pub one_digit : (b : ℕ) → 48 ≤ b → b ≤ 57 → Ok (b - 48) ≡ u32_of (b ∷ [])
one_digit b low high = let value = digit_value_digit b (low, high) in grind (arith, nat_tests, value)
