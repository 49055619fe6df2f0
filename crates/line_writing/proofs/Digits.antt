-- Numbers of two digits.
use Rattle.std.proofs.Common.{ℕ, ◌≡◌, ◌≤◌, ◌<◌, ◌/◌, ◌%◌, ◌++◌, ap, sym, ◌∙◌, decimal, arith}
use Rattle.std.proofs.lemmas.Fmt.{decimal_digit, decimal_step}

-- a number of two digits is written as its tens, and then what is left
pub two_digits : (n : ℕ) → 10 ≤ n → n < 100 → decimal (n / 10) ++ decimal (n % 10) ≡ decimal n
two_digits n least most =
    ap (λ l. decimal (n / 10) ++ l) (decimal_digit (n % 10) (omega arith)) ∙ sym (decimal_step n least (omega arith))
