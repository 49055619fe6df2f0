-- The value of digits, one more at a time.
use Rattle.std.proofs.Common.{◌≡◌, ◌≤◌, ◌<◌, ◌+◌, ◌-◌, ◌*◌, ℕ, List, true, false, length, take, get_or, arith, nat_le, ap, ◌∙◌}
use Rattle.std.specs.List.{list_all}
use Rattle.std.specs.Char.{digit_value}
use Rattle.std.specs.Str.Parse.{digits_value}
use Rattle.std.proofs.lemmas.Bool.Decides.{nat_tests}
use Rattle.std.proofs.lemmas.List.Sums.{AllPass-from_list_all}
use Rattle.std.proofs.lemmas.Int.Digits.{digits_value_more}
use Rattle.std.proofs.lemmas.Str.Parse.{digits_value-take-le}
use Rattle.fab_text.specs.Word.{is_digit, number_test}

pub digit_value-digit : (c : ℕ) → is_digit c ≡ true → digit_value c ≡ c - 48
digit_value-digit c e = grind (arith, nat_tests)

pub all_digits : (ds : List ℕ) → number_test ds ≡ true → list_all is_digit ds ≡ true
all_digits ds e = grind (arith, nat_tests)

pub digit_at : (ds : List ℕ) (i : ℕ) → i < length ds → number_test ds ≡ true → is_digit (get_or ds i 0) ≡ true
digit_at ds i h e = AllPass-from_list_all is_digit ds (all_digits ds e) i 0 h

-- one more digit
pub value-more : (ds : List ℕ) (i : ℕ) → i < length ds → number_test ds ≡ true → digits_value 10 (take (i + 1) ds) ≡ digits_value 10 (take i ds) * 10 + (get_or ds i 0 - 48)
value-more ds i h e = digits_value_more 10 ds i h ∙ ap (λ d. digits_value 10 (take i ds) * 10 + d) (digit_value-digit (get_or ds i 0) (digit_at ds i h e))

-- a front that is too large makes the whole too large
pub too_large : (ds : List ℕ) (i most : ℕ) → most < digits_value 10 (take i ds) → nat_le (digits_value 10 ds) most ≡ false
too_large ds i most h = let k : digits_value 10 (take i ds) ≤ digits_value 10 ds = digits_value-take-le 10 ds i (omega arith) in grind (arith, nat_tests)
