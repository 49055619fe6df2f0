-- The forms of names and numbers, where the first of their tests have passed.
use Rattle.std.proofs.Common.{◌≡◌, ◌≤◌, ◌<◌, ℕ, List, true, length, get_or, arith}
use Rattle.std.specs.List.{list_all}
use Rattle.std.proofs.lemmas.Bool.Decides.{nat_tests}
use Rattle.fab_text.specs.Word.{is_digit, is_letter, is_name_byte, name_test, number_test}

pub number_test_long : (w : List ℕ) → 0 < length w → number_test w ≡ list_all is_digit w
number_test_long w h = grind (arith, nat_tests)

pub name_test_long : (w : List ℕ) → 1 ≤ length w → length w ≤ 16 → is_letter (get_or w 0 0) ≡ true → name_test w ≡ list_all is_name_byte w
name_test_long w low high letter = grind (arith, nat_tests)
