-- Printed bytes are read again, and have no blank in them; a number ends before the first `=`.
use Rattle.std.proofs.Common.{◌≡◌, ◌<◌, ◌≤◌, ◌+◌, ◌-◌, ◌*◌, ◌/◌, ◌%◌, ◌&&◌, ◌||◌, ℕ, List, [], ◌∷◌, ◌++◌, Bool, true, false, length, drop, nat_eq, nat_lt, nat_le, Some, None, option_map, refl, ap, ◌∙◌, arith, if◌then◌else◌}
use Rattle.std.specs.Prelude.{codes, bytes_eq, flat_map, position, option_and_then}
use Rattle.std.specs.List.{AllByRecursion, list_all}
use Rattle.std.proofs.lemmas.Bool.Decides.{nat_tests}
use Rattle.net_defs.proofs.Ends.{both}
use Rattle.fab_text.specs.Word.{is_digit}
use Rattle.fabric_file.specs.Plain.{is_plain_byte, is_plain}
use Rattle.fabric_file.proofs.Cutting.{position-cons}
use Rattle.line_table.specs.Texts.{hex_digit, hex_text}
use Rattle.line_table.specs.Said.{is_hex_digit, hex_value, byte_said, pairs_said, bytes_said}

-- A hexadecimal digit of this value.
record IsDigitOf (d : ℕ) (b : ℕ) : Type 0 where
  pub form : is_hex_digit b ≡ true
  pub value : hex_value b ≡ d
  pub no_dash : nat_eq b 45 ≡ false
  pub plain : is_plain_byte b ≡ true

low-digit : (d : ℕ) → d < 10 → IsDigitOf d (48 + d)
low-digit d low =
    let digit : is_digit (48 + d) ≡ true = grind (arith, nat_tests) in
    let minus : (48 + d) - 48 ≡ d = omega arith in
    record {
      form = (λ i. digit i || (nat_le 97 (48 + d) && nat_le (48 + d) 102));
      value = (λ i. if digit i then (48 + d) - 48 else (48 + d) - 87) ∙ minus;
      no_dash = grind (arith, nat_tests);
      plain = grind (arith, nat_tests);
    }

high-digit : (d : ℕ) → 10 ≤ d → d < 16 → IsDigitOf d (87 + d)
high-digit d high low =
    let other : is_digit (87 + d) ≡ false = grind (arith, nat_tests) in
    let first : nat_le 97 (87 + d) ≡ true = grind (arith, nat_tests) in
    let last : nat_le (87 + d) 102 ≡ true = grind (arith, nat_tests) in
    let minus : (87 + d) - 87 ≡ d = omega arith in
    record {
      form = (λ i. other i || (first i && last i));
      value = (λ i. if other i then (87 + d) - 48 else (87 + d) - 87) ∙ minus;
      no_dash = grind (arith, nat_tests);
      plain = grind (arith, nat_tests);
    }

digit-back : (d : ℕ) → d < 16 → IsDigitOf d (hex_digit d)
digit-back d low = by (nat_lt d 10) refl
  where
    by : (t : Bool) → nat_lt d 10 ≡ t → IsDigitOf d (if t then 48 + d else 87 + d)
    by true t = low-digit d (grind (arith, nat_tests))
    by false t = high-digit d (grind (arith, nat_tests)) low

-- the two digits of a byte
abbrev pair_of : ℕ → List ℕ
pair_of b = hex_digit (b / 16) ∷ hex_digit (b % 16) ∷ []

byte-back : (b : ℕ) → b < 256 → byte_said (hex_digit (b / 16)) (hex_digit (b % 16)) ≡ Some b
byte-back b low =
    let x = digit-back (b / 16) (omega arith) in
    let y = digit-back (b % 16) (omega arith) in
    let whole : 16 * (b / 16) + b % 16 ≡ b = omega arith in
    (λ i. if x.form i && y.form i then Some (16 * x.value i + y.value i) else None) ∙ ap Some whole

pairs-back : (bs : List ℕ) → AllByRecursion (λ b. b < 256) bs → pairs_said (flat_map pair_of bs) ≡ Some bs
pairs-back [] all = refl
pairs-back (b ∷ bs) all =
    let first = byte-back b all.0 in
    let rest = pairs-back bs all.1 in
    λ i. option_and_then (λ x. option_and_then (λ xs. Some (x ∷ xs)) (rest i)) (first i)

-- printed bytes are read as what they are
pub bytes-read : (bs : List ℕ) → AllByRecursion (λ b. b < 256) bs → bytes_said (hex_text bs) ≡ Some bs
bytes-read [] all = refl
bytes-read (b ∷ bs) all =
    let x = digit-back (b / 16) (omega arith) in
    let digits = flat_map pair_of (b ∷ bs) in
    let some : bytes_eq digits (codes "-") ≡ false = λ i. x.no_dash i && bytes_eq (hex_digit (b % 16) ∷ flat_map pair_of bs) [] in
    (λ i. if some i then Some [] else pairs_said digits) ∙ pairs-back (b ∷ bs) all

pairs-plain : (bs : List ℕ) → AllByRecursion (λ b. b < 256) bs → list_all is_plain_byte (flat_map pair_of bs) ≡ true
pairs-plain [] all = refl
pairs-plain (b ∷ bs) all =
    let x = digit-back (b / 16) (omega arith) in
    let y = digit-back (b % 16) (omega arith) in
    λ i. x.plain i && (y.plain i && pairs-plain bs all.1 i)

pub bytes-plain : (bs : List ℕ) → AllByRecursion (λ b. b < 256) bs → is_plain (hex_text bs) ≡ true
bytes-plain [] all = refl
bytes-plain (b ∷ bs) all = pairs-plain (b ∷ bs) all

-- a number ends before the first `=`
digit-other : (d : ℕ) → is_digit d ≡ true → nat_eq 61 d ≡ false
digit-other d e = by (nat_eq 61 d) refl
  where
    by : (t : Bool) → nat_eq 61 d ≡ t → t ≡ false
    by true t = absurd (grind (arith, nat_tests))
    by false t = refl

pub equals-at : (ds more : List ℕ) → list_all is_digit ds ≡ true → position (nat_eq 61) (ds ++ 61 ∷ more) ≡ Some (length ds)
equals-at [] more e = position-cons (nat_eq 61) 61 more
equals-at (d ∷ ds) more e =
    let two = both (is_digit d) (list_all is_digit ds) e in
    let other = digit-other d two.0 in
    let plus : 1 + length ds ≡ length (d ∷ ds) = omega arith in
    position-cons (nat_eq 61) d (ds ++ 61 ∷ more) ∙ (λ i. if other i then Some 0 else option_map (λ k. 1 + k) (equals-at ds more two.1 i)) ∙ ap Some plus

pub drop-seam : (xs ys : List ℕ) → drop (length xs) (xs ++ ys) ≡ ys
drop-seam [] ys = refl
drop-seam (x ∷ xs) ys = drop-seam xs ys
