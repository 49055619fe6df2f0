-- Printed numbers are digits, whatever their size, and are read again; neither they nor names have a blank in them.
use Rattle.std.proofs.Common.{◌≡◌, ◌≤◌, ◌<◌, ◌+◌, ◌/◌, ◌%◌, ◌==◌, ◌^◌, ◌&&◌, ℕ, zero, suc, List, [], ◌∷◌, Bool, true, false, length, nat_eq, nat_le, nat_lt, Ok, Err, refl, ap, sym, ◌∙◌, true≢false, arith, if◌then◌else◌}
use Rattle.std.specs.Prelude.{decimal}
use Rattle.std.specs.Fmt.{digits, digits_onto, digit_glyph}
use Rattle.std.specs.List.{list_all}
use Rattle.std.proofs.lemmas.Bool.Decides.{nat_tests}
use Rattle.std.proofs.lemmas.Fmt.{decimal_is_IsNumeral}
use Rattle.net_defs.proofs.Ends.{both}
use Rattle.fab_text.specs.declared.fault.NumFault.TheVariants.{NotNumber, TooLarge}
use Rattle.fab_text.specs.Word.{is_digit, is_letter, is_name_byte, name_test, number_test, number_within}
use Rattle.fabric_file.specs.Plain.{is_plain_byte, is_plain}

digits-whole : (v : ℕ) → digits_onto 64 10 false v [] ≡ decimal v
unfolding digits
digits-whole v = refl

small-digit : (d : ℕ) → d < 10 → is_digit (48 + d) ≡ true
small-digit d low = grind (arith, nat_tests)

glyph-digit : (d : ℕ) → d < 10 → is_digit (digit_glyph false d) ≡ true
glyph-digit d low =
    let test : nat_lt d 10 ≡ true = grind (arith, nat_tests) in
    ap is_digit (λ i. if test i then 48 + d else 87 + d) ∙ small-digit d low

last-digit : (v : ℕ) → is_digit (digit_glyph false (v % 10)) ≡ true
last-digit v = glyph-digit (v % 10) (omega arith)

-- a test that both of two lists pass
either : (P : List ℕ → Bool) (t : Bool) (xs ys : List ℕ) → P xs ≡ true → P ys ≡ true → P (if t then xs else ys) ≡ true
either P true xs ys p q = p
either P false xs ys p q = q

onto-digits : (k v : ℕ) (acc : List ℕ) → list_all is_digit acc ≡ true → list_all is_digit (digits_onto k 10 false v acc) ≡ true
onto-digits zero v acc all = all
onto-digits (suc k) v acc all =
    let more = digit_glyph false (v % 10) ∷ acc in
    let own : list_all is_digit more ≡ true = λ i. last-digit v i && all i in
    either (list_all is_digit) (v / 10 == 0) more (digits_onto k 10 false (v / 10) more) own (onto-digits k (v / 10) more own)

abbrev is_some_bytes : List ℕ → Bool
is_some_bytes w = nat_lt 0 (length w)

onto-some : (k v x : ℕ) (acc : List ℕ) → is_some_bytes (digits_onto k 10 false v (x ∷ acc)) ≡ true
onto-some zero v x acc = grind (arith, nat_tests)
onto-some (suc k) v x acc =
    let more = digit_glyph false (v % 10) ∷ x ∷ acc in
    either is_some_bytes (v / 10 == 0) more (digits_onto k 10 false (v / 10) more) (grind (arith, nat_tests)) (onto-some k (v / 10) (digit_glyph false (v % 10)) (x ∷ acc))

first-some : (k v : ℕ) → is_some_bytes (digits_onto (suc k) 10 false v []) ≡ true
first-some k v =
    let more = digit_glyph false (v % 10) ∷ [] in
    either is_some_bytes (v / 10 == 0) more (digits_onto k 10 false (v / 10) more) (grind (arith, nat_tests)) (onto-some k (v / 10) (digit_glyph false (v % 10)) [])

-- a printed number is one
pub number-any : (v : ℕ) → number_test (decimal v) ≡ true
number-any v =
    let some : is_some_bytes (decimal v) ≡ true = ap is_some_bytes (sym (digits-whole v)) ∙ first-some 63 v in
    let all : list_all is_digit (decimal v) ≡ true = ap (list_all is_digit) (sym (digits-whole v)) ∙ onto-digits 64 v [] refl in
    λ i. some i && all i

-- a number within a range is read as what it is
pub number-read : (most v : ℕ) → v ≤ most → v < 2 ^ 64 → number_within most (decimal v) ≡ Ok v
number-read most v low fits =
    let value = (decimal_is_IsNumeral v fits).1 in
    let few : nat_le v most ≡ true = grind (arith, nat_tests) in
    (λ i. if number-any v i then (if nat_le (value i) most then Ok (value i) else Err TooLarge) else Err NotNumber)
    ∙ (λ i. if few i then Ok v else Err TooLarge)

-- a test that only plain bytes pass
bytes-plain : (p : ℕ → Bool) (w : List ℕ) → ((b : ℕ) → p b ≡ true → is_plain_byte b ≡ true) → list_all p w ≡ true → list_all is_plain_byte w ≡ true
bytes-plain p [] each e = refl
bytes-plain p (b ∷ bs) each e = let two = both (p b) (list_all p bs) e in λ i. each b two.0 i && bytes-plain p bs each two.1 i

digit-plain : (b : ℕ) → is_digit b ≡ true → is_plain_byte b ≡ true
digit-plain b e = grind (arith, nat_tests)

name-byte-plain : (b : ℕ) → is_name_byte b ≡ true → is_plain_byte b ≡ true
name-byte-plain b e = grind (arith, nat_tests)

-- a printed number has no blank in it
pub digits-plain : (v : ℕ) → list_all is_plain_byte (decimal v) ≡ true
digits-plain v = bytes-plain is_digit (decimal v) digit-plain (both (nat_lt 0 (length (decimal v))) (list_all is_digit (decimal v)) (number-any v)).1

pub numeral-plain : (w : List ℕ) → number_test w ≡ true → is_plain w ≡ true
numeral-plain [] e = absurd (true≢false (sym e))
numeral-plain (d ∷ ds) e = bytes-plain is_digit (d ∷ ds) digit-plain (both (nat_lt 0 (length (d ∷ ds))) (list_all is_digit (d ∷ ds)) e).1

pub number-plain : (v : ℕ) → is_plain (decimal v) ≡ true
number-plain v = numeral-plain (decimal v) (number-any v)

-- nor has a name
pub name-plain : (name : List ℕ) → name_test name ≡ true → is_plain name ≡ true
name-plain [] e = absurd (true≢false (sym e))
name-plain (b ∷ bs) e = bytes-plain is_name_byte (b ∷ bs) name-byte-plain (both _ (list_all is_name_byte (b ∷ bs)) e).1

letter-no_sign : (b : ℕ) → is_letter b ≡ true → nat_eq b 35 ≡ false
letter-no_sign b e = grind (arith, nat_tests)

-- and a name doesn't begin with `#`
pub name-no_sign : (b : ℕ) (bs : List ℕ) → name_test (b ∷ bs) ≡ true → nat_eq b 35 ≡ false
name-no_sign b bs e =
    let sizes : Bool = nat_le 1 (length (b ∷ bs)) && nat_le (length (b ∷ bs)) 16 in
    letter-no_sign b (both sizes (is_letter b) (both (sizes && is_letter b) (list_all is_name_byte (b ∷ bs)) e).0).1
