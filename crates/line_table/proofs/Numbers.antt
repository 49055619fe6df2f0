-- A printed number is no word of another form, and one of 64 bits is read again.
use Rattle.std.proofs.Common.{◌≡◌, ◌≤◌, ◌<◌, ◌-◌, ◌^◌, ◌&&◌, ℕ, List, [], ◌∷◌, ◌++◌, Bool, true, false, length, nat_eq, nat_lt, Some, refl, ap, sym, true≢false, arith}
use Rattle.std.specs.Prelude.{decimal, bytes_eq}
use Rattle.std.specs.List.{list_all}
use Rattle.std.proofs.lemmas.Bool.Decides.{nat_tests}
use Rattle.net_defs.proofs.Ends.{both}
use Rattle.fab_text.specs.Word.{is_digit, number_test}
use Rattle.fabric_file.proofs.PlainWords.{number-any, number-read}
use Rattle.line_table.specs.Said.{where_read, number_said, value_said}

-- a printed number is no word that begins with another byte, whatever follows it
digit-other : (d b : ℕ) → is_digit d ≡ true → is_digit b ≡ false → nat_eq d b ≡ false
digit-other d b e f = by (nat_eq d b) refl
  where
    by : (t : Bool) → nat_eq d b ≡ t → t ≡ false
    by true t = absurd (grind (arith, nat_tests))
    by false t = refl

numeral-no_word : (w more : List ℕ) (b : ℕ) (bs : List ℕ) → number_test w ≡ true → is_digit b ≡ false → bytes_eq (w ++ more) (b ∷ bs) ≡ false
numeral-no_word [] more b bs e f = absurd (true≢false (sym e))
numeral-no_word (d ∷ ds) more b bs e f =
    let all = (both (nat_lt 0 (length (d ∷ ds))) (list_all is_digit (d ∷ ds)) e).1 in
    let own = digit-other d b (both (is_digit d) (list_all is_digit ds) all).0 f in
    λ i. own i && bytes_eq (ds ++ more) bs

pub number-no_word : (v : ℕ) (more : List ℕ) (b : ℕ) (bs : List ℕ) → is_digit b ≡ false → bytes_eq (decimal v ++ more) (b ∷ bs) ≡ false
number-no_word v more b bs f = numeral-no_word (decimal v) more b bs (number-any v) f

numeral-other : (w : List ℕ) (b : ℕ) (bs : List ℕ) → number_test w ≡ true → is_digit b ≡ false → bytes_eq w (b ∷ bs) ≡ false
numeral-other [] b bs e f = absurd (true≢false (sym e))
numeral-other (d ∷ ds) b bs e f =
    let all = (both (nat_lt 0 (length (d ∷ ds))) (list_all is_digit (d ∷ ds)) e).1 in
    let own = digit-other d b (both (is_digit d) (list_all is_digit ds) all).0 f in
    λ i. own i && bytes_eq ds bs

pub number-other : (v b : ℕ) (bs : List ℕ) → is_digit b ≡ false → bytes_eq (decimal v) (b ∷ bs) ≡ false
number-other v b bs f = numeral-other (decimal v) b bs (number-any v) f

-- a number of 64 bits is read as what it is
pub within-read : (most v : ℕ) → v ≤ most → v < 2 ^ 64 → number_said most (decimal v) ≡ Some v
within-read most v few fits = ap where_read (number-read most v few fits)

pub counted-read : (v : ℕ) → v < 2 ^ 64 → value_said (decimal v) ≡ Some v
counted-read v fits = within-read (2 ^ 64 - 1) v (omega arith) fits
