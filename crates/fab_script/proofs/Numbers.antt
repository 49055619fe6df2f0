-- Digits in front of bytes are a word, where a space or nothing follows them.
use Rattle.std.proofs.Common.{◌≡◌, ◌<◌, ◌+◌, ◌-◌, ◌*◌, ◌^◌, ℕ, List, [], ◌∷◌, ◌++◌, Bool, true, false, ◌&&◌, not, length, take, drop, get_or, map, nat_le, Ok, Err, refl, ap, sym, ◌∙◌, arith, if◌then◌else◌}
use Rattle.std.specs.List.{list_all, onto_first}
use Rattle.std.specs.Str.Parse.{digits_value}
use Rattle.std.proofs.lemmas.Bool.{and_parts}
use Rattle.std.proofs.lemmas.Bool.Decides.{nat_tests}
use Rattle.std.proofs.lemmas.List.{take-append-drop, take_all, drop_all}
use Rattle.std.proofs.lemmas.List.Folds.{list_all_more}
use Rattle.std.proofs.lemmas.Int.Digits.{digits_value_more}
use Rattle.fab_text.specs.declared.fault.NumFault.TheVariants.{NotNumber, TooLarge}
use Rattle.fab_text.specs.Line.{is_blank, words_of}
use Rattle.fab_text.specs.Word.{is_digit, number_test, u32_of}
use Rattle.fab_text.proofs.Digits.{digit_value-digit}
use Rattle.fab_script.specs.Leading.{is_plain}
use Rattle.fab_script.specs.Plain.{IsNumberOf, IsNumberAhead}
use Rattle.fab_script.proofs.Keywords.{leads}

-- a digit more
pub digits-more : (bs : List ℕ) (i v : ℕ) → i < length bs → list_all is_digit (take i bs) ≡ true → is_digit (get_or bs i 0) ≡ true → v ≡ digits_value 10 (take i bs)
    → (list_all is_digit (take (i + 1) bs) ≡ true) × (v * 10 + (get_or bs i 0 - 48) ≡ digits_value 10 (take (i + 1) bs))
digits-more bs i v h front digit value = (
  list_all_more is_digit bs i 0 h ∙ (λ k. front k && digit k),
  ap (λ n. n * 10 + (get_or bs i 0 - 48)) value ∙ ap (λ d. digits_value 10 (take i bs) * 10 + d) (sym (digit_value-digit (get_or bs i 0) digit)) ∙ sym (digits_value_more 10 bs i h),
)

-- digits are no blanks
unblank : (c : ℕ) → is_digit c ≡ true → not (is_blank c) ≡ true
unblank c e = grind (arith, nat_tests)

unblanks : (w : List ℕ) → list_all is_digit w ≡ true → list_all (λ c. not (is_blank c)) w ≡ true
unblanks [] e = refl
unblanks (b ∷ w) e = let parts = and_parts (is_digit b) (list_all is_digit w) e in λ i. unblank b parts.0 i && unblanks w parts.1 i

-- the number that a word says is read from digits alone
pub digits-of : (w : List ℕ) (v : ℕ) → u32_of w ≡ Ok v → number_test w ≡ true
digits-of w v e = by (number_test w) (nat_le (digits_value 10 w) (2 ^ 32 - 1)) refl e
  where
    by : (t u : Bool) → number_test w ≡ t → (if t then (if u then Ok (digits_value 10 w) else Err TooLarge) else Err NotNumber) ≡ Ok v → number_test w ≡ true
    by true u f e = f
    by false u f e = cc

number-plain : (w : List ℕ) → number_test w ≡ true → is_plain w ≡ true
number-plain [] e = cc
number-plain (b ∷ w) e = unblanks (b ∷ w) (grind (arith, nat_tests))

-- bytes without a blank are one word
alone : (w : List ℕ) → is_plain w ≡ true → words_of w ≡ w ∷ []
alone [] h = cc
alone (b ∷ w) h = plain b w h
  where
    plain : (b : ℕ) (w : List ℕ) → list_all (λ c. not (is_blank c)) (b ∷ w) ≡ true → words_of (b ∷ w) ≡ (b ∷ w) ∷ []
    plain b [] h = by (is_blank b) h
      where
        by : (t : Bool) → not t && true ≡ true → (if t then [] else (b ∷ []) ∷ []) ≡ (b ∷ []) ∷ []
        by true e = cc
        by false e = refl
    plain b (c ∷ w) h = by (is_blank b) (is_blank c) (list_all (λ d. not (is_blank d)) w) (plain c w) h
      where
        by : (t u v : Bool) → (not u && v ≡ true → words_of (c ∷ w) ≡ (c ∷ w) ∷ []) → not t && (not u && v) ≡ true
            → (if t then words_of (c ∷ w) else if u then (b ∷ []) ∷ words_of (c ∷ w) else onto_first b (words_of (c ∷ w))) ≡ (b ∷ c ∷ w) ∷ []
        by true u v f e = cc
        by false true v f e = cc
        by false false v f e = ap (onto_first b) (f e)

-- a byte more in front
plain-behind : (s : ℕ) (w : List ℕ) → not (is_blank s) ≡ true → is_plain w ≡ true → is_plain (s ∷ w) ≡ true
plain-behind s [] f h = cc
plain-behind s (b ∷ w) f h = λ i. f i && h i

-- a number with a space after it
pub number-leads : (bytes left : List ℕ) (count value : ℕ) → IsNumberOf bytes count value → drop count bytes ≡ 32 ∷ left → IsNumberAhead bytes value left
number-leads bytes left count value h space =
    let word : is_plain (take count bytes) ≡ true = number-plain (take count bytes) (digits-of (take count bytes) value h.1) in
    let cut : bytes ≡ take count bytes ++ 32 ∷ left = sym (take-append-drop count bytes) ∙ ap (λ r. take count bytes ++ r) space in
    record {
      digits = take count bytes;
      says = h.1;
      first = ap words_of cut ∙ leads (take count bytes) left word;
      signed = λ s plain. ap (λ b. words_of (s ∷ b)) cut ∙ leads (s ∷ take count bytes) left (plain-behind s (take count bytes) plain word);
    }

-- a number with nothing after it
pub number-ends : (bytes rest : List ℕ) (count value : ℕ) → IsNumberOf bytes count value → count ≡ length bytes → rest ≡ drop count bytes → IsNumberAhead bytes value rest
number-ends bytes rest count value h all e =
    let whole : take count bytes ≡ bytes = take_all count bytes (omega (arith, all)) in
    let none : rest ≡ [] = e ∙ drop_all count bytes (omega (arith, all)) in
    let said : u32_of bytes ≡ Ok value = ap u32_of (sym whole) ∙ h.1 in
    let word : is_plain bytes ≡ true = number-plain bytes (digits-of bytes value said) in
    record {
      digits = bytes;
      says = said;
      first = alone bytes word ∙ ap (λ l. bytes ∷ words_of l) (sym none);
      signed = λ s plain. alone (s ∷ bytes) (plain-behind s bytes plain word) ∙ ap (λ l. (s ∷ bytes) ∷ words_of l) (sym none);
    }

-- so the first number is this one
pub number-first : (bytes left : List ℕ) (value : ℕ) → IsNumberAhead bytes value left → map u32_of (words_of bytes) ≡ Ok value ∷ map u32_of (words_of left)
number-first bytes left value h = ap (map u32_of) h.first ∙ ap (λ r. r ∷ map u32_of (words_of left)) h.says
