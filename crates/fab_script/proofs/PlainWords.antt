-- What plain numbers say by the forms of their words.
use Rattle.std.proofs.Common.{◌≡◌, ◌≤◌, ◌^◌, ◌-◌, ℕ, suc, List, [], ◌∷◌, Bool, true, false, length, map, nat_eq, nat_lt, nat_le, Ok, Err, refl, ap, ◌∙◌, arith, if◌then◌else◌}
use Rattle.std.specs.Str.Parse.{digits_value}
use Rattle.std.proofs.lemmas.Bool.Decides.{nat_tests}
use Rattle.fab_text.specs.declared.fault.NumFault.TheVariants.{NotNumber, TooLarge as AboveRange}
use Rattle.fab_text.specs.declared.fault.FaultKind.TheVariants.{BadWord, TooLarge}
use Rattle.fab_text.specs.Fault.{as_kind, and_then}
use Rattle.fab_text.specs.Word.{name_test, number_test, number_within, u32_of}
use Rattle.run_defs.specs.Script.{Form, OfName, OfNumber, Value, Name, Number, from_least, value_of, values_of, said_by}

-- numbers are in the ranges of forms
abbrev pub AreWithin : List Form → List ℕ → Type 0
AreWithin [] [] = Unit {0}
AreWithin [] (v ∷ vs) = ⊥
AreWithin (OfName ∷ fs) vs = ⊥
AreWithin (OfNumber least most ∷ fs) [] = ⊥
AreWithin (OfNumber least most ∷ fs) (v ∷ vs) = ((least ≤ v) × (v ≤ most)) × AreWithin fs vs

-- a number that is small enough
pub within-said : (most : ℕ) (w : List ℕ) (v : ℕ) → u32_of w ≡ Ok v → v ≤ most → number_within most w ≡ Ok v
within-said most w v e high = by (number_test w) (nat_le (digits_value 10 w) (2 ^ 32 - 1)) refl e
  where
    by : (t u : Bool) → number_test w ≡ t → (if t then (if u then Ok (digits_value 10 w) else Err AboveRange) else Err NotNumber) ≡ Ok v → number_within most w ≡ Ok v
    by true true f e =
        let same : digits_value 10 w ≡ v = cc in
        let below : nat_le (digits_value 10 w) most ≡ true = grind (arith, nat_tests, same, high) in
        (λ i. if f i then (if below i then Ok (digits_value 10 w) else Err AboveRange) else Err NotNumber) ∙ ap Ok same
    by true false f e = cc
    by false u f e = cc

number-said : (least most : ℕ) (w : List ℕ) (v : ℕ) → u32_of w ≡ Ok v → least ≤ v → v ≤ most → value_of (OfNumber least most) w ≡ Ok (Number v)
number-said least most w v e low high =
    let above : nat_lt v least ≡ false = grind (arith, nat_tests, low) in
    (λ i. and_then (as_kind (within-said most w v e high i)) (from_least least)) ∙ (λ i. if above i then Err TooLarge else Ok (Number v))

values-said : (fs : List Form) (ws : List (List ℕ)) (vs : List ℕ) → map u32_of ws ≡ map Ok vs → AreWithin fs vs → (length fs ≡ length ws) × (values_of fs ws ≡ Ok (map Number vs))
values-said [] [] [] e h = (refl, refl)
values-said [] (w ∷ ws) [] e h = cc
values-said [] ws (v ∷ vs) e h = absurd h
values-said (OfName ∷ fs) ws vs e h = absurd h
values-said (OfNumber least most ∷ fs) ws [] e h = absurd h
values-said (OfNumber least most ∷ fs) [] (v ∷ vs) e h = cc
values-said (OfNumber least most ∷ fs) (w ∷ ws) (v ∷ vs) e h =
    let this : u32_of w ≡ Ok v = cc in
    let others : map u32_of ws ≡ map Ok vs = cc in
    let rest = values-said fs ws vs others h.1 in
    (ap suc rest.0, (λ i. and_then (number-said least most w v this h.0.0 h.0.1 i) (λ x. and_then (rest.1 i) (λ xs. Ok (x ∷ xs)))))

-- as many words as forms
counted : (fs : List Form) (ws : List (List ℕ)) (vs : List Value) → length fs ≡ length ws → values_of fs ws ≡ Ok vs → said_by fs ws ≡ Ok vs
counted fs ws vs same e =
    let as_many : nat_eq (length fs) (length ws) ≡ true = grind (arith, nat_tests, same) in
    (λ i. if as_many i then values_of fs ws else Err BadWord) ∙ e

-- numbers in their ranges
pub plain-said : (fs : List Form) (ws : List (List ℕ)) (vs : List ℕ) → map u32_of ws ≡ map Ok vs → AreWithin fs vs → said_by fs ws ≡ Ok (map Number vs)
plain-said fs ws vs e h = let both = values-said fs ws vs e h in counted fs ws (map Number vs) both.0 both.1

-- a name, and numbers in their ranges
pub named-said : (name : List ℕ) (fs : List Form) (all ws : List (List ℕ)) (vs : List ℕ) → (all ≡ name ∷ ws) × (name_test name ≡ true) → map u32_of ws ≡ map Ok vs → AreWithin fs vs
    → said_by (OfName ∷ fs) all ≡ Ok (Name name ∷ map Number vs)
named-said name fs all ws vs led e h =
    let both = values-said fs ws vs e h in
    let first : value_of OfName name ≡ Ok (Name name) = λ i. if led.1 i then Ok (Name name) else Err BadWord in
    ap (said_by (OfName ∷ fs)) led.0 ∙ counted (OfName ∷ fs) (name ∷ ws) (Name name ∷ map Number vs) (ap suc both.0) (λ i. and_then (first i) (λ x. and_then (both.1 i) (λ xs. Ok (x ∷ xs))))
