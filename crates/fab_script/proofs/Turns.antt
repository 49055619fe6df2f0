-- The range of the turns that were read.
use Rattle.std.proofs.Common.{◌≡◌, ◌≤◌, ℕ, zero, suc, ℤ, pos, List, [], ◌∷◌, Bool, true, false, ◌&&◌, length, nat_le, nat_lt, nat_eq, Some, None, Result, Ok, Err, refl, ap, sym, ◌∙◌, arith, if◌then◌else◌}
use Rattle.std.specs.List.{list_all}
use Rattle.std.specs.Str.Parse.{digits_value}
use Rattle.std.proofs.lemmas.Bool.Decides.{nat_tests}
use Rattle.net_defs.specs.declared.walk.WalkFault.TheVariants.{TooLong, TurnRange}
use Rattle.net_defs.specs.Turn.{is_turn, walk_refusal}
use Rattle.fab_text.specs.declared.fault.NumFault.{NumFault}
use Rattle.fab_text.specs.declared.fault.NumFault.TheVariants.{NotNumber, TooLarge}
use Rattle.fab_text.specs.declared.fault.FaultKind.{FaultKind}
use Rattle.fab_text.specs.Word.{number_test, number_within, with_sign, minus, turn_of}
use Rattle.fab_text.specs.Fault.{as_kind, and_then}
use Rattle.run_defs.specs.Script.{turns_of}
use Rattle.fab_script.specs.LineLists.{behind}

-- a number within a bound
pub within : (most : ℕ) (w : List ℕ) (n : ℕ) → number_within most w ≡ Ok n → n ≤ most
within most w n e = by (number_test w) (nat_le (digits_value 10 w) most) refl e
  where
    by : (t u : Bool) → nat_le (digits_value 10 w) most ≡ u → (if t then (if u then Ok (digits_value 10 w) else Err TooLarge) else Err NotNumber) ≡ Ok n → n ≤ most
    by true true below e = let same : digits_value 10 w ≡ n = cc in grind (arith, nat_tests)
    by true false below e = cc
    by false u below e = cc

turn-plus : (n : ℕ) → n ≤ 15 → is_turn (pos n) ≡ true
turn-plus n h = grind (arith, nat_tests)

turn-minus : (n : ℕ) → n ≤ 15 → is_turn (minus n) ≡ true
turn-minus zero h = refl
turn-minus (suc n) h = grind (arith, nat_tests)

plus-range : (r : Result ℕ NumFault) (t : ℤ) → ((n : ℕ) → r ≡ Ok n → n ≤ 15) → with_sign pos r ≡ Ok t → is_turn t ≡ true
plus-range (Ok n) t h e = let same : pos n ≡ t = cc in ap is_turn (sym same) ∙ turn-plus n (h n refl)
plus-range (Err f) t h e = cc

minus-range : (r : Result ℕ NumFault) (t : ℤ) → ((n : ℕ) → r ≡ Ok n → n ≤ 15) → with_sign minus r ≡ Ok t → is_turn t ≡ true
minus-range (Ok n) t h e = let same : minus n ≡ t = cc in ap is_turn (sym same) ∙ turn-minus n (h n refl)
minus-range (Err f) t h e = cc

-- a turn that was read is one
turn-range : (w : List ℕ) (t : ℤ) → turn_of w ≡ Ok t → is_turn t ≡ true
turn-range [] t e = cc
turn-range (b ∷ bs) t e = by (nat_eq b 43) (nat_eq b 45) e
  where
    by : (p m : Bool) → (if p then with_sign pos (number_within 15 bs) else if m then with_sign minus (number_within 15 bs) else with_sign pos (number_within 15 (b ∷ bs))) ≡ Ok t → is_turn t ≡ true
    by true m e = plus-range (number_within 15 bs) t (within 15 bs) e
    by false true e = minus-range (number_within 15 bs) t (within 15 bs) e
    by false false e = plus-range (number_within 15 (b ∷ bs)) t (within 15 (b ∷ bs)) e

-- turns that were read are as many as their words, and each is one
pub turns-range : (ws : List (List ℕ)) (ts : List ℤ) → turns_of ws ≡ Ok ts → (length ts ≡ length ws) × (list_all is_turn ts ≡ true)
turns-range [] ts e = let same : [] ≡ ts = cc in (ap length (sym same), ap (list_all is_turn) (sym same))
turns-range (w ∷ ws) ts e = by (turn_of w) (turns_of ws) refl e (turns-range ws)
  where
    by : (r : Result ℤ NumFault) (others : Result (List ℤ) FaultKind) → turn_of w ≡ r → and_then (as_kind r) (λ t. behind (t ∷ []) others) ≡ Ok ts
        → ((us : List ℤ) → others ≡ Ok us → (length us ≡ length ws) × (list_all is_turn us ≡ true))
        → (length ts ≡ length (w ∷ ws)) × (list_all is_turn ts ≡ true)
    by (Ok t) (Ok us) f e rest =
        let same : t ∷ us ≡ ts = cc in
        let both = rest us refl in
        (ap length (sym same) ∙ ap suc both.0, ap (list_all is_turn) (sym same) ∙ (λ i. turn-range w t f i && both.1 i))
    by (Ok t) (Err k) f e rest = cc
    by (Err k) others f e rest = cc

-- few turns that were read are a walk
pub turns-walk : (ws : List (List ℕ)) (ts : List ℤ) → turns_of ws ≡ Ok ts → length ws ≤ 64 → walk_refusal ts ≡ None
turns-walk ws ts e few =
    let both = turns-range ws ts e in
    let same : length ts ≡ length ws = both.0 in
    let short : nat_lt 64 (length ts) ≡ false = grind (arith, nat_tests) in
    λ i. if short i then Some TooLong else if both.1 i then None else Some TurnRange
