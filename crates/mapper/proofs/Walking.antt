-- A walk with a turn more is never refused.
use Rattle.std.proofs.Common.{◌≡◌, ◌<◌, ◌+◌, ◌-◌, List, [], ◌∷◌, ◌++◌, true, false, length, take, if◌then◌else◌, nat_lt, Some, None, ap, ◌∙◌, refl, arith}
use Rattle.std.specs.Prelude.{ℤ, All}
use Rattle.std.specs.List.{list_all}
use Rattle.std.proofs.lemmas.Bool.Decides.{nat_tests}
use Rattle.std.proofs.Math.Seq.{take-append_seam}
use Rattle.std.proofs.lemmas.List.{length-append}
use Rattle.std.proofs.lemmas.List.Folds.{list_all-append}
use Rattle.std.proofs.lemmas.List.Sums.{list_all-from_AllPass}
use Rattle.net_defs.specs.Turn.{is_turn, IsTurn, walk_refusal}
use Rattle.net_defs.specs.declared.walk.WalkFault.TheVariants.{TooLong, TurnRange}

-- turns of which there are few, with one more
pub onward-fits : (w x : List ℤ) (t : ℤ) → length w < 64 → All IsTurn w → IsTurn t → x ≡ w ++ t ∷ [] → walk_refusal x ≡ None
onward-fits w x t few all turn e =
    let more : length x ≡ length w + 1 = ap length e ∙ length-append w (t ∷ []) in
    let short : nat_lt 64 (length x) ≡ false = grind (arith, nat_tests) in
    let front : list_all is_turn w ≡ true = list_all-from_AllPass is_turn w all in
    let ok : list_all is_turn x ≡ true = ap (list_all is_turn) e ∙ list_all-append is_turn w (t ∷ []) ∙ rw (front, turn) refl in
    λ i. if short i then Some TooLong else if ok i then None else Some TurnRange

-- a walk that goes on by a turn is that one longer, and goes on from its front
pub onward-long : (f w : List ℤ) (t : ℤ) → w ≡ f ++ t ∷ [] → 0 < length w
onward-long f w t is = let long : length w ≡ length f + 1 = ap length is ∙ length-append f (t ∷ []) in omega arith

pub onward-front : (f w : List ℤ) (t : ℤ) → w ≡ f ++ t ∷ [] → take (length w - 1) w ≡ f
onward-front f w t is =
    let long : length w ≡ length f + 1 = ap length is ∙ length-append f (t ∷ []) in
    let one : length w - 1 ≡ length f = omega arith in
    ap (λ k. take k w) one ∙ ap (take (length f)) is ∙ take-append_seam f (t ∷ [])
