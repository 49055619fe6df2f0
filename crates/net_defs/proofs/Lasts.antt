-- A turn in the place of the last one.
use Rattle.std.proofs.Common.{◌≡◌, ◌<◌, ◌-◌, ℕ, List, [], ◌∷◌, ◌++◌, length, take, set, sym, ◌∙◌, ap, min, arith}
use Rattle.std.specs.Prelude.{ℤ, slice_set}
use Rattle.std.proofs.Math.Seq.{take-set-lt}
use Rattle.std.proofs.lemmas.Grind.{take-set_at}
use Rattle.std.proofs.lemmas.List.{length-set, length-take, take_all}

-- of all the turns
pub put-last : (w r : List ℤ) (s t : ℤ) → r ≡ w → 0 < length w → s ≡ t → slice_set w (length r - 1) s ≡ take (length w - 1) w ++ t ∷ []
put-last w r s t is some same =
    let i : length r - 1 ≡ length w - 1 = ap (λ l. length l - 1) is in
    let all : take (length w) (set w (length w - 1) s) ≡ set w (length w - 1) s = take_all (length w) (set w (length w - 1) s) (let k = length-set w (length w - 1) s in omega arith) in
    ap (λ k. slice_set w k s) i ∙ sym all ∙ take-set_at w (length w - 1) (length w) s (omega arith) (omega arith) ∙ ap (λ u. take (length w - 1) w ++ u ∷ []) same

-- of the first so many
pub put-few : (w r xs : List ℤ) (n : ℕ) (s t : ℤ) → w ≡ take n xs → r ≡ w → 0 < length w → s ≡ t → take n (slice_set xs (length r - 1) s) ≡ take (length w - 1) w ++ t ∷ []
put-few w r xs n s t few is some same =
    let long : length w ≡ min n (length xs) = ap length few ∙ length-take n xs in
    let i : length r ≡ length w = ap length is in
    let low : length r - 1 < n = omega arith in
    take-set-lt n xs (length r - 1) s low ∙ ap (λ l. set l (length r - 1) s) (sym few) ∙ put-last w r s t is some same
