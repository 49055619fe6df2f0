-- Walks whose turns lie one after another: where one lies, and how one more goes after them.
use Rattle.std.proofs.Common.{◌≡◌, ◌≢◌, ◌<◌, ◌≤◌, ◌+◌, ◌-◌, ℕ, zero, suc, List, [], ◌∷◌, ◌++◌, length, take, drop, Some, refl, ap, ◌∙◌, sym, arith}
use Rattle.std.specs.Prelude.{ℤ, slice_get, slice_index_or, slice_range}
use Rattle.std.proofs.lemmas.List.{take-append-le, take_all, drop-append-le, drop_at, length-drop, length-append}
use Rattle.probe.specs.Flat.{walks_in, AreEnds}

-- a part of the turns stays where it is
range-kept : (turns more : List ℤ) (i j : ℕ) → i ≤ j → j ≤ length turns → slice_range (turns ++ more) i j ≡ slice_range turns i j
range-kept turns more i j low high =
    ap (take (j - i)) (drop-append-le i turns more (omega arith))
    ∙ take-append-le (j - i) (drop i turns) more (let l = length-drop i turns in omega arith)

-- what goes after them is their last part
range-behind : (turns more : List ℤ) (i j : ℕ) → i ≡ length turns → j ≡ length turns + length more → slice_range (turns ++ more) i j ≡ more
range-behind turns more i j start end =
    ap (take (j - i)) (drop_at turns more i (sym start))
    ∙ take_all (j - i) more (omega arith)

-- ends lie within the turns
start-low : (turns : List ℤ) (start : ℕ) (ends : List ℕ) → AreEnds turns start ends → start ≤ length turns
start-low turns start [] are = omega arith
start-low turns start (end ∷ ends) are = let l = start-low turns end ends are.1 in let low = are.0 in omega arith

pub part-within : (turns : List ℤ) (start : ℕ) (ends : List ℕ) (at : ℕ) → AreEnds turns start ends → at < length ends → (slice_index_or (start ∷ ends) at 0 ≤ slice_index_or ends at 0) × (slice_index_or ends at 0 ≤ length turns)
part-within turns start [] at are l = absurd (omega arith)
part-within turns start (end ∷ ends) zero are l = (are.0, start-low turns end ends are.1)
part-within turns start (end ∷ ends) (suc at) are l = part-within turns end ends at are.1 (omega arith)

-- the walk at a place
pub walk-at : (turns : List ℤ) (start : ℕ) (ends : List ℕ) (at : ℕ) → at < length ends → slice_get (walks_in turns start ends) at ≡ Some (slice_range turns (slice_index_or (start ∷ ends) at 0) (slice_index_or ends at 0))
walk-at turns start [] at l = absurd (omega arith)
walk-at turns start (end ∷ ends) zero l = refl
walk-at turns start (end ∷ ends) (suc at) l = walk-at turns end ends at (omega arith)

pub count-walks : (turns : List ℤ) (start : ℕ) (ends : List ℕ) → length (walks_in turns start ends) ≡ length ends
count-walks turns start [] = refl
count-walks turns start (end ∷ ends) = ap suc (count-walks turns end ends)

-- each walk but the first begins where the one before it ends
pub start-read : (start : ℕ) (ends : List ℕ) (at : ℕ) → at ≢ 0 → slice_index_or ends (at - 1) 0 ≡ slice_index_or (start ∷ ends) at 0
start-read start ends zero some = absurd (some refl)
start-read start ends (suc at) some = ap (λ k. slice_index_or ends k 0) (let one : suc at - 1 ≡ at = omega arith in one)

-- walks with one more after them
pub walks-push : (turns more : List ℤ) (start : ℕ) (ends : List ℕ) (end : ℕ) → AreEnds turns start ends → end ≡ length turns + length more → walks_in (turns ++ more) start (ends ++ end ∷ []) ≡ walks_in turns start ends ++ more ∷ []
walks-push turns more start [] end are is = ap (λ w. w ∷ []) (range-behind turns more start end are is)
walks-push turns more start (e ∷ ends) end are is =
    let one = range-kept turns more start e are.0 (start-low turns e ends are.1) in
    let rest = walks-push turns more e ends end are.1 is in
    λ i. one i ∷ rest i

pub ends-push : (turns more : List ℤ) (start : ℕ) (ends : List ℕ) (end : ℕ) → AreEnds turns start ends → end ≡ length turns + length more → AreEnds (turns ++ more) start (ends ++ end ∷ [])
ends-push turns more start [] end are is = ((let a : start ≡ length turns = are in omega arith), is ∙ sym (length-append turns more))
ends-push turns more start (e ∷ ends) end are is = (are.0, ends-push turns more e ends end are.1 is)
