-- The 30 turns rise, and there are no others.
use Rattle.std.proofs.Common.{◌≡◌, ◌≢◌, ◌<◌, ◌≤◌, ◌+◌, ◌-◌, ℕ, ◌∙◌, ap, arith, ◌⊎◌, inl, inr}
use Rattle.std.specs.Prelude.{ℤ, pos, negsuc, ◌-ℤ◌, ◌<ℤ◌}
use Rattle.std.proofs.lemmas.Bool.{cases_order}
use Rattle.std.proofs.lemmas.Bool.Decides.{nat_tests}
use Rattle.std.proofs.lemmas.Int.{ints}
use Rattle.journal_defs.specs.Walks.{IsOnward}
use Rattle.mapper.specs.Turns.{turn_at}

at-low : (k : ℕ) → k < 15 → turn_at k ≡ pos k -ℤ pos 15
at-low k l = grind (arith, nat_tests)

at-high : (k : ℕ) → 15 ≤ k → turn_at k ≡ pos k -ℤ pos 14
at-high k l = grind (arith, nat_tests)

pub turn-rises : (i k : ℕ) → i < k → turn_at i <ℤ turn_at k
turn-rises i k l = by (cases_order i 15) (cases_order k 15)
  where
    both : (a b : ℤ) → turn_at i ≡ a → turn_at k ≡ b → a <ℤ b → turn_at i <ℤ turn_at k
    both a b e f h = rw (e, f) h

    by : (i ≡ 15) ⊎ ((i < 15) ⊎ (15 < i)) → (k ≡ 15) ⊎ ((k < 15) ⊎ (15 < k)) → turn_at i <ℤ turn_at k
    by (inr (inl a)) (inr (inl b)) = both _ _ (at-low i a) (at-low k b) (omega (arith, ints))
    by (inr (inl a)) (inl b) = both _ _ (at-low i a) (at-high k (omega arith)) (omega (arith, ints))
    by (inr (inl a)) (inr (inr b)) = both _ _ (at-low i a) (at-high k (omega arith)) (omega (arith, ints))
    by (inl a) y = both _ _ (at-high i (omega arith)) (at-high k (omega arith)) (omega (arith, ints))
    by (inr (inr a)) y = both _ _ (at-high i (omega arith)) (at-high k (omega arith)) (omega (arith, ints))

-- a lesser turn was asked before
pub lesser-turn : (i k : ℕ) → turn_at i <ℤ turn_at k → i < k
lesser-turn i k l = by (cases_order i k)
  where
    by : (i ≡ k) ⊎ ((i < k) ⊎ (k < i)) → i < k
    by (inl e) = absurd (let f : turn_at i ≡ turn_at k = ap turn_at e in omega (arith, ints))
    by (inr (inl a)) = a
    by (inr (inr a)) = absurd (let h = turn-rises k i a in omega (arith, ints))

pub turns-apart : (i k : ℕ) → i < k → turn_at i ≢ turn_at k
turns-apart i k l e = absurd (let h = turn-rises i k l in omega (arith, ints))

pub turn-onward : (k : ℕ) → k < 30 → IsOnward (turn_at k)
turn-onward k l = by (cases_order k 15)
  where
    low : k < 15 → IsOnward (turn_at k)
    low b = rw (at-low k b) ((grind (arith, ints)), (λ e. absurd (omega (arith, ints))))

    high : 15 ≤ k → IsOnward (turn_at k)
    high b = rw (at-high k b) ((grind (arith, ints)), (λ e. absurd (omega (arith, ints))))

    by : (k ≡ 15) ⊎ ((k < 15) ⊎ (15 < k)) → IsOnward (turn_at k)
    by (inl e) = high (omega arith)
    by (inr (inl b)) = low b
    by (inr (inr b)) = high (omega arith)

-- where a turn stands
pub record HasPlace (t : ℤ) : Type 0 where
  pub place : ℕ
  pub few : place < 30
  pub is : turn_at place ≡ t

pub turn-place : (t : ℤ) → IsOnward t → HasPlace t
turn-place (pos n) on = record { place = n + 14; few = (let a = on.0 in grind (arith, ints)); is = at-high (n + 14) (let some : n ≢ 0 = (λ e. on.1 (ap pos e)) in omega arith) ∙ (let e : pos (n + 14) -ℤ pos 14 ≡ pos n = omega (arith, ints) in e) }
turn-place (negsuc n) on =
    let few : n ≤ 14 = (let a = on.0 in grind (arith, ints)) in
    record { place = 14 - n; few = omega arith; is = at-low (14 - n) (omega arith) ∙ (let e : pos (14 - n) -ℤ pos 15 ≡ negsuc n = omega (arith, ints) in e) }
