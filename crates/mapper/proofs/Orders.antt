-- Walks that go on are ordered as those that they go on from, and then by their last turns.
use Rattle.std.proofs.Common.{◌≡◌, ◌<◌, suc, List, [], ◌∷◌, ◌++◌, true, ◌&&◌, length, nat_lt, sym, ◌∙◌, refl, arith, ◌⊎◌, inl, inr}
use Rattle.std.specs.Prelude.{ℤ, int_lt, ◌<ℤ◌}
use Rattle.std.specs.Ordering.{int_eq}
use Rattle.std.proofs.lemmas.Bool.{false≢true, or_cases, and_parts, eq-eqb}
use Rattle.std.proofs.lemmas.Bool.Decides.{Decides-int_eq}
use Rattle.std.proofs.lemmas.Int.{ints}
use Rattle.journal_defs.specs.Walks.{turns_below, walk_below}
use Rattle.journal_defs.proofs.Order.{or-left, or-right, below-parts, below-shorter}
use Rattle.map_laws.proofs.Asks.{push-length}

below-turns : (v w : List ℤ) → length v ≡ length w → turns_below v w ≡ true → walk_below v w ≡ true
below-turns v w l e = or-right (nat_lt (length v) (length w)) _ (rw (eq-eqb (length v) (length w) l) e)

turns-append : (v w xs ys : List ℤ) → turns_below v w ≡ true → turns_below (v ++ xs) (w ++ ys) ≡ true
turns-append [] w xs ys e = absurd (false≢true e)
turns-append (s ∷ v) [] xs ys e = absurd (false≢true e)
turns-append (s ∷ v) (t ∷ w) xs ys e = by (or_cases (int_lt s t) _ e) (turns-append v w xs ys)
  where
    by : (int_lt s t ≡ true) ⊎ ((int_eq s t && turns_below v w) ≡ true) → (turns_below v w ≡ true → turns_below (v ++ xs) (w ++ ys) ≡ true) → turns_below (s ∷ (v ++ xs)) (t ∷ (w ++ ys)) ≡ true
    by (inl l) rest = or-left (int_lt s t) _ l
    by (inr r) rest = let two = and_parts (int_eq s t) (turns_below v w) r in or-right (int_lt s t) _ (rw two.0 (rest two.1))

turns-last : (w : List ℤ) (s t : ℤ) → int_lt s t ≡ true → turns_below (w ++ s ∷ []) (w ++ t ∷ []) ≡ true
turns-last [] s t l = or-left (int_lt s t) _ l
turns-last (x ∷ w) s t l = or-right (int_lt x x) _ (rw ((Decides-int_eq x x).1 refl) (turns-last w s t l))

pub below-onward : (v w : List ℤ) (s t : ℤ) → walk_below v w ≡ true → walk_below (v ++ s ∷ []) (w ++ t ∷ []) ≡ true
below-onward v w s t e = by (below-parts v w e) (push-length v s) (push-length w t)
  where
    by : (length v < length w) ⊎ ((length v ≡ length w) × (turns_below v w ≡ true)) → length (v ++ s ∷ []) ≡ suc (length v) → length (w ++ t ∷ []) ≡ suc (length w) → walk_below (v ++ s ∷ []) (w ++ t ∷ []) ≡ true
    by (inl l) a b = below-shorter (v ++ s ∷ []) (w ++ t ∷ []) (omega arith)
    by (inr r) a b = let l = r.0 in below-turns (v ++ s ∷ []) (w ++ t ∷ []) (omega arith) (turns-append v w (s ∷ []) (t ∷ []) r.1)

pub below-last : (w : List ℤ) (s t : ℤ) → s <ℤ t → walk_below (w ++ s ∷ []) (w ++ t ∷ []) ≡ true
below-last w s t l = let a = push-length w s in let b = push-length w t in below-turns (w ++ s ∷ []) (w ++ t ∷ []) (a ∙ sym b) (turns-last w s t (grind (arith, ints)))

pub below-empty : (w : List ℤ) (t : ℤ) → walk_below [] (w ++ t ∷ []) ≡ true
below-empty w t = let a = push-length w t in below-shorter [] (w ++ t ∷ []) (let l : 0 < length (w ++ t ∷ []) = omega arith in l)
