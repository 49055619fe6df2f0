-- Walks are strictly ordered.
use Rattle.std.proofs.Common.{◌≡◌, ◌≢◌, ◌<◌, List, [], ◌∷◌, Bool, true, false, ◌&&◌, ◌||◌, length, nat_lt, nat_eq, sym, ◌∙◌, true≢false, refl, arith, ◌⊎◌, inl, inr}
use Rattle.std.specs.Prelude.{ℤ, int_lt}
use Rattle.std.specs.Ordering.{int_eq}
use Rattle.std.proofs.lemmas.Bool.{false≢true, or_cases, and_parts, cases_order, eq-eqb, lt-ltb}
use Rattle.std.proofs.lemmas.Bool.Decides.{Decides-int_eq, nat_tests}
use Rattle.std.proofs.lemmas.Int.{ints}
use Rattle.net_defs.specs.Turn.{same_turns}
use Rattle.journal_defs.specs.Walks.{turns_below, walk_below, IsStrictOrder}

lt_irrefl : (s : ℤ) → int_lt s s ≡ false
lt_irrefl s = grind (arith, ints)

lt_trans : (r s t : ℤ) → int_lt r s ≡ true → int_lt s t ≡ true → int_lt r t ≡ true
lt_trans r s t e f = grind (arith, ints)

lt_total : (s t : ℤ) → int_lt s t ≡ false → int_eq s t ≡ false → int_lt t s ≡ true
lt_total s t e f = by (λ p. false≢true (sym f ∙ (Decides-int_eq s t).1 p))
  where
    by : (s ≢ t) → int_lt t s ≡ true
    by differ = grind (arith, ints)

turns-irrefl : (w : List ℤ) → turns_below w w ≡ false
turns-irrefl [] = refl
turns-irrefl (t ∷ ts) = rw (lt_irrefl t) (turns-irrefl ts)

int_eq_refl : (t : ℤ) → int_eq t t ≡ true
int_eq_refl t = (Decides-int_eq t t).1 refl

pub or-left : (x y : Bool) → x ≡ true → (x || y) ≡ true
or-left true y e = refl
or-left false y e = absurd (false≢true e)

pub or-right : (x y : Bool) → y ≡ true → (x || y) ≡ true
or-right true y e = refl
or-right false y e = e

-- what it says of two walks that begin with turns
turns-parts : (s t : ℤ) (ss ts : List ℤ) → turns_below (s ∷ ss) (t ∷ ts) ≡ true → (int_lt s t ≡ true) ⊎ ((s ≡ t) × (turns_below ss ts ≡ true))
turns-parts s t ss ts e = by (or_cases (int_lt s t) _ e)
  where
    by : (int_lt s t ≡ true) ⊎ ((int_eq s t && turns_below ss ts) ≡ true) → (int_lt s t ≡ true) ⊎ ((s ≡ t) × (turns_below ss ts ≡ true))
    by (inl l) = inl l
    by (inr r) = let two = and_parts (int_eq s t) (turns_below ss ts) r in inr ((Decides-int_eq s t).0 two.0, two.1)

turns-less : (s t : ℤ) (ss ts : List ℤ) → int_lt s t ≡ true → turns_below (s ∷ ss) (t ∷ ts) ≡ true
turns-less s t ss ts l = or-left (int_lt s t) _ l

turns-same : (s : ℤ) (ss ts : List ℤ) → turns_below ss ts ≡ true → turns_below (s ∷ ss) (s ∷ ts) ≡ true
turns-same s ss ts l = or-right (int_lt s s) _ (rw (int_eq_refl s) l)

turns-trans : (u v w : List ℤ) → turns_below u v ≡ true → turns_below v w ≡ true → turns_below u w ≡ true
turns-trans [] v w e f = absurd (false≢true e)
turns-trans (r ∷ rs) [] w e f = absurd (false≢true e)
turns-trans (r ∷ rs) (s ∷ ss) [] e f = absurd (false≢true f)
turns-trans (r ∷ rs) (s ∷ ss) (t ∷ ts) e f = by (turns-parts r s rs ss e) (turns-parts s t ss ts f) (turns-trans rs ss ts)
  where
    by : (int_lt r s ≡ true) ⊎ ((r ≡ s) × (turns_below rs ss ≡ true)) → (int_lt s t ≡ true) ⊎ ((s ≡ t) × (turns_below ss ts ≡ true)) → (turns_below rs ss ≡ true → turns_below ss ts ≡ true → turns_below rs ts ≡ true) → turns_below (r ∷ rs) (t ∷ ts) ≡ true
    by (inl a) (inl b) rest = turns-less r t rs ts (lt_trans r s t a b)
    by (inl a) (inr b) rest = turns-less r t rs ts (rw (← b.0) a)
    by (inr a) (inl b) rest = turns-less r t rs ts (rw a.0 b)
    by (inr a) (inr b) rest = rw (a.0, b.0) (turns-same t rs ts (rest a.1 b.1))

turns-total : (v w : List ℤ) → length v ≡ length w → v ≢ w → turns_below v w ≡ false → turns_below w v ≡ true
turns-total [] [] l d e = absurd (d refl)
turns-total [] (t ∷ ts) l d e = absurd (omega arith)
turns-total (s ∷ ss) [] l d e = absurd (omega arith)
turns-total (s ∷ ss) (t ∷ ts) l d e = by (int_lt s t) (int_eq s t) refl refl e (turns-total ss ts (omega arith))
  where
    by : (a b : Bool) → int_lt s t ≡ a → int_eq s t ≡ b → (a || (b && turns_below ss ts)) ≡ false → (ss ≢ ts → turns_below ss ts ≡ false → turns_below ts ss ≡ true) → turns_below (t ∷ ts) (s ∷ ss) ≡ true
    by true b p q f rest = absurd (true≢false f)
    by false false p q f rest = turns-less t s ts ss (lt_total s t p q)
    by false true p q f rest =
        let one : s ≡ t = (Decides-int_eq s t).0 q in
        rw one (turns-same t ts ss (rest (λ r. d (let both : s ∷ ss ≡ t ∷ ts = cc in both)) f))

-- what the order of walks says
pub below-parts : (v w : List ℤ) → walk_below v w ≡ true → (length v < length w) ⊎ ((length v ≡ length w) × (turns_below v w ≡ true))
below-parts v w e = by (or_cases (nat_lt (length v) (length w)) _ e)
  where
    by : (nat_lt (length v) (length w) ≡ true) ⊎ ((nat_eq (length v) (length w) && turns_below v w) ≡ true) → (length v < length w) ⊎ ((length v ≡ length w) × (turns_below v w ≡ true))
    by (inl l) = inl (grind (arith, nat_tests))
    by (inr r) = let two = and_parts (nat_eq (length v) (length w)) (turns_below v w) r in inr (grind (arith, nat_tests), two.1)

pub below-shorter : (v w : List ℤ) → length v < length w → walk_below v w ≡ true
below-shorter v w l = or-left (nat_lt (length v) (length w)) _ (lt-ltb (length v) (length w) l)

below-turns : (v w : List ℤ) → length v ≡ length w → turns_below v w ≡ true → walk_below v w ≡ true
below-turns v w l e = or-right (nat_lt (length v) (length w)) _ (rw (eq-eqb (length v) (length w) l) e)

pub below-irrefl : (w : List ℤ) → walk_below w w ≡ false
below-irrefl w = by (walk_below w w) refl
  where
    not : (length w < length w) ⊎ ((length w ≡ length w) × (turns_below w w ≡ true)) → walk_below w w ≡ false
    not (inl l) = absurd (omega arith)
    not (inr r) = absurd (false≢true (sym (turns-irrefl w) ∙ r.1))

    by : (b : Bool) → walk_below w w ≡ b → walk_below w w ≡ false
    by true e = not (below-parts w w e)
    by false e = e

pub below-trans : (u v w : List ℤ) → walk_below u v ≡ true → walk_below v w ≡ true → walk_below u w ≡ true
below-trans u v w e f = by (below-parts u v e) (below-parts v w f)
  where
    by : (length u < length v) ⊎ ((length u ≡ length v) × (turns_below u v ≡ true)) → (length v < length w) ⊎ ((length v ≡ length w) × (turns_below v w ≡ true)) → walk_below u w ≡ true
    by (inl a) (inl b) = below-shorter u w (omega arith)
    by (inl a) (inr b) = below-shorter u w (omega arith)
    by (inr a) (inl b) = below-shorter u w (omega arith)
    by (inr a) (inr b) = below-turns u w (omega arith) (turns-trans u v w a.1 b.1)

pub below-total : (v w : List ℤ) → v ≢ w → walk_below v w ≡ false → walk_below w v ≡ true
below-total v w d e = by (cases_order (length v) (length w))
  where
    not : (b : Bool) → turns_below v w ≡ b → length v ≡ length w → turns_below v w ≡ false
    not true t l = absurd (true≢false (sym (below-turns v w l t) ∙ e))
    not false t l = t

    by : (length v ≡ length w) ⊎ ((length v < length w) ⊎ (length w < length v)) → walk_below w v ≡ true
    by (inl l) = below-turns w v (sym l) (turns-total v w l d (not (turns_below v w) refl l))
    by (inr (inl l)) = absurd (true≢false (sym (below-shorter v w l) ∙ e))
    by (inr (inr l)) = below-shorter w v l

pub strict_order : IsStrictOrder walk_below
strict_order = record { not_itself = below-irrefl; transitive = below-trans; total = below-total }
