-- When two lists of turns are the same.
use Rattle.std.proofs.Common.{◌≡◌, ◌≢◌, List, [], ◌∷◌, Bool, true, false, refl}
use Rattle.std.specs.Prelude.{ℤ}
use Rattle.std.specs.Ordering.{int_eq}
use Rattle.std.proofs.lemmas.Bool.{false≢true, and_parts}
use Rattle.std.proofs.lemmas.Bool.Decides.{Decides-int_eq}
use Rattle.net_defs.specs.Turn.{same_turns}

pub same_turns-true : (v w : List ℤ) → same_turns v w ≡ true → v ≡ w
same_turns-true [] [] e = refl
same_turns-true [] (t ∷ ts) e = absurd (false≢true e)
same_turns-true (s ∷ ss) [] e = absurd (false≢true e)
same_turns-true (s ∷ ss) (t ∷ ts) e =
    let two = and_parts (int_eq s t) (same_turns ss ts) e in
    let head : s ≡ t = (Decides-int_eq s t).0 two.0 in
    let tail : ss ≡ ts = same_turns-true ss ts two.1 in
    cc

pub same_turns-refl : (w : List ℤ) → same_turns w w ≡ true
same_turns-refl [] = refl
same_turns-refl (t ∷ ts) = rw ((Decides-int_eq t t).1 refl) (same_turns-refl ts)

pub same_turns-false : (v w : List ℤ) → v ≢ w → same_turns v w ≡ false
same_turns-false v w differ = by (same_turns v w) refl
  where
    by : (b : Bool) → same_turns v w ≡ b → same_turns v w ≡ false
    by true e = absurd (differ (same_turns-true v w e))
    by false e = e
