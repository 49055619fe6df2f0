-- The number of full channels, and writes to channels.
use Rattle.std.proofs.Common.{◌≡◌, ◌<◌, ◌≤◌, ◌+◌, ℕ, zero, suc, Bool, true, false, nat_eq, List, [], ◌∷◌, length, replicate, get_or, set, Option, Some, None, is_some, is_none, refl, sym, ap, ◌∙◌, arith}
use Rattle.std.specs.List.{list_all}
use Rattle.std.proofs.lemmas.Bool.Decides.{Decides-eqb}
use Rattle.world_defs.specs.Links.{Held}
use Rattle.link_model.specs.FullSlots.{full_count}

nonzero : (n : ℕ) → 0 < n → nat_eq n 0 ≡ false
nonzero n h = by (nat_eq n 0) refl
  where
    by : (t : Bool) → nat_eq n 0 ≡ t → nat_eq n 0 ≡ false
    by true e = let z : n ≡ 0 = (Decides-eqb n 0).0 e in absurd (omega (arith, z))
    by false e = e

pub count-idle : (ps : List (Option Held)) → nat_eq (full_count ps) 0 ≡ list_all is_none ps
count-idle [] = refl
count-idle (None ∷ ps) = let e : 0 + full_count ps ≡ full_count ps = omega arith in ap (λ n. nat_eq n 0) e ∙ count-idle ps
count-idle (Some held ∷ ps) = nonzero (1 + full_count ps) (omega arith)

pub count-nones : (n : ℕ) → 0 ≡ full_count (replicate n None)
count-nones zero = refl
count-nones (suc n) = let e : 0 ≡ full_count (replicate n None) = count-nones n in omega (arith, e)

pub count-le : (ps : List (Option Held)) → full_count ps ≤ length ps
count-le [] = omega arith
count-le (None ∷ ps) = let h = count-le ps in omega (arith, h)
count-le (Some held ∷ ps) = let h = count-le ps in omega (arith, h)

-- none is counted exactly where each is empty
pub none-counted : (ps : List (Option Held)) (k : ℕ) → full_count ps ≡ 0 → get_or ps k None ≡ None
none-counted [] k e = refl
none-counted (None ∷ ps) zero e = refl
none-counted (None ∷ ps) (suc k) e = none-counted ps k (omega (arith, e))
none-counted (Some held ∷ ps) k e = absurd (omega (arith, e))

pub none-full_count : (ps : List (Option Held)) → ((k : ℕ) → get_or ps k None ≡ None) → full_count ps ≡ 0
none-full_count [] empty = refl
none-full_count (None ∷ ps) empty = let h = none-full_count ps (λ k. empty (suc k)) in omega (arith, h)
none-full_count (Some held ∷ ps) empty = let first : Some held ≡ None = empty 0 in cc

-- a packet more in an empty channel
pub count-put : (ps : List (Option Held)) (c : ℕ) (held : Held) → c < length ps → get_or ps c None ≡ None → full_count ps + 1 ≡ full_count (set ps c (Some held))
count-put [] c held h e = absurd (omega arith)
count-put (None ∷ ps) zero held h e = omega arith
count-put (Some other ∷ ps) zero held h e = cc
count-put (p ∷ ps) (suc c) held h e = let k = count-put ps c held (omega arith) e in omega (arith, k)

-- one less where there was one
pub count-take : (ps : List (Option Held)) (c : ℕ) → is_some (get_or ps c None) ≡ true → full_count ps ≡ full_count (set ps c None) + 1
count-take [] c h = cc
count-take (None ∷ ps) zero h = cc
count-take (Some other ∷ ps) zero h = omega arith
count-take (p ∷ ps) (suc c) h = let k = count-take ps c h in omega (arith, k)

-- two writes to one place
pub set-set : {X : Type 0} (xs : List X) (c : ℕ) (a b : X) → set (set xs c a) c b ≡ set xs c b
set-set [] c a b = refl
set-set (x ∷ xs) zero a b = refl
set-set (x ∷ xs) (suc c) a b = ap (λ l. x ∷ l) (set-set xs c a b)

-- a packet put back
pub set-back : (ps : List (Option Held)) (c : ℕ) (held : Held) → get_or ps c None ≡ Some held → set (set ps c None) c (Some held) ≡ ps
set-back [] c held e = refl
set-back (p ∷ ps) zero held e = ap (λ x. x ∷ ps) (sym e)
set-back (p ∷ ps) (suc c) held e = ap (λ l. p ∷ l) (set-back ps c held e)

-- and one that is written where it is
pub set-there : (ps : List (Option Held)) (c : ℕ) (held : Held) → get_or ps c None ≡ Some held → set ps c (Some held) ≡ ps
set-there [] c held e = refl
set-there (p ∷ ps) zero held e = ap (λ x. x ∷ ps) (sym e)
set-there (p ∷ ps) (suc c) held e = ap (λ l. p ∷ l) (set-there ps c held e)
