-- Elements of lists by their places: after a push, after a write, and where all are one.
use Rattle.std.proofs.Common.{◌≡◌, ◌≢◌, ◌<◌, ◌⊎◌, inl, inr, ℕ, zero, suc, List, [], ◌∷◌, ◌++◌, length, set, replicate, Some, refl, ap, sym, ◌∙◌, arith}
use Rattle.std.specs.Prelude.{slice_get}
use Rattle.journal_defs.proofs.Members.{IsMember}

-- an element after a push is an old one or the new one
pub push-cases : {X : Type 0} (xs : List X) (x : X) (v : ℕ) (y : X) → slice_get (xs ++ x ∷ []) v ≡ Some y → (slice_get xs v ≡ Some y) ⊎ ((v ≡ length xs) × (x ≡ y))
push-cases [] x zero y e = let one : x ≡ y = cc in inr (refl, one)
push-cases [] x (suc v) y e = cc
push-cases (z ∷ zs) x zero y e = inl e
push-cases (z ∷ zs) x (suc v) y e = by (push-cases zs x v y e)
  where
    by : (slice_get zs v ≡ Some y) ⊎ ((v ≡ length zs) × (x ≡ y)) → (slice_get zs v ≡ Some y) ⊎ ((suc v ≡ suc (length zs)) × (x ≡ y))
    by (inl p) = inl p
    by (inr p) = inr (ap suc p.0, p.1)

pub push-old : {X : Type 0} (xs : List X) (x : X) (v : ℕ) (y : X) → slice_get xs v ≡ Some y → slice_get (xs ++ x ∷ []) v ≡ Some y
push-old [] x v y e = cc
push-old (z ∷ zs) x zero y e = e
push-old (z ∷ zs) x (suc v) y e = push-old zs x v y e

pub push-new : {X : Type 0} (xs : List X) (x : X) → slice_get (xs ++ x ∷ []) (length xs) ≡ Some x
push-new [] x = refl
push-new (z ∷ zs) x = push-new zs x

-- after a write
pub set-other : {X : Type 0} (xs : List X) (i : ℕ) (x : X) (v : ℕ) → v ≢ i → slice_get (set xs i x) v ≡ slice_get xs v
set-other [] i x v d = refl
set-other (z ∷ zs) zero x zero d = absurd (d refl)
set-other (z ∷ zs) zero x (suc v) d = refl
set-other (z ∷ zs) (suc i) x zero d = refl
set-other (z ∷ zs) (suc i) x (suc v) d = set-other zs i x v (λ e. d (ap suc e))

pub set-same : {X : Type 0} (xs : List X) (i : ℕ) (x : X) → i < length xs → slice_get (set xs i x) i ≡ Some x
set-same [] i x l = absurd (omega arith)
set-same (z ∷ zs) zero x l = refl
set-same (z ∷ zs) (suc i) x l = set-same zs i x (omega arith)

-- in a list of one value there is no other
pub replicate-only : {X : Type 0} (n : ℕ) (x : X) (v : ℕ) (y : X) → slice_get (replicate n x) v ≡ Some y → x ≡ y
replicate-only zero x v y e = cc
replicate-only (suc n) x zero y e = cc
replicate-only (suc n) x (suc v) y e = replicate-only n x v y e

-- one place has one element
pub one-there : {X : Type 0} (xs : List X) (v : ℕ) (x y : X) → slice_get xs v ≡ Some x → slice_get xs v ≡ Some y → x ≡ y
one-there xs v x y a b = let e : Some x ≡ Some y = sym a ∙ b in cc

pub get-less : {X : Type 0} (xs : List X) (v : ℕ) (x : X) → slice_get xs v ≡ Some x → v < length xs
get-less [] v x e = cc
get-less (z ∷ zs) zero x e = omega arith
get-less (z ∷ zs) (suc v) x e = let l = get-less zs v x e in omega arith

-- what stands at a place is a member
pub place-member : {X : Type 0} (xs : List X) (k : ℕ) (x : X) → slice_get xs k ≡ Some x → IsMember x xs
place-member [] k x e = cc
place-member (z ∷ zs) zero x e = inl (let one : x ≡ z = cc in one)
place-member (z ∷ zs) (suc k) x e = inr (place-member zs k x e)
