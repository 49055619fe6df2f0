-- Items of lists that grow by one at the end.
use Rattle.std.proofs.Common.{◌≡◌, ◌<◌, ◌⊎◌, inl, inr, ℕ, zero, suc, List, [], ◌∷◌, ◌++◌, length, get_or, Some, refl, arith}
use Rattle.std.specs.Prelude.{slice_get}
use Rattle.replicate_merge.specs.Work.{Among}

pub item-left : {X : Type 0} (xs : List X) (x y : X) (k : ℕ) → slice_get xs k ≡ Some y → slice_get (xs ++ x ∷ []) k ≡ Some y
item-left [] x y k e = cc
item-left (z ∷ xs) x y zero e = e
item-left (z ∷ xs) x y (suc k) e = item-left xs x y k e

pub item-last : {X : Type 0} (xs : List X) (x : X) → slice_get (xs ++ x ∷ []) (length xs) ≡ Some x
item-last [] x = refl
item-last (z ∷ xs) x = item-last xs x

pub item-cases : {X : Type 0} (xs : List X) (x y : X) (k : ℕ) → slice_get (xs ++ x ∷ []) k ≡ Some y → (slice_get xs k ≡ Some y) ⊎ (x ≡ y)
item-cases [] x y zero e = inr (let one : x ≡ y = cc in one)
item-cases [] x y (suc k) e = cc
item-cases (z ∷ xs) x y zero e = inl e
item-cases (z ∷ xs) x y (suc k) e = item-cases xs x y k e

pub among-left : {X : Type 0} (xs : List X) (x y : X) → Among xs y → Among (xs ++ x ∷ []) y
among-left xs x y a = record { place = a.place; there = item-left xs x y a.place a.there }

pub among-last : {X : Type 0} (xs : List X) (x : X) → Among (xs ++ x ∷ []) x
among-last xs x = record { place = length xs; there = item-last xs x }

pub among-cases : {X : Type 0} (xs : List X) (x y : X) → Among (xs ++ x ∷ []) y → Among xs y ⊎ (x ≡ y)
among-cases xs x y a = by (item-cases xs x y a.place a.there)
  where
    by : (slice_get xs a.place ≡ Some y) ⊎ (x ≡ y) → Among xs y ⊎ (x ≡ y)
    by (inl e) = inl (record { place = a.place; there = e })
    by (inr e) = inr e

pub nothing-among : {X : Type 0} (x : X) → Among [] x → ⊥
nothing-among x a = let t = a.there in cc

-- a list with one element more
pub get-left : {X : Type 0} (xs : List X) (x d : X) (k : ℕ) → k < length xs → get_or (xs ++ x ∷ []) k d ≡ get_or xs k d
get-left [] x d k l = absurd (omega arith)
get-left (y ∷ ys) x d zero l = refl
get-left (y ∷ ys) x d (suc k) l = get-left ys x d k (omega arith)

pub get-last : {X : Type 0} (xs : List X) (x d : X) (k : ℕ) → k ≡ length xs → get_or (xs ++ x ∷ []) k d ≡ x
get-last [] x d zero l = refl
get-last [] x d (suc k) l = absurd (omega arith)
get-last (y ∷ ys) x d zero l = absurd (omega arith)
get-last (y ∷ ys) x d (suc k) l = get-last ys x d k (omega arith)
