-- The front of a list, its last element, and what stands after the first elements.
use Rattle.std.proofs.Common.{◌≡◌, ◌+◌, ℕ, zero, suc, List, [], ◌∷◌, ◌++◌, length, drop, Some, refl, sym, ap, ◌∙◌, arith}
use Rattle.std.specs.Prelude.{slice_get}

pub get-front : {X : Type 0} (xs ys : List X) (i : ℕ) (x : X) → slice_get xs i ≡ Some x → slice_get (xs ++ ys) i ≡ Some x
get-front [] ys i x e = cc
get-front (z ∷ xs) ys zero x e = e
get-front (z ∷ xs) ys (suc i) x e = get-front xs ys i x e

pub get-last : {X : Type 0} (xs : List X) (y : X) → slice_get (xs ++ y ∷ []) (length xs) ≡ Some y
get-last [] y = refl
get-last (x ∷ xs) y = get-last xs y

pub get-drop : {X : Type 0} (b : ℕ) (xs : List X) (i : ℕ) (x : X) → slice_get (drop b xs) i ≡ Some x → slice_get xs (b + i) ≡ Some x
get-drop zero xs i x e = let s : i ≡ 0 + i = omega arith in ap (slice_get xs) (sym s) ∙ e
get-drop (suc b) [] i x e = cc
get-drop (suc b) (y ∷ xs) i x e = let s : suc b + i ≡ suc (b + i) = omega arith in ap (slice_get (y ∷ xs)) s ∙ get-drop b xs i x e

-- and the other way
pub drop-get : {X : Type 0} (b : ℕ) (xs : List X) (i : ℕ) (x : X) → slice_get xs (b + i) ≡ Some x → slice_get (drop b xs) i ≡ Some x
drop-get zero xs i x e = let s : i ≡ 0 + i = omega arith in ap (slice_get xs) s ∙ e
drop-get (suc b) [] i x e = cc
drop-get (suc b) (y ∷ xs) i x e = let s : suc b + i ≡ suc (b + i) = omega arith in drop-get b xs i x (ap (slice_get (y ∷ xs)) (sym s) ∙ e)
