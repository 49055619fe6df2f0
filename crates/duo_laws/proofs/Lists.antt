-- Lists by their places.
use Rattle.std.proofs.Common.{◌≡◌, ℕ, zero, suc, List, [], ◌∷◌, ◌++◌, length, Some, ap, subst}
use Rattle.std.specs.Prelude.{slice_get}
use Rattle.std.specs.List.{AllByRecursion}
use Rattle.std.proofs.lemmas.Option.{same_Some, none-some}

-- what holds of each element holds of one
pub all-at : {X : Type 0} (P : X → Type 0) (xs : List X) (k : ℕ) (x : X) → AllByRecursion P xs → slice_get xs k ≡ Some x → P x
all-at P [] k x all e = absurd (none-some x e)
all-at P (y ∷ xs) zero x all e = subst P (same_Some y x e) all.0
all-at P (y ∷ xs) (suc k) x all e = all-at P xs k x all.1 e

-- what holds of each element of two lists holds of each of both
pub all-both : {X : Type 0} (P : X → Type 0) (xs ys : List X) → AllByRecursion P xs → AllByRecursion P ys → AllByRecursion P (xs ++ ys)
all-both P [] ys a b = b
all-both P (x ∷ xs) ys a b = (a.0, all-both P xs ys a.1 b)

-- an element of a list stands in a longer one
pub get-append : {X : Type 0} (xs ys : List X) (k : ℕ) (x : X) → slice_get xs k ≡ Some x → slice_get (xs ++ ys) k ≡ Some x
get-append [] ys k x e = absurd (none-some x e)
get-append (y ∷ xs) ys zero x e = e
get-append (y ∷ xs) ys (suc k) x e = get-append xs ys k x e

-- the element after a front is the first of the rest
pub get-behind : {X : Type 0} (xs ys : List X) (x : X) → slice_get (xs ++ ys) (length xs) ≡ Some x → (rest : List X) × (ys ≡ x ∷ rest)
get-behind [] [] x e = absurd (none-some x e)
get-behind [] (y ∷ ys) x e = (ys, ap (λ z. z ∷ ys) (same_Some y x e))
get-behind (z ∷ xs) ys x e = get-behind xs ys x e
