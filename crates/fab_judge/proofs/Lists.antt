-- Lists that grow at their end, and counts that fall.
use Rattle.std.proofs.Common.{◌≡◌, ◌<◌, ◌≤◌, ◌+◌, ◌-◌, ℕ, zero, suc, List, [], ◌∷◌, ◌++◌, length, Option, Some, Result, Ok, refl, ap, sym, ◌∙◌, length-append, arith, get_or, drop, add-one, drop-cons}
use Rattle.std.specs.Prelude.{slice_get}

-- one answer has one value
pub ok-same : {X E : Type 0} (r : Result X E) (x y : X) → r ≡ Ok x → r ≡ Ok y → x ≡ y
ok-same r x y e f = cc

-- the last element
abbrev pub last_of : {X : Type 0} → List X → Option X
last_of xs = slice_get xs (length xs - 1)

at-end : {X : Type 0} (xs : List X) (x : X) → slice_get (xs ++ x ∷ []) (length xs) ≡ Some x
at-end [] x = refl
at-end (y ∷ ys) x = at-end ys x

one-less : (n m : ℕ) → n ≡ m + 1 → n - 1 ≡ m
one-less n m e = omega arith

-- the last of a list with one more
pub last_of-more : {X : Type 0} (xs : List X) (x : X) → last_of (xs ++ x ∷ []) ≡ Some x
last_of-more xs x =
    ap (slice_get (xs ++ x ∷ [])) (one-less (length (xs ++ x ∷ [])) (length xs) (length-append xs (x ∷ []))) ∙ at-end xs x

-- a count, one less
pub counted-down : (n i : ℕ) → i < n → n - i ≡ suc (n - (i + 1))
counted-down n i h = omega arith

-- the elements from a place on
pub at-drop : {X : Type 0} (xs : List X) (i : ℕ) (d : X) → i < length xs → drop i xs ≡ get_or xs i d ∷ drop (i + 1) xs
at-drop xs i d h = drop-cons xs i d h ∙ ap (λ k. get_or xs i d ∷ drop k xs) (sym (add-one i))

pub past-drop : {X : Type 0} (xs : List X) (i : ℕ) → length xs ≤ i → drop i xs ≡ []
past-drop [] zero h = refl
past-drop [] (suc i) h = refl
past-drop (x ∷ xs) zero h = absurd (omega arith)
past-drop (x ∷ xs) (suc i) h = past-drop xs i (omega arith)
