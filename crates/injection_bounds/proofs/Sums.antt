-- Sums over lists in which one element changes.
use Rattle.std.proofs.Common.{◌≡◌, ◌≤◌, ◌+◌, ℕ, zero, suc, Bool, true, false, List, [], ◌∷◌, ◌++◌, map, replicate, get_or, set, Some, refl, arith, if◌then◌else◌}
use Rattle.std.specs.List.{filter}
use Rattle.std.specs.Map.{lookup, remove_entry}
use Rattle.world_defs.specs.World.{sum_of}

-- a write takes one value, and adds another
pub set-sum : {X : Type 0} (f : X → ℕ) (xs : List X) (i : ℕ) (y d : X) → f d ≡ 0 → sum_of (map f (set xs i y)) + f (get_or xs i d) ≤ sum_of (map f xs) + f y
set-sum f [] i y d e = omega (arith, e)
set-sum f (x ∷ xs) zero y d e = omega arith
set-sum f (x ∷ xs) (suc i) y d e = let h = set-sum f xs i y d e in omega (arith, h)

-- one element more
pub push-sum : {X : Type 0} (f : X → ℕ) (xs : List X) (y : X) → sum_of (map f (xs ++ y ∷ [])) ≡ sum_of (map f xs) + f y
push-sum f [] y = omega arith
push-sum f (x ∷ xs) y = let h = push-sum f xs y in omega (arith, h)

-- what is found is taken out
pub removed-sum : {X : Type 0} (f : X → ℕ) (test : ℕ → Bool) (es : List (ℕ × X)) (x : X) → lookup test es ≡ Some x → sum_of (map (λ e. f e.1) (remove_entry test es)) + f x ≡ sum_of (map (λ e. f e.1) es)
removed-sum f test [] x e = cc
removed-sum f test (d ∷ es) x e = by (test d.0) (removed-sum f test es x) e
  where
    same : (y : _) → Some y ≡ Some x → f y ≡ f x
    same y g = cc

    by : (b : Bool) → (lookup test es ≡ Some x → sum_of (map (λ e. f e.1) (remove_entry test es)) + f x ≡ sum_of (map (λ e. f e.1) es)) → (if b then Some d.1 else lookup test es) ≡ Some x
        → sum_of (map (λ e. f e.1) (if b then es else d ∷ remove_entry test es)) + f x ≡ sum_of (map (λ e. f e.1) (d ∷ es))
    by true rest g = let h = same d.1 g in omega (arith, h)
    by false rest g = let h = rest g in omega (arith, h)

-- what is left out takes its value along
pub filtered-sum : {X : Type 0} (f : X → ℕ) (test : X → Bool) (xs : List X) → sum_of (map f (filter test xs)) ≤ sum_of (map f xs)
filtered-sum f test [] = omega arith
filtered-sum f test (x ∷ xs) = by (test x) (filtered-sum f test xs)
  where
    by : (b : Bool) → sum_of (map f (filter test xs)) ≤ sum_of (map f xs) → sum_of (map f (if b then x ∷ filter test xs else filter test xs)) ≤ sum_of (map f (x ∷ xs))
    by true rest = omega (arith, rest)
    by false rest = omega (arith, rest)

-- the same value again and again
pub none-sum : {X : Type 0} (f : X → ℕ) (k : ℕ) (x : X) → f x ≡ 0 → sum_of (map f (replicate k x)) ≡ 0
none-sum f zero x e = refl
none-sum f (suc k) x e = let h = none-sum f k x e in omega (arith, h, e)

-- a write of nothing raises no element
pub set-fewer : {X : Type 0} (f : X → ℕ) (xs : List X) (i j : ℕ) (y d : X) → f y ≡ 0 → f (get_or (set xs i y) j d) ≤ f (get_or xs j d)
set-fewer f [] i j y d e = omega arith
set-fewer f (x ∷ xs) zero zero y d e = omega (arith, e)
set-fewer f (x ∷ xs) zero (suc j) y d e = omega arith
set-fewer f (x ∷ xs) (suc i) zero y d e = omega arith
set-fewer f (x ∷ xs) (suc i) (suc j) y d e = set-fewer f xs i j y d e
