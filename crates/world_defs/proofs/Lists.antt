-- Lists of which one element is replaced, and lists of one element.
use Rattle.std.proofs.Common.{ℕ, zero, suc, List, [], ◌∷◌, get_or, set, replicate}

-- what holds of each element still does
pub each-set : {X : Type 0} (P : ℕ → X → Type 0) (xs : List X) (i j : ℕ) (y d : X) → P i y → ((k : ℕ) → P k (get_or xs k d)) → P j (get_or (set xs i y) j d)
each-set P [] i j y d here all = all j
each-set P (x ∷ xs) zero zero y d here all = here
each-set P (x ∷ xs) zero (suc j) y d here all = all (suc j)
each-set P (x ∷ xs) (suc i) zero y d here all = all zero
each-set P (x ∷ xs) (suc i) (suc j) y d here all = each-set (λ k. P (suc k)) xs i j y d here (λ k. all (suc k))

pub each-replicate : {X : Type 0} (P : X → Type 0) (k j : ℕ) (x d : X) → P x → P d → P (get_or (replicate k x) j d)
each-replicate P zero j x d p q = q
each-replicate P (suc k) zero x d p q = p
each-replicate P (suc k) (suc j) x d p q = each-replicate P k j x d p q
