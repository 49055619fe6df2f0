-- Writes to a list of slots, and hops in it.
use Rattle.std.proofs.Common.{◌≡◌, ◌≤◌, ◌+◌, ℕ, zero, suc, List, [], ◌∷◌, get_or, set, Option, None, refl, sym, ap, arith}
use Rattle.world_defs.specs.Links.{Held}
use Rattle.world_defs.specs.Hops.{hops_of, hops_in}

-- a write of what stands there
pub set-same : {X : Type 0} (xs : List X) (c : ℕ) (d : X) → get_or xs c d ≡ d → set xs c d ≡ xs
set-same [] c d e = refl
set-same (x ∷ xs) zero d e = ap (λ y. y ∷ xs) (sym e)
set-same (x ∷ xs) (suc c) d e = ap (λ l. x ∷ l) (set-same xs c d e)

-- what a write takes from the hops, and what it adds
pub hops-set : (ps : List (Option Held)) (c : ℕ) (p : Option Held) → hops_in (set ps c p) + hops_of (get_or ps c None) ≤ hops_in ps + hops_of p
hops-set [] c p = omega arith
hops-set (q ∷ ps) zero p = omega arith
hops-set (q ∷ ps) (suc c) p = let h = hops-set ps c p in omega arith
