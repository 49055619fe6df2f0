-- A packet has no more hops left than it has bytes, and empty channels have none.
use Rattle.std.proofs.Common.{◌≡◌, ◌<◌, ◌≤◌, ◌+◌, ℕ, zero, suc, List, [], ◌∷◌, length, Option, Some, None, refl, ◌∙◌, ap, subst, arith}
use Rattle.std.specs.Prelude.{slice_index_or, take, option_map}
use Rattle.std.specs.Option.{unwrap_or}
use Rattle.world_defs.specs.Links.{Held}
use Rattle.world_defs.specs.Hops.{hops_left, hops_of, hops_in}
use Rattle.link_model.proofs.Runs.{hops-few}

-- the hops of the first so many channels
abbrev pub hops_below : List (Option Held) → ℕ → ℕ
hops_below ps n = hops_in (take n ps)

below-suc : (ps : List (Option Held)) (n : ℕ) → hops_below ps (suc n) ≡ hops_below ps n + hops_of (slice_index_or ps n None)
below-suc [] zero = refl
below-suc [] (suc n) = refl
below-suc (p ∷ ps) zero = omega arith
below-suc (p ∷ ps) (suc n) = let h = below-suc ps n in omega (arith, h)

-- one channel more
pub below-next : (ps : List (Option Held)) (n : ℕ) → hops_below ps (n + 1) ≡ hops_below ps n + hops_of (slice_index_or ps n None)
below-next ps n = let e : n + 1 ≡ suc n = omega arith in ap (hops_below ps) e ∙ below-suc ps n

-- empty channels add nothing
pub below-empty : (ps : List (Option Held)) (gap from to : ℕ) → to ≡ from + gap → ((k : ℕ) → from ≤ k → k < to → slice_index_or ps k None ≡ None) → hops_below ps to ≡ hops_below ps from
below-empty ps zero from to e none = ap (hops_below ps) (omega (arith, e))
below-empty ps (suc gap) from to e none =
    let first : hops_below ps (from + 1) ≡ hops_below ps from + hops_of (slice_index_or ps from None) = below-next ps from in
    let here : hops_of (slice_index_or ps from None) ≡ 0 = ap hops_of (none from (omega arith) (omega (arith, e))) in
    let rest = below-empty ps gap (from + 1) to (omega (arith, e)) (λ k low high. none k (omega (arith, low)) high) in
    omega (arith, first, here, rest)

-- all channels
pub below-all : (ps : List (Option Held)) → hops_below ps (length ps) ≡ hops_in ps
below-all [] = refl
below-all (p ∷ ps) = let h = below-all ps in omega (arith, h)

-- a channel has no more hops left than its packet has bytes
pub hops-of : (o : Option Held) (wire : List ℕ) → 0 < length wire → Some wire ≡ option_map (λ held. held.wire) o → hops_of o ≤ length wire
hops-of None wire some e = cc
hops-of (Some held) wire some e =
    let is : wire ≡ held.wire = ap (λ o. unwrap_or o wire) e in
    subst (λ l. hops_left l ≤ length wire) is (hops-few wire some)
