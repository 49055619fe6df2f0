-- Hosts give up the epoch of the adopted routes, one after another.
use Rattle.std.proofs.Common.{◌≡◌, ◌<◌, ◌≤◌, ℕ, suc, ◌+◌, ◌-◌, Bool, true, false, List, ◌∷◌, map, length, refl, sym, ◌∙◌, ap, arith, if◌then◌else◌}
use Rattle.std.specs.List.{range_with_len, filter}
use Rattle.world_defs.specs.declared.event.Event.{Event}
use Rattle.world_defs.specs.declared.event.Event.TheVariants.{Revoke}
use Rattle.world_defs.specs.declared.effect.Effect.{Effect}
use Rattle.world_defs.specs.World.{WorldState, host_count}
use Rattle.world_defs.specs.Step.{step, steps, followed_by}
use Rattle.world_defs.proofs.Kept.{step-cables, step-adopted}
use Rattle.fab_remap.specs.Remap.{effect_of, is_done, revocations, revoked_count}

-- so many hosts from an address on
abbrev pub those : ℕ → ℕ → List Event
those host n = map Revoke (range_with_len host n)

-- how many of them give up
abbrev pub given_in : WorldState → List Event → ℕ
given_in w es = length (filter is_done (steps w es).0)

-- The hosts from an address on have yet to give up, and so many of the others did.
pub record Giving (first now : WorldState) (host revoked : ℕ) : Type 0 where
  pub world : (steps now (those host (host_count first - host))).1 ≡ (steps first (revocations first)).1
  pub count : revoked + given_in now (those host (host_count first - host)) ≡ revoked_count first
  pub few : revoked ≤ host
  pub hosts : host_count now ≡ host_count first
  pub cables : now.links.cables ≡ first.links.cables
  pub adopted : now.adopted ≡ first.adopted

plus-zero : (k : ℕ) → 0 + k ≡ k
plus-zero k = omega arith

pub giving-none : (w : WorldState) → Giving w w 0 0
giving-none w =
    let e : host_count w - 0 ≡ host_count w = omega arith in
    record {
      world = ap (λ n. (steps w (those 0 n)).1) e;
      count = plus-zero (given_in w (those 0 (host_count w - 0))) ∙ ap (λ n. given_in w (those 0 n)) e;
      few = omega arith;
      hosts = refl;
      cables = refl;
      adopted = refl;
    }

-- one more, which could give up or not
abbrev pub more : ℕ → Bool → ℕ
more k b = if b then k + 1 else k

one-done : (b : Bool) (k : ℕ) (xs : List Effect) → more k b + length (filter is_done xs) ≡ k + length (filter is_done (effect_of b ∷ xs))
one-done true k xs = omega arith
one-done false k xs = refl

pub giving-on : (first now next : WorldState) (host revoked : ℕ) (b : Bool) → Giving first now host revoked → host < host_count first → step now (Revoke host) ≡ (effect_of b, next)
    → host_count next ≡ host_count now → Giving first next (host + 1) (more revoked b)
giving-on first now next host revoked b g low is hosts =
    let left : host_count first - host ≡ suc (host_count first - (host + 1)) = omega (arith, low) in
    let rest : List Event = those (host + 1) (host_count first - (host + 1)) in
    let all : steps now (those host (host_count first - host)) ≡ (effect_of b ∷ (steps next rest).0, (steps next rest).1) =
    ap (λ n. steps now (those host n)) left ∙ ap (λ (p : Effect × WorldState). followed_by p (λ v. steps v rest)) is in
    let after : next ≡ (step now (Revoke host)).1 = ap (λ (p : Effect × WorldState). p.1) (sym is) in
    record {
      world = ap (λ (p : List Effect × WorldState). p.1) (sym all) ∙ g.world;
      count = one-done b revoked (steps next rest).0 ∙ ap (λ (p : List Effect × WorldState). revoked + length (filter is_done p.0)) (sym all) ∙ g.count;
      few = few b;
      hosts = hosts ∙ g.hosts;
      cables = ap (λ (v : WorldState). v.links.cables) after ∙ step-cables now (Revoke host) refl ∙ g.cables;
      adopted = ap (λ (v : WorldState). v.adopted) after ∙ step-adopted now (Revoke host) ∙ g.adopted;
    }
  where
    few : (b : Bool) → more revoked b ≤ host + 1
    few true = let f = g.few in omega (arith, f)
    few false = let f = g.few in omega (arith, f)

-- all have
pub record Given (first now : WorldState) (revoked : ℕ) : Type 0 where
  pub world : now ≡ (steps first (revocations first)).1
  pub count : revoked ≡ revoked_count first

pub giving-all : (first now : WorldState) (host revoked : ℕ) → Giving first now host revoked → host_count first ≤ host → Given first now revoked
giving-all first now host revoked g past =
    let left : 0 ≡ host_count first - host = omega (arith, past) in
    let zero_more : revoked + 0 ≡ revoked = omega arith in
    record {
      world = ap (λ n. (steps now (those host n)).1) left ∙ g.world;
      count = sym zero_more ∙ ap (λ n. revoked + given_in now (those host n)) left ∙ g.count;
    }
