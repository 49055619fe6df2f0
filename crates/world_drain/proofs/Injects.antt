-- Injections of hosts under way: those so far, and those of the hosts from an address on, are all of them.
use Rattle.std.proofs.Common.{◌≡◌, ◌<◌, ◌≤◌, ℕ, suc, ◌+◌, ◌-◌, Bool, false, true≢false, ◌||◌, List, ◌∷◌, map, nat_lt, Option, Some, None, is_some, refl, sym, ◌∙◌, ap, arith}
use Rattle.std.specs.List.{range_with_len}
use Rattle.world_defs.specs.declared.event.Event.TheVariants.{Inject}
use Rattle.world_defs.specs.declared.effect.Effect.{Effect}
use Rattle.world_defs.specs.Node.{Outgoing, to_send}
use Rattle.world_defs.specs.World.{WorldState, host_count, addresses, node_at}
use Rattle.world_defs.specs.Step.{step, steps}
use Rattle.world_defs.specs.Drain.{changed, changes}
use Rattle.world_laws.specs.Idle.{CannotInject}
use Rattle.world_laws.proofs.Draining.{one_if, changes-push}
use Rattle.world_laws.proofs.Idling.{step-idle}
use Rattle.world_defs.specs.Row.{IsPartWay}
use Rattle.log_laws.proofs.PartWay.{way-first, way-next}
use Rattle.world_drain.proofs.Telling.{moved-sum, one-moved}

-- a host that has nothing to send injects nothing
pub inject-idle : (w : WorldState) (h : ℕ) → is_some (to_send h (node_at w h)) ≡ false → (false ≡ changed (step w (Inject h)).0) × (w ≡ (step w (Inject h)).1)
inject-idle w h none =
    let k = step-idle w (Inject h) in
    let idle = k.to (CannotInject.nothing_to_send (is_none (to_send h (node_at w h)) none)) in
    (sym (ap changed idle), sym (k.still idle))
  where
    is_none : (o : Option Outgoing) → is_some o ≡ false → o ≡ None
    is_none None e = refl
    is_none (Some x) e = absurd (true≢false e)

-- the injections of the hosts from an address on
abbrev pub injects_from : WorldState → (host count : ℕ) → List Effect × WorldState
injects_from w host count = steps w (map Inject (range_with_len host (count - host)))

abbrev pub all_injects : WorldState → List Effect × WorldState
all_injects w = steps w (map Inject (addresses w))

pub record Injecting (first now : WorldState) (host : ℕ) (moved : Bool) : Type 0 where
  pub moves : ℕ
  pub any : moved ≡ nat_lt 0 moves
  pub moves_left : moves + changes (injects_from now host (host_count first)).0 ≡ changes (all_injects first).0
  pub world_left : (injects_from now host (host_count first)).1 ≡ (all_injects first).1
  pub way : (v : WorldState) → IsPartWay now (map Inject (range_with_len host (host_count first - host))) v → IsPartWay first (map Inject (addresses first)) v
  pub hosts : host_count now ≡ host_count first

pub injecting-none : (w : WorldState) → Injecting w w 0 false
injecting-none w =
    let e : host_count w - 0 ≡ host_count w = omega arith in
    let whole : injects_from w 0 (host_count w) ≡ all_injects w = ap (λ n. steps w (map Inject (range_with_len 0 n))) e in
    let a : changes (injects_from w 0 (host_count w)).0 ≡ changes (all_injects w).0 = ap (λ r. changes r.0) whole in
    record {
      moves = 0;
      any = refl;
      moves_left = omega (arith, a);
      world_left = ap (λ r. r.1) whole;
      way = λ v p. way-first Inject w v (host_count w) p;
      hosts = refl;
    }

pub injecting-on : (first now next : WorldState) (host : ℕ) (moved one both : Bool) → Injecting first now host moved → host < host_count first
    → one ≡ changed (step now (Inject host)).0 → next ≡ (step now (Inject host)).1 → both ≡ (moved || one) → host_count next ≡ host_count now
    → Injecting first next (host + 1) both
injecting-on first now next host moved one both r low one_is is both_is hosts =
    let count = host_count first in
    let x : Effect = (step now (Inject host)).0 in
    let behind : WorldState = (step now (Inject host)).1 in
    let left : count - host ≡ suc (count - (host + 1)) = omega (arith, low) in
    let a : changes (injects_from now host count).0 ≡ changes (x ∷ (injects_from behind (host + 1) count).0) = ap (λ n. changes (steps now (map Inject (range_with_len host n))).0) left in
    let b = changes-push x (injects_from behind (host + 1) count).0 (changed x) refl in
    let c : changes (injects_from next (host + 1) count).0 ≡ changes (injects_from behind (host + 1) count).0 = ap (λ w. changes (injects_from w (host + 1) count).0) is in
    let before = r.moves_left in
    record {
      moves = r.moves + one_if (changed x);
      any = moved-sum r.moves (one_if (changed x)) moved one both r.any (one_is ∙ sym (one-moved (changed x))) both_is;
      moves_left = omega (arith, a, b, c, before);
      world_left =
          ap (λ w. (injects_from w (host + 1) count).1) is
          ∙ ap (λ n. (steps now (map Inject (range_with_len host n))).1) (sym left) ∙ r.world_left;
      way = λ v p. r.way v (way-next Inject now next v host count host (omega arith) low (λ k a b. absurd (omega (arith, a, b))) is p);
      hosts = hosts ∙ r.hosts;
    }

pub injecting-all : (first now : WorldState) (host : ℕ) (moved : Bool) → Injecting first now host moved → host_count first ≤ host
    → (moved ≡ nat_lt 0 (changes (all_injects first).0)) × (now ≡ (all_injects first).1)
injecting-all first now host moved r past =
    let left : host_count first - host ≡ 0 = omega (arith, past) in
    let end : injects_from now host (host_count first) ≡ steps now (map Inject (range_with_len host 0)) = ap (λ n. steps now (map Inject (range_with_len host n))) left in
    let a : changes (injects_from now host (host_count first)).0 ≡ 0 = ap (λ p. changes p.0) end in
    let before = r.moves_left in
    let all : r.moves ≡ changes (all_injects first).0 = omega (arith, a, before) in
    (r.any ∙ ap (nat_lt 0) all, sym (ap (λ p. p.1) end) ∙ r.world_left)
