-- Hosts give up, one after another.
use Rattle.std.proofs.Common.{◌≡◌, ◌<◌, ◌≤◌, ℕ, suc, ◌+◌, ◌-◌, false, map, refl, sym, ◌∙◌, ap, arith, if◌then◌else◌}
use Rattle.std.specs.List.{range_with_len}
use Rattle.world_defs.specs.declared.event.Event.TheVariants.{GiveUp}
use Rattle.world_defs.specs.declared.effect.Effect.{Effect}
use Rattle.world_defs.specs.declared.effect.Effect.TheVariants.{Idle, GaveUp}
use Rattle.world_defs.specs.Node.{has_staged, given_up}
use Rattle.world_defs.specs.World.{WorldState, host_count, addresses, node_at, with_node}
use Rattle.world_defs.specs.Step.{step, gave_up, after_all}
use Rattle.world_defs.specs.Asking.{all_given_up}
use Rattle.world_defs.specs.Row.{IsPartWay}
use Rattle.log_laws.proofs.PartWay.{way-first, way-next}
use Rattle.fab_world.specs.Held.{IsLater}

-- a host that has nothing staged gives nothing up
pub give_up-idle : (w : WorldState) (h : ℕ) → has_staged (node_at w h) ≡ false → w ≡ (step w (GiveUp h)).1
unfolding gave_up
give_up-idle w h none = ap (λ b. (if b then (let r : Effect × WorldState = (GaveUp, with_node w h (given_up (node_at w h))) in r) else (Idle, w)).1) (sym none)

-- those from an address on have yet to give up
pub record GivingUp (first now : WorldState) (host : ℕ) : Type 0 where
  pub rest : after_all now (map GiveUp (range_with_len host (host_count first - host))) ≡ all_given_up first
  pub way : (v : WorldState) → IsPartWay now (map GiveUp (range_with_len host (host_count first - host))) v → IsPartWay first (map GiveUp (addresses first)) v
  pub hosts : host_count now ≡ host_count first

pub giving-none : (w : WorldState) → GivingUp w w 0
giving-none w = record {
  rest = let e : host_count w - 0 ≡ host_count w = omega arith in ap (λ n. after_all w (map GiveUp (range_with_len 0 n))) e;
  way = λ v p. way-first GiveUp w v (host_count w) p;
  hosts = refl;
}

pub giving-on : (first now next : WorldState) (host : ℕ) → GivingUp first now host → host < host_count first → next ≡ (step now (GiveUp host)).1
    → host_count next ≡ host_count now → GivingUp first next (host + 1)
giving-on first now next host g low is hosts =
    let left : host_count first - host ≡ suc (host_count first - (host + 1)) = omega (arith, low) in
    record {
      rest =
          ap (λ w. after_all w (map GiveUp (range_with_len (host + 1) (host_count first - (host + 1))))) is
          ∙ ap (λ n. after_all now (map GiveUp (range_with_len host n))) (sym left) ∙ g.rest;
      way = λ v p. g.way v (way-next GiveUp now next v host (host_count first) host (omega arith) low (λ k a b. absurd (omega (arith, a, b))) is p);
      hosts = hosts ∙ g.hosts;
    }

pub giving-all : (first now : WorldState) (host : ℕ) → GivingUp first now host → host_count first ≤ host → now ≡ all_given_up first
giving-all first now host g past =
    let left : 0 ≡ host_count first - host = omega (arith, past) in
    ap (λ n. after_all now (map GiveUp (range_with_len host n))) left ∙ g.rest

pub given_up-later : (w v : WorldState) → v ≡ all_given_up w → IsLater w v
given_up-later w v is = (map GiveUp (addresses w), is)
