-- What each event does to the counts.
use Rattle.std.proofs.Common.{◌≡◌, ◌≤◌, ◌+◌, ℕ, Bool, true, false, length, refl, sym, ◌∙◌, ap, arith, true≢false}
use Rattle.world_defs.specs.Links.{LinkState}
use Rattle.world_defs.specs.LinkStep.{Step, Advance as AdvanceLinks, stepped}
use Rattle.world_defs.specs.declared.event.Event.{Event}
use Rattle.world_defs.specs.declared.event.Event.TheVariants.{Inject, Advance, Replay, Reset, Expire, GiveUp}
use Rattle.world_defs.specs.declared.effect.Cause.{Cause}
use Rattle.world_defs.specs.declared.effect.Cause.TheVariants.{NotMine}
use Rattle.world_defs.specs.declared.effect.Effect.{Effect}
use Rattle.world_defs.specs.declared.effect.Effect.TheVariants.{Idle, Injected, Expired, GaveUp, Lost, Reset as WasReset, Flipped, Repeated, Held as WasHeld}
use Rattle.world_defs.specs.declared.arrival.Arrival.{Arrival}
use Rattle.world_defs.specs.Node.{NodeState, Outgoing}
use Rattle.world_defs.specs.Hearing.{hear}
use Rattle.world_defs.specs.World.{WorldState, host_count, node_at, with_node, with_links, with_drop, counted}
use Rattle.world_defs.specs.Step.{planned_strikes, sent_out, cause_at_switch, cause_at_host, of_call, step}
use Rattle.world_defs.proofs.Views.{LinksChange, HostChange, ArrivalChange, Change, view}
use Rattle.world_defs.specs.Settle.{unacknowledged_in}
use Rattle.world_laws.specs.Reached.{IsOfSettle}
use Rattle.world_laws.specs.Counts.{injections, drops_after, IsStruck}
use Rattle.world_laws.proofs.Strikes.{planned_strikes-kept}
use Rattle.world_laws.proofs.Leaves.{IsNoCall, quiet-leaves}
use Rattle.world_laws.proofs.Rounds.{Going, follows-going, fragments-fewer}

-- what comes of an event, and the counts
pub record Counts (w : WorldState) (r : Effect × WorldState) : Type 0 where
  pub numbered : (number : ℕ) → r.0 ≡ Injected number → number ≡ w.injected + 1
  pub injected : r.1.injected ≡ w.injected + injections r.0
  pub dropped : r.1.dropped ≡ drops_after w.dropped r.0
  pub struck : IsStruck w r.1 (injections r.0)

same_struck : (w v : WorldState) (most : ℕ) → v.struck ≡ w.struck → v.harmed ≡ w.harmed → v.plan ≡ w.plan → IsStruck w v most
same_struck w v most s h p =
    let l : length v.plan ≡ length w.plan = ap length p in
    record { rises = omega (arith, s); at_most = omega (arith, s); harms_rise = omega (arith, h); harms_struck = omega (arith, s, h); planned = omega (arith, s, l) }

-- an effect that is neither an injection nor a drop
abbrev is_plain : Effect → Bool
is_plain (Injected number) = false
is_plain (Effect.Dropped cause) = false
is_plain _ = true

plain_effect : (x : Effect) (before : ℕ) → is_plain x ≡ true → (injections x ≡ 0) × (drops_after before x ≡ before) × ((number : ℕ) → x ≡ Injected number → ⊥)
plain_effect (Injected number) before e = absurd (true≢false (sym e))
plain_effect (Effect.Dropped cause) before e = absurd (true≢false (sym e))
plain_effect Idle before e = (refl, refl, (λ number f. cc))
plain_effect (Effect.Moved n) before e = (refl, refl, (λ number f. cc))
plain_effect (Effect.Blocked n) before e = (refl, refl, (λ number f. cc))
plain_effect (Effect.Arrived h x) before e = (refl, refl, (λ number f. cc))
plain_effect Lost before e = (refl, refl, (λ number f. cc))
plain_effect WasReset before e = (refl, refl, (λ number f. cc))
plain_effect Flipped before e = (refl, refl, (λ number f. cc))
plain_effect Expired before e = (refl, refl, (λ number f. cc))
plain_effect GaveUp before e = (refl, refl, (λ number f. cc))
plain_effect (Repeated n) before e = (refl, refl, (λ number f. cc))
plain_effect (WasHeld n) before e = (refl, refl, (λ number f. cc))
plain_effect (Effect.Replayed n) before e = (refl, refl, (λ number f. cc))
plain_effect Effect.Staged before e = (refl, refl, (λ number f. cc))
plain_effect (Effect.Said s) before e = (refl, refl, (λ number f. cc))

-- and leaves the counts
plain : (w : WorldState) (r : Effect × WorldState) → is_plain r.0 ≡ true → r.1.injected ≡ w.injected → r.1.dropped ≡ w.dropped → r.1.struck ≡ w.struck → r.1.harmed ≡ w.harmed → r.1.plan ≡ w.plan → Counts w r
plain w r e i d s h p =
    let k = plain_effect r.0 w.dropped e in
    let none = k.0 in
    record {
      numbered = λ number f. absurd (k.2 number f);
      injected = omega (arith, i, none);
      dropped = d ∙ sym k.1;
      struck = same_struck w r.1 (injections r.0) s h p;
    }

-- a drop
no_injection : (x : Cause) (number : ℕ) → Effect.Dropped x ≡ Injected number → ⊥
no_injection x number e = cc

dropped-counts : (w v : WorldState) (x : Cause) → v.injected ≡ w.injected → v.dropped ≡ counted w.dropped → v.struck ≡ w.struck → v.harmed ≡ w.harmed → v.plan ≡ w.plan → Counts w (Effect.Dropped x, v)
dropped-counts w v x i d s h p = record {
  numbered = λ number f. absurd (no_injection x number f);
  injected = omega (arith, i);
  dropped = d;
  struck = same_struck w v 0 s h p;
}

arrival-counts : (w : WorldState) {h : ℕ} {a : Arrival} {x : Effect} {count : ℕ} → ArrivalChange w h a x count → (l : LinkState) (m : NodeState) → Counts w (x, record (with_node (with_links w l) h m) { dropped = count })
arrival-counts w {h = h} (ArrivalChange.heard {x = x}) l m = plain w (Effect.Arrived h x, record (with_node (with_links w l) h m) { dropped = w.dropped }) refl refl refl refl refl refl
arrival-counts w {h = h} (ArrivalChange.dropped {x = x}) l m = dropped-counts w (record (with_node (with_links w l) h m) { dropped = counted w.dropped }) (cause_at_host x) refl refl refl refl refl
arrival-counts w {h = h} ArrivalChange.not_mine l m = dropped-counts w (record (with_node (with_links w l) h m) { dropped = counted w.dropped }) NotMine refl refl refl refl refl

-- the links or a host changed
links-plain : {w : WorldState} {e : Event} {x : Effect} {s : Step} → LinksChange w e x s → is_plain x ≡ true
links-plain (LinksChange.moves packet next d e f g) = refl
links-plain (LinksChange.loses k) = refl
links-plain (LinksChange.resets k) = refl
links-plain (LinksChange.repeats k) = refl
links-plain (LinksChange.holds k) = refl
links-plain (LinksChange.flips k) = refl
links-plain (LinksChange.replays k) = refl
links-plain (LinksChange.pulls k) = refl
links-plain (LinksChange.plugs k) = refl

host-plain : {w : WorldState} {e : Event} {x : Effect} {h : ℕ} {m : NodeState} → HostChange w e x h m → is_plain x ≡ true
host-plain HostChange.asks = refl
host-plain (HostChange.stages a p by d e f) = refl
host-plain (HostChange.expires k) = refl
host-plain (HostChange.gives_up k) = refl
host-plain (HostChange.revokes a d) = refl

-- an injection
sent_out-same : (w : WorldState) (h c : ℕ) (out : Outgoing) → ((sent_out w h c out).injected ≡ w.injected + 1) × ((sent_out w h c out).dropped ≡ w.dropped) × ((sent_out w h c out).struck ≡ w.struck) × ((sent_out w h c out).harmed ≡ w.harmed) × ((sent_out w h c out).plan ≡ w.plan)
unfolding sent_out
sent_out-same w h c out = (refl, refl, refl, refl, refl)

one_number : (n number : ℕ) → Injected n ≡ Injected number → number ≡ n
one_number n number e = cc

injection-counts : (w : WorldState) (h c : ℕ) (out : Outgoing) → Counts w (Injected (w.injected + 1), planned_strikes (sent_out w h c out) c)
injection-counts w h c out =
    let u : WorldState = sent_out w h c out in
    let v : WorldState = planned_strikes u c in
    let s = sent_out-same w h c out in
    let t = planned_strikes-kept u c in
    let a = s.2 in
    let b = s.3 in
    let d : length u.plan ≡ length w.plan = ap length s.4 in
    let rises = t.rises in
    let once = t.once in
    let harms = t.harms in
    let rise = t.harms_rise in
    let planned = t.planned in
    record {
      numbered = λ number e. one_number (w.injected + 1) number e;
      injected = t.injected ∙ s.0;
      dropped = t.dropped ∙ s.1;
      struck = record { rises = omega (arith, a, rises); at_most = omega (arith, a, once); harms_rise = omega (arith, b, rise); harms_struck = omega (arith, a, b, harms); planned = omega (arith, a, d, planned) };
    }

change-counts : {w : WorldState} {e : Event} {r : Effect × WorldState} → Change w e r → Counts w r
change-counts {w = w} Change.idle = plain w (Idle, w) refl refl refl refl refl refl
change-counts {w = w} (Change.blocked packet next d e) = plain w (Effect.Blocked next, w) refl refl refl refl refl refl
change-counts {w = w} (Change.links {x = x} {s = s} k) = plain w (x, with_links w (stepped w.links s)) (links-plain k) refl refl refl refl refl
change-counts {w = w} (Change.drops {c = c} packet why d e f) = dropped-counts w (with_drop (with_links w (stepped w.links (AdvanceLinks c)))) (cause_at_switch why) refl refl refl refl refl
change-counts {w = w} (Change.arrives {c = c} packet h d e f k) = arrival-counts w k (stepped w.links (AdvanceLinks c)) (hear h (host_count w) (node_at w h) packet.wire).1
change-counts {w = w} (Change.host {x = x} {h = h} {m = m} k) = plain w (x, with_node w h m) (host-plain k) refl refl refl refl refl
change-counts {w = w} (Change.injects {h = h} c out d e f g o) = injection-counts w h c out
change-counts {w = w} (Change.calls {h = h} {port = port} {call = call} k) = plain w (of_call w h port call) refl refl refl refl refl refl

pub step-counts : (w : WorldState) (e : Event) → Counts w (step w e)
step-counts w e = change-counts (view w e)

-- an event of a settle
settle-no_call : (e : Event) → IsOfSettle e → IsNoCall e
settle-no_call (Advance c) q = tt
settle-no_call (Reset c) q = tt
settle-no_call (Inject h) q = tt
settle-no_call (Replay serial) q = tt
settle-no_call (Expire h peer) q = tt
settle-no_call (GiveUp h) q = tt
settle-no_call _ q = absurd q

pub settle_event-raises : (w : WorldState) (e : Event) → IsOfSettle e → (unacknowledged_in (step w e).1 ≤ unacknowledged_in w) × (length (step w e).1.plan ≤ length w.plan)
settle_event-raises w e q =
    let k : Going w (step w e).1 = quiet-leaves Going follows-going w e (settle-no_call e q) in
    let a = k.rises in
    let b = k.planned in
    (fragments-fewer w (step w e).1 k, omega (arith, a, b))
