-- The events of a settle keep what is known of a connection.
use Rattle.std.proofs.Common.{◌≡◌, ◌≤◌, ℕ, refl, ap, ◌∙◌, subst, arith}
use Rattle.net_defs.specs.Network.{Network}
use Rattle.gm_defs.specs.Fragment.{Fragment as FragmentOf}
use Rattle.gm_defs.specs.declared.frame.ConnectionKey.{ConnectionKey}
use Rattle.world_defs.specs.declared.event.Event.{Event}
use Rattle.world_defs.specs.declared.event.Event.TheVariants.{Inject, Advance, Replay, Reset, Expire, GiveUp}
use Rattle.world_defs.specs.EightBits.{IsByteEvent}
use Rattle.world_defs.specs.Node.{sending_lane}
use Rattle.world_defs.specs.World.{WorldState, node_at}
use Rattle.world_defs.specs.Traffic.{sent_on}
use Rattle.world_defs.specs.Step.{step}
use Rattle.world_laws.specs.Reached.{IsOfSettle}
use Rattle.world_laws.proofs.Leaves.{IsNoCall, quiet-leaves}
use Rattle.world_laws.proofs.Rounds.{Going, follows-going}
use Rattle.world_laws.proofs.Along.{Along}
use Rattle.world_defs.specs.Acts.{Happens, IsReached}
use Rattle.world_defs.proofs.Reaching.{reached-next}
use Rattle.settle_laws.proofs.Sents.{acted-says, sent-place}
use Rattle.settle_laws.proofs.Facts.{Facts}
use Rattle.world_defs.specs.declared.effect.Effect.{Effect}
use Rattle.world_defs.proofs.Kept.{step-cables, step-adopted}
use Rattle.settle_laws.proofs.Views.{InjectOf, inject-is, unstruck-links}

settle-byte : (e : Event) → IsOfSettle e → IsByteEvent e × IsNoCall e
settle-byte (Advance c) q = (tt, tt)
settle-byte (Reset c) q = (tt, tt)
settle-byte (Inject h) q = (tt, tt)
settle-byte (Replay serial) q = (tt, tt)
settle-byte (Expire h peer) q = (tt, tt)
settle-byte (GiveUp h) q = (tt, tt)
settle-byte _ q = absurd q

pub event-going : (w : WorldState) (e : Event) → IsOfSettle e → Going w (step w e).1
event-going w e q = quiet-leaves Going follows-going w e (settle-byte e q).1

pub along-going : Along Going IsOfSettle
along-going = record { same = follows-going.same; both = follows-going.both; event = event-going }

-- where no planned fault strikes, they leave the cables, and they leave the adopted set
pub record Unstruck (w v : WorldState) : Type 0 where
  pub rises : w.struck ≤ v.struck
  pub cables : v.struck ≤ w.struck → v.links.cables ≡ w.links.cables
  pub adopted : v.adopted ≡ w.adopted

inject-cables : (w : WorldState) (h : ℕ) (r : Effect × WorldState) → InjectOf w h r → r.1.struck ≤ w.struck → r.1.links.cables ≡ w.links.cables
inject-cables w h r (InjectOf.idle e s) few = ap (λ v. v.links.cables) s
inject-cables w h r (InjectOf.sends c out chan e none allowed x s) few =
    ap (λ v. v.links.cables) s ∙ ap (λ l. l.cables) (unstruck-links w h c out none (subst (λ v. v.struck ≤ w.struck) s few))

event-cables : (w : WorldState) (e : Event) → IsOfSettle e → (step w e).1.struck ≤ w.struck → (step w e).1.links.cables ≡ w.links.cables
event-cables w (Inject h) q few = inject-cables w h (step w (Inject h)) (inject-is w h) few
event-cables w (Advance c) q few = step-cables w (Advance c) refl
event-cables w (Reset c) q few = step-cables w (Reset c) refl
event-cables w (Replay serial) q few = step-cables w (Replay serial) refl
event-cables w (Expire h peer) q few = step-cables w (Expire h peer) refl
event-cables w (GiveUp h) q few = step-cables w (GiveUp h) refl
event-cables w _ q few = absurd q

unstruck-both : (u v w : WorldState) → Unstruck u v → Unstruck v w → Unstruck u w
unstruck-both u v w a b =
    let i = a.rises in
    let j = b.rises in
    record { rises = omega (arith, i, j); cables = λ few. b.cables (omega (arith, few, i)) ∙ a.cables (omega (arith, few, j)); adopted = b.adopted ∙ a.adopted }

pub event-unstruck : (w : WorldState) (e : Event) → IsOfSettle e → Unstruck w (step w e).1
event-unstruck w e q = record { rises = (event-going w e q).rises; cables = event-cables w e q; adopted = step-adopted w e }

pub along-unstruck : Along Unstruck IsOfSettle
along-unstruck = record { same = λ w. record { rises = omega arith; cables = λ few. refl; adopted = refl }; both = unstruck-both; event = event-unstruck }

pub along-reached : (n : Network) → Along (λ w v. IsReached n w → IsReached n v) IsOfSettle
along-reached n = record { same = λ w r. r; both = λ u v w f g r. g (f r); event = λ w e q r. reached-next n w (Happens e) r (settle-byte e q).0 }

event-facts : (n : Network) (key : ConnectionKey) (k : ℕ) (fragment : FragmentOf) (w : WorldState) (e : Event) → IsOfSettle e → Facts n key k fragment w → Facts n key k fragment (step w e).1
event-facts n key k fragment w e q f =
    let g : Going w (step w e).1 = event-going w e q in
    let count = g.nodes.count in
    let h = f.host in
    let p = f.peer in
    let low = f.low in
    let up = ((g.nodes.each key.src).senders (sending_lane key)).base in
    record {
      reached = reached-next n w (Happens e) f.reached (settle-byte e q).0;
      host = omega (arith, h, count);
      peer = omega (arith, p, count);
      low = omega (arith, low, up);
      there = sent-place (node_at w key.src) (sending_lane key) k (sent_on w key) (sent_on (step w e).1 key) fragment ((acted-says n w (Happens e) f.reached key.src).sent (sending_lane key)) f.there;
    }

pub along-facts : (n : Network) (key : ConnectionKey) (k : ℕ) (fragment : FragmentOf) → Along (λ w v. Facts n key k fragment w → Facts n key k fragment v) IsOfSettle
along-facts n key k fragment = record { same = λ w f. f; both = λ u v w f g x. g (f x); event = event-facts n key k fragment }
