-- No event but a client's call is refused.
use Rattle.std.proofs.Common.{◌≡◌, ℕ, false, refl}
use Rattle.world_defs.specs.LinkStep.{Step}
use Rattle.world_defs.specs.declared.event.Event.{Event}
use Rattle.world_defs.specs.declared.effect.Effect.{Effect}
use Rattle.world_defs.specs.declared.effect.Effect.TheVariants.{Said}
use Rattle.world_defs.specs.declared.arrival.Arrival.{Arrival}
use Rattle.world_defs.specs.Node.{NodeState}
use Rattle.world_defs.specs.Client.{Called}
use Rattle.world_defs.specs.World.{WorldState}
use Rattle.world_defs.specs.Step.{step}
use Rattle.world_defs.proofs.Views.{LinksChange, HostChange, CallChange, ArrivalChange, Change, view}
use Rattle.client_host.specs.Calls.{IsClientCall}
use Rattle.fab_world.specs.Held.{is_refusal}

links-unrefused : {w : WorldState} {e : Event} {x : Effect} {s : Step} → LinksChange w e x s → is_refusal x ≡ false
links-unrefused (LinksChange.moves packet next d e f g) = refl
links-unrefused (LinksChange.loses k) = refl
links-unrefused (LinksChange.resets k) = refl
links-unrefused (LinksChange.repeats k) = refl
links-unrefused (LinksChange.holds k) = refl
links-unrefused (LinksChange.flips k) = refl
links-unrefused (LinksChange.replays k) = refl
links-unrefused (LinksChange.pulls k) = refl
links-unrefused (LinksChange.plugs k) = refl

host-unrefused : {w : WorldState} {e : Event} {x : Effect} {h : ℕ} {m : NodeState} → HostChange w e x h m → is_refusal x ≡ false
host-unrefused HostChange.asks = refl
host-unrefused (HostChange.stages a p by d e f) = refl
host-unrefused (HostChange.expires k) = refl
host-unrefused (HostChange.gives_up k) = refl
host-unrefused (HostChange.revokes a e) = refl

arrival-unrefused : {w : WorldState} {h : ℕ} {a : Arrival} {x : Effect} {count : ℕ} → ArrivalChange w h a x count → is_refusal x ≡ false
arrival-unrefused ArrivalChange.heard = refl
arrival-unrefused ArrivalChange.dropped = refl
arrival-unrefused ArrivalChange.not_mine = refl

call-unrefused : {w : WorldState} {e : Event} {h port : ℕ} {call : Called} → CallChange w e h port call → (IsClientCall e → is_refusal (Said call.said) ≡ false) → is_refusal (Said call.said) ≡ false
call-unrefused CallChange.begins called = called tt
call-unrefused CallChange.closes called = called tt
call-unrefused CallChange.provides called = called tt
call-unrefused CallChange.accepts called = called tt
call-unrefused CallChange.polls called = called tt

change-unrefused : {w : WorldState} {e : Event} {r : Effect × WorldState} → Change w e r → (IsClientCall e → is_refusal r.0 ≡ false) → is_refusal r.0 ≡ false
change-unrefused Change.idle called = refl
change-unrefused (Change.blocked packet next d e) called = refl
change-unrefused (Change.links k) called = links-unrefused k
change-unrefused (Change.drops packet why d e f) called = refl
change-unrefused (Change.arrives packet h d e f k) called = arrival-unrefused k
change-unrefused (Change.host k) called = host-unrefused k
change-unrefused (Change.injects c out d e f g allowed) called = refl
change-unrefused (Change.calls k) called = call-unrefused k called

-- an event is not refused where none is that is a client's call
pub unrefused : (w : WorldState) (e : Event) → (IsClientCall e → is_refusal (step w e).0 ≡ false) → is_refusal (step w e).0 ≡ false
unrefused w e called = change-unrefused (view w e) called
