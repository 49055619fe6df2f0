-- What a client's call is as an event of the world.
use Rattle.std.proofs.Common.{◌≡◌, ◌∙◌, ℕ, true, refl, sym, ap}
use Rattle.world_defs.specs.declared.event.Event.{Event}
use Rattle.world_defs.specs.declared.event.Event.TheVariants.{Ask, Part, Inject, Advance, Lose, Repeat, Hold, Flip, Replay, Reset, Expire, GiveUp, Begin, Close, Provide, Send, Poll, Revoke, Pull, Plug}
use Rattle.world_defs.specs.declared.effect.Effect.{Effect}
use Rattle.world_defs.specs.declared.effect.Effect.TheVariants.{Said as Says}
use Rattle.world_defs.specs.declared.effect.Said.{Said}
use Rattle.world_defs.specs.Client.{Called}
use Rattle.world_defs.specs.World.{WorldState, host_count, node_at, client_at}
use Rattle.world_defs.specs.Step.{of_call, step}
use Rattle.client_host.specs.Calls.{IsClientCall, IsCallGiven, host_of_call, port_of_call, call_of, call_takes_memory, IsPolledFrom}
use Rattle.fab_world.specs.Events.{IsHostOf, IsGiven, takes_memory}
use Rattle.fab_world.specs.Held.{IsPolledOfHosts}

-- An event is a call at its host: it may be made there, and the world says of it what the host does.
pub record IsCall (w : WorldState) (e : Event) : Type 0 where
  pub there : IsHostOf w (host_of_call e)
  pub given : IsCallGiven (host_count w) e
  pub is : step w e ≡ of_call w (host_of_call e) (port_of_call e) (call_of e (node_at w (host_of_call e)) (client_at w (host_of_call e) (port_of_call e)))
  pub polled : (said : Said) → IsPolledFrom (host_count w) e said → IsPolledOfHosts (host_count w) e (Says said)
  pub memory : call_takes_memory e ≡ true → takes_memory e ≡ true

pub call-at : (w : WorldState) (e : Event) → IsClientCall e → IsGiven w e → IsCall w e
call-at w (Ask h walk looped) call given = absurd call
call-at w (Part dst part) call given = absurd call
call-at w (Inject h) call given = absurd call
call-at w (Advance c) call given = absurd call
call-at w (Lose c) call given = absurd call
call-at w (Repeat c) call given = absurd call
call-at w (Hold c) call given = absurd call
call-at w (Flip c bit pattern) call given = absurd call
call-at w (Replay serial) call given = absurd call
call-at w (Reset c) call given = absurd call
call-at w (Expire h peer) call given = absurd call
call-at w (GiveUp h) call given = absurd call
call-at w (Revoke h) call given = absurd call
call-at w (Pull at) call given = absurd call
call-at w (Plug a b) call given = absurd call
call-at w (Begin h port sends recvs) call given = record { there = given.0; given = given.1; is = refl; polled = λ said p. p; memory = λ t. t }
call-at w (Close h port) call given = record { there = given.0; given = given.1; is = refl; polled = λ said p. p; memory = λ t. t }
call-at w (Provide h port size prio) call given = record { there = given.0; given = given.1; is = refl; polled = λ said p. p; memory = λ t. t }
call-at w (Send h port dest dport prio len seed) call given = record { there = given.0; given = (given.1, given.2, given.3, given.4); is = refl; polled = λ said p. p; memory = λ t. t }
call-at w (Poll h port) call given = record { there = given.0; given = given.1; is = refl; polled = λ said p. p; memory = λ t. t }

-- so it is answered, and nothing else comes of it
pub says : (w v : WorldState) (e : Event) (x : Effect) → IsClientCall e → IsGiven w e → step w e ≡ (x, v) → (said : Said) × (x ≡ Says said)
says w v e x call given is =
    let h : ℕ = host_of_call e in
    let q : Called = call_of e (node_at w h) (client_at w h (port_of_call e)) in
    (q.said, ap (λ (p : Effect × WorldState). p.0) (sym is ∙ (call-at w e call given).is))

pub says-no_other : (w v : WorldState) (e : Event) (x : Effect) → IsClientCall e → IsGiven w e → step w e ≡ (x, v) → ((said : Said) → x ≡ Says said → ⊥) → ⊥
says-no_other w v e x call given is other =
    let s = says w v e x call given is in
    other s.0 s.1
