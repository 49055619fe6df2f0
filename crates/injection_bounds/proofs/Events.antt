-- What any act costs, that of a script's client among them.
use Rattle.std.proofs.Common.{◌≡◌, ◌≤◌, ◌+◌, ◌*◌, ℕ, Bool, true, false, List, length, refl, ap, arith, if◌then◌else◌}
use Rattle.std.proofs.lemmas.Bool.Decides.{nat_tests}
use Rattle.net_defs.specs.Network.{Network}
use Rattle.net_defs.specs.declared.route.Route.{Route}
use Rattle.gm_defs.specs.Body.{message_limit}
use Rattle.gm_defs.specs.Fragment.{piece_count}
use Rattle.gm_defs.specs.Port.{is_too_long}
use Rattle.world_defs.specs.declared.event.Event.{Event}
use Rattle.world_defs.specs.declared.event.Event.TheVariants.{Ask, Part, Inject, Advance, Lose, Repeat, Hold, Flip, Replay, Reset, Expire, GiveUp, Begin, Close, Provide, Send, Poll, Revoke, Pull, Plug}
use Rattle.world_defs.specs.Table.{whole_table}
use Rattle.world_defs.specs.Node.{NodeState}
use Rattle.world_defs.specs.Client.{Called, begun, closed, provided_by, sent_by, polled_by}
use Rattle.world_defs.specs.World.{WorldState, node_at, client_at, adoption_of}
use Rattle.world_defs.specs.Settle.{unacknowledged_in}
use Rattle.world_defs.specs.Step.{of_call, wanted, step}
use Rattle.world_laws.proofs.Leaves.{IsNoCall}
use Rattle.world_defs.specs.Acts.{Happens, Plans, Adopts, acted, IsReached}
use Rattle.injection_bounds.specs.Paid.{send_cost, event_cost, account}
use Rattle.injection_bounds.specs.Settled.{pledged}
use Rattle.injection_bounds.specs.Commands.{act_cost, ActCostsFew}
use Rattle.injection_bounds.proofs.Acting.{with-more, acted-pays}
use Rattle.injection_bounds.proofs.Calls.{offered_of, begun-free, closed-free, provided_by-free, polled_by-free, sent_by-bought}
use Rattle.injection_bounds.proofs.Offers.{from_host, host-offers}
use Rattle.injection_bounds.proofs.Settling.{expire-few}
use Rattle.injection_bounds.proofs.Asking.{event-pledged}

-- lanes that stay
lanes-stay : (w : WorldState) (h : ℕ) (m : NodeState) → m.lanes ≡ (node_at w h).lanes → (hosts : ℕ) → from_host m.lanes hosts ≤ from_host (node_at w h).lanes hosts + 0
lanes-stay w h m e hosts = let same : from_host m.lanes hosts ≡ from_host (node_at w h).lanes hosts = ap (λ ls. from_host ls hosts) e in omega (arith, same)

-- a call that leaves the lanes
free-pledged : (w : WorldState) (e : Event) (h port : ℕ) (call : Called) → (step w e).1 ≡ (of_call w h port call).1 → event_cost w e ≡ 0 → call.node.lanes ≡ (node_at w h).lanes → pledged (step w e).1 ≤ pledged w
free-pledged w e h port call same none lanes =
    let a = acted-pays w (Happens e) in
    let b = host-offers w h call.node 0 (lanes-stay w h call.node lanes) in
    let c : unacknowledged_in (step w e).1 ≡ unacknowledged_in (of_call w h port call).1 = ap unacknowledged_in same in
    let d : length (step w e).1.plan ≡ length w.plan = ap (λ v. length v.plan) same in
    omega (arith, a, b, c, d, none)

-- a message of the greatest length has 65 pieces
short-pieces : (len : ℕ) → (offered_of len ≤ 65) × (send_cost len ≤ 130)
short-pieces len = by (is_too_long len) refl
  where
    by : (b : Bool) → is_too_long len ≡ b → ((if b then 0 else piece_count len) ≤ 65) × ((if b then 0 else 2 * piece_count len) ≤ 130)
    by true e = (omega arith, omega arith)
    by false e =
        let low : len ≤ message_limit = grind (arith, nat_tests) in
        let few : piece_count len ≤ 65 = omega (arith, low) in
        (few, omega (arith, few))

send-pledged : (w : WorldState) (h port dest dport prio len seed : ℕ) → pledged (step w (Send h port dest dport prio len seed)).1 ≤ pledged w + act_cost
send-pledged w h port dest dport prio len seed =
    let e : Event = Send h port dest dport prio len seed in
    let call : Called = sent_by (node_at w h) (wanted port dest dport prio len seed) (client_at w h port) in
    let bought = sent_by-bought (node_at w h) (wanted port dest dport prio len seed) (client_at w h port) in
    let a : account (step w e).1 ≤ account w + send_cost len = acted-pays w (Happens e) in
    let b : unacknowledged_in (step w e).1 ≤ unacknowledged_in w + offered_of len = host-offers w h call.node (offered_of len) bought.1 in
    let few = short-pieces len in
    let x = few.0 in
    let y = few.1 in
    omega (arith, a, b, x, y)

quiet : (w : WorldState) (e : Event) → IsNoCall e → event_cost w e ≤ 32 → pledged (step w e).1 ≤ pledged w + act_cost
quiet w e q low = let h = event-pledged w e q in omega (arith, low, h)

free : (w : WorldState) (e : Event) → pledged (step w e).1 ≤ pledged w → pledged (step w e).1 ≤ pledged w + act_cost
free w e h = omega (arith, h)

event-few : (n : Network) (w : WorldState) (e : Event) → IsReached n w → pledged (step w e).1 ≤ pledged w + act_cost
event-few n w (Ask h walk looped) r = quiet w (Ask h walk looped) tt (omega arith)
event-few n w (Part dst part) r = quiet w (Part dst part) tt (omega arith)
event-few n w (Inject h) r = quiet w (Inject h) tt (omega arith)
event-few n w (Advance c) r = quiet w (Advance c) tt (omega arith)
event-few n w (Lose c) r = quiet w (Lose c) tt (omega arith)
event-few n w (Repeat c) r = quiet w (Repeat c) tt (omega arith)
event-few n w (Hold c) r = quiet w (Hold c) tt (omega arith)
event-few n w (Flip c bit pattern) r = quiet w (Flip c bit pattern) tt (omega arith)
event-few n w (Replay serial) r = quiet w (Replay serial) tt (omega arith)
event-few n w (Reset c) r = quiet w (Reset c) tt (omega arith)
event-few n w (Expire h peer) r = quiet w (Expire h peer) tt (expire-few n w h peer r)
event-few n w (GiveUp h) r = quiet w (GiveUp h) tt (omega arith)
event-few n w (Begin h port sends recvs) r =
    free w (Begin h port sends recvs) (free-pledged w (Begin h port sends recvs) h port (begun (node_at w h) port sends recvs (client_at w h port)) refl refl (begun-free (node_at w h) (client_at w h port) port sends recvs).1)
event-few n w (Close h port) r = free w (Close h port) (free-pledged w (Close h port) h port (closed (node_at w h) port (client_at w h port)) refl refl (closed-free (node_at w h) (client_at w h port) port).1)
event-few n w (Provide h port size prio) r =
    free w (Provide h port size prio) (free-pledged w (Provide h port size prio) h port (provided_by (node_at w h) port size prio (client_at w h port)) refl refl (provided_by-free (node_at w h) port size prio (client_at w h port)).1)
event-few n w (Send h port dest dport prio len seed) r = send-pledged w h port dest dport prio len seed
event-few n w (Revoke h) r = quiet w (Revoke h) tt (omega arith)
event-few n w (Pull at) r = quiet w (Pull at) tt (omega arith)
event-few n w (Plug a b) r = quiet w (Plug a b) tt (omega arith)
event-few n w (Poll h port) r = free w (Poll h port) (free-pledged w (Poll h port) h port (polled_by (node_at w h) port (client_at w h port)) refl refl (polled_by-free (node_at w h) port (client_at w h port)).1)

pub adopts-pledged : (w : WorldState) (mapper : ℕ) (routes : List Route) → pledged (acted w (Adopts mapper routes)) ≤ pledged w
adopts-pledged w mapper routes =
    let a = acted-pays w (Adopts mapper routes) in
    let m : NodeState = record (node_at w mapper) { table = whole_table routes mapper (adoption_of w mapper routes).epoch } in
    let b = host-offers w mapper m 0 (lanes-stay w mapper m refl) in
    omega (arith, a, b)

pub act-costs : ActCostsFew
act-costs n w (Happens e) r = event-few n w e r
act-costs n w (Plans ahead fault) r =
    let a = acted-pays w (Plans ahead fault) in
    let h = with-more (w.injected + ahead) fault w.plan in
    omega (arith, a, h)
act-costs n w (Adopts mapper routes) r = let h = adopts-pledged w mapper routes in omega (arith, h)
