-- What an event leaves of a world: one step in the links, one host changed, one packet dropped, one injection, one call of a client, or what of
-- these follows each other. Whatever holds from a world to the next at each of these holds at every event.
use Rattle.std.proofs.Common.{◌≡◌, ◌<◌, ℕ, false, Some, refl}
use Rattle.world_defs.specs.Later.{IsLater}
use Rattle.world_defs.proofs.CablesLater.{pulled-later}
use Rattle.world_defs.specs.Links.{LinkState}
use Rattle.world_defs.specs.LinkStep.{Step, Advance as AdvanceLinks, stepped}
use Rattle.world_defs.specs.declared.event.Event.{Event}
use Rattle.world_defs.specs.declared.event.Event.TheVariants.{Begin, Close, Provide, Send, Poll}
use Rattle.world_defs.specs.declared.effect.Effect.{Effect}
use Rattle.world_defs.specs.declared.arrival.Arrival.{Arrival}
use Rattle.world_defs.specs.Table.{revoked_table}
use Rattle.world_defs.specs.Node.{NodeState, StagedProbe, StagedPart, Outgoing, to_send, given_up, node_expired}
use Rattle.world_defs.specs.Hearing.{hear}
use Rattle.world_defs.specs.Client.{Called}
use Rattle.world_defs.specs.World.{WorldState, host_count, last_count, node_at, with_node, with_links, client_at, with_client, with_drop}
use Rattle.world_defs.specs.Step.{planned_strikes, sent_out, gives_up_epoch, step}
use Rattle.world_defs.proofs.Views.{HostChange, CallChange, ArrivalChange, Change, view}
use Rattle.world_defs.proofs.Calls.{call_view}
use Rattle.world_defs.proofs.Kept.{links-later}
use Rattle.world_defs.proofs.LinksLater.{packets-only}
use Rattle.world_laws.proofs.Nodes.{NodeKept, hear-kept, given_up-kept, table-kept, staged-kept, node_expired-kept}
use Rattle.world_laws.proofs.Calls.{CallKept, call-kept}

-- a relation from worlds to worlds that each change is of
pub record Follows (R : WorldState → WorldState → Type 0) : Type 0 where
  pub same : (w : WorldState) → R w w
  pub both : (u v w : WorldState) → R u v → R v w → R u w
  pub links : (w : WorldState) (x : Step) → IsLater w.links.cables (stepped w.links x).cables → R w (with_links w (stepped w.links x))
  pub node : (w : WorldState) (h : ℕ) (n : NodeState) → NodeKept (node_at w h) n → R w (with_node w h n)
  pub drop : (w : WorldState) → R w (with_drop w)
  pub injection : (w : WorldState) (h c : ℕ) (out : Outgoing) → w.injected < last_count → to_send h (node_at w h) ≡ Some out → R w (planned_strikes (sent_out w h c out) c)

-- and each call of a client too
abbrev pub FollowsCalls : (WorldState → WorldState → Type 0) → Type 0
FollowsCalls R =
    (w : WorldState) (h port : ℕ) (call : Called) → CallKept (node_at w h) port (client_at w h port) call → R w (with_client (with_node w h call.node) h port call.client)

module _ (R : WorldState → WorldState → Type 0) (f : Follows R) (w : WorldState) where
  host-leaves : {e : Event} {x : Effect} {h : ℕ} {m : NodeState} → HostChange w e x h m → R w (with_node w h m)
  host-leaves (HostChange.asks {h = h} {walk = walk} {looped = looped}) = f.node w h (record (node_at w h) { staged = Some (StagedProbe walk looped) }) (staged-kept (node_at w h) (Some (StagedProbe walk looped)))
  host-leaves (HostChange.stages a p by d e g) = f.node w a.mapper (record (node_at w a.mapper) { staged = Some (StagedPart p by) }) (staged-kept (node_at w a.mapper) (Some (StagedPart p by)))
  host-leaves (HostChange.expires {h = h} {peer = peer} k) = f.node w h (node_expired (node_at w h) peer) (node_expired-kept (node_at w h) peer)
  host-leaves (HostChange.gives_up {h = h} k) = f.node w h (given_up (node_at w h)) (given_up-kept (node_at w h))
  host-leaves (HostChange.revokes {h = h} a d) = f.node w h (gives_up_epoch (node_at w h) a.epoch) (table-kept (node_at w h) (revoked_table (node_at w h).table a.epoch))

  arrival-leaves : {h : ℕ} {a : Arrival} {x : Effect} {count : ℕ} → ArrivalChange w h a x count → (l : LinkState) (m : NodeState) → R w (with_node (with_links w l) h m) → R w (record (with_node (with_links w l) h m) { dropped = count })
  arrival-leaves ArrivalChange.heard l m r = r
  arrival-leaves {h = h} ArrivalChange.dropped l m r = let v : WorldState = with_node (with_links w l) h m in f.both w v (with_drop v) r (f.drop v)
  arrival-leaves {h = h} ArrivalChange.not_mine l m r = let v : WorldState = with_node (with_links w l) h m in f.both w v (with_drop v) r (f.drop v)

  change-leaves : {e : Event} {r : Effect × WorldState} → ((h port : ℕ) (call : Called) → CallChange w e h port call → R w (with_client (with_node w h call.node) h port call.client)) → Change w e r → R w r.1
  change-leaves calls Change.idle = f.same w
  change-leaves calls (Change.blocked packet next d e) = f.same w
  change-leaves calls (Change.links {s = s} k) = f.links w s (links-later k)
  change-leaves calls (Change.drops {c = c} packet why d e g) = let u : WorldState = with_links w (stepped w.links (AdvanceLinks c)) in f.both w u (with_drop u) (f.links w (AdvanceLinks c) (pulled-later (packets-only w.links (AdvanceLinks c) refl))) (f.drop u)
  change-leaves calls (Change.arrives {c = c} packet h d e g k) =
      let l : LinkState = stepped w.links (AdvanceLinks c) in
      let m : NodeState = (hear h (host_count w) (node_at w h) packet.wire).1 in
      arrival-leaves k l m (f.both w (with_links w l) (with_node (with_links w l) h m) (f.links w (AdvanceLinks c) (pulled-later (packets-only w.links (AdvanceLinks c) refl))) (f.node (with_links w l) h m (hear-kept h (host_count w) (node_at w h) packet.wire)))
  change-leaves calls (Change.host k) = host-leaves k
  change-leaves calls (Change.injects {h = h} c out d e none left o) = f.injection w h c out left e
  change-leaves calls (Change.calls {h = h} {port = port} {call = call} k) = calls h port call k

-- an event that is no client's call
abbrev pub IsNoCall : Event → Type 0
IsNoCall (Begin h port sends recvs) = ⊥
IsNoCall (Close h port) = ⊥
IsNoCall (Provide h port size prio) = ⊥
IsNoCall (Send h port dest dport prio len seed) = ⊥
IsNoCall (Poll h port) = ⊥
IsNoCall _ = Unit {0}

no-call : {w : WorldState} {e : Event} {h port : ℕ} {call : Called} → CallChange w e h port call → IsNoCall e → ⊥
no-call CallChange.begins q = q
no-call CallChange.closes q = q
no-call CallChange.provides q = q
no-call CallChange.accepts q = q
no-call CallChange.polls q = q

pub quiet-leaves : (R : WorldState → WorldState → Type 0) → Follows R → (w : WorldState) (e : Event) → IsNoCall e → R w (step w e).1
quiet-leaves R f w e q = change-leaves R f w (λ h port call k. absurd (no-call k q)) (view w e)

-- every event
pub step-leaves : (R : WorldState → WorldState → Type 0) → Follows R → FollowsCalls R → (w : WorldState) (e : Event) → R w (step w e).1
step-leaves R f g w e = change-leaves R f w (λ h port call k. g w h port call (call-kept (call_view k))) (view w e)
