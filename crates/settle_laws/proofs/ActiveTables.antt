-- A table that is active stays so, as long as its host doesn't give up an epoch.
use Rattle.std.proofs.Common.{◌≡◌, ℕ, Bool, true, false, List, [], nat_eq, Option, Some, None, is_some, refl, ap, ◌∙◌, if◌then◌else◌}
use Rattle.gm_defs.specs.declared.token.Took.{Took}
use Rattle.gm_defs.specs.Body.{part_in}
use Rattle.world_defs.specs.Mapping.{RouteEntry, RoutePart}
use Rattle.world_defs.specs.declared.event.Event.{Event}
use Rattle.world_defs.specs.declared.event.Event.TheVariants.{Revoke}
use Rattle.world_defs.specs.declared.effect.Effect.{Effect}
use Rattle.world_defs.specs.declared.applied.Applied.{Applied}
use Rattle.world_defs.specs.declared.applied.Applied.TheVariants.{Active, Old}
use Rattle.world_defs.specs.declared.arrival.Arrival.{Arrival}
use Rattle.world_defs.specs.Table.{TableState, of_epoch, collected_with, joined_or, joined_below, is_epoch, active_epoch, is_old, applied}
use Rattle.world_defs.specs.Lane.{lane_acknowledged, lane_after, tickets_finished}
use Rattle.world_defs.specs.Node.{NodeState, lane_at, with_lane}
use Rattle.world_defs.specs.Hearing.{frame_lane, ack_lane, message_of, delivered_after, frame_took, ack_heard, hear}
use Rattle.world_defs.specs.World.{WorldState, host_count, node_at}
use Rattle.world_defs.specs.Acts.{Act, Happens, acted}
use Rattle.world_defs.proofs.Hearings.{Hearing, hearing, delivered_after-rest, all_finished-rest}
use Rattle.world_defs.proofs.Views.{HostChange}
use Rattle.world_defs.proofs.Calls.{call_view}
use Rattle.world_defs.proofs.Hosts.{NodeChange, nodes_view, each_node}
use Rattle.world_defs.proofs.Tables.{call-table, sent-table}

-- a host's table is still active, if it was
abbrev pub Stays : NodeState → NodeState → Type 0
Stays n m = is_some n.table.active ≡ true → is_some m.table.active ≡ true

same-stays : (n m : NodeState) → m.table ≡ n.table → Stays n m
same-stays n m e a = ap (λ t. is_some t.active) e ∙ a

-- a part that is heard
of_epoch-active : (t : TableState) (epoch : ℕ) → (of_epoch t epoch).active ≡ t.active
of_epoch-active t epoch = by (nat_eq t.epoch epoch)
  where
    by : (b : Bool) → (if b then t else record t { epoch = epoch; revoked = false; collected = [] }).active ≡ t.active
    by true = refl
    by false = refl

joined_or-stays : (t : TableState) (o : Option (List RouteEntry)) → is_some t.active ≡ true → is_some (joined_or t o).1.active ≡ true
joined_or-stays t None a = a
joined_or-stays t (Some entries) a = refl

applied-stays : (t : TableState) (p : RoutePart) → is_some t.active ≡ true → is_some (applied t p).1.active ≡ true
unfolding applied
applied-stays t p a = by (is_old t p.epoch) (is_epoch p.epoch (active_epoch t))
  where
    v : TableState
    v = collected_with (of_epoch t p.epoch) p

    by : (b c : Bool) → is_some (if b then (let r : Applied × TableState = (Old, t) in r) else if c then (Active, t) else joined_or v (joined_below p.parts v.collected)).1.active ≡ true
    by true c = a
    by false true = a
    by false false = joined_or-stays v (joined_below p.parts v.collected) (ap is_some (of_epoch-active t p.epoch) ∙ a)

-- whatever a host hears
hear-stays : (host hosts : ℕ) (n : NodeState) (wire : List ℕ) → Stays n (hear host hosts n wire).1
hear-stays host hosts n wire = by (hearing host hosts n wire)
  where
    by : {r : Arrival × NodeState} → Hearing host hosts n wire r → Stays n r.1
    by (Hearing.stays a) = λ a. a
    by (Hearing.probe body number mapper back e d) = λ a. a
    by (Hearing.part body p e d mine) = applied-stays n.table p
    by (Hearing.frame body h e d mine from) =
        let took : Took = frame_took n h in
        let m : NodeState = with_lane n (frame_lane h) (lane_after (lane_at n (frame_lane h)) took (message_of h (part_in body))) in
        same-stays n (delivered_after m h (part_in body) took) (ap (λ x. x.table) (delivered_after-rest m h (part_in body) took))
    by (Hearing.ack body a e d mine from) =
        let m : NodeState = with_lane n (ack_lane a) (lane_acknowledged (lane_at n (ack_lane a)) a.next) in
        same-stays n (ack_heard n a) (ap (λ x. x.table) (all_finished-rest m (tickets_finished (lane_at n (ack_lane a)) a.next)))

-- each host's
pub record TablesStay (w v : WorldState) : Type 0 where
  pub each : (h : ℕ) → Stays (node_at w h) (node_at v h)

-- an act by which no host gives up an epoch
abbrev pub IsNoRevoke : Act → Type 0
IsNoRevoke (Happens (Revoke h)) = ⊥
IsNoRevoke _ = Unit {0}

host-stays : {w : WorldState} {e : Event} {x : Effect} {h : ℕ} {m : NodeState} → HostChange w e x h m → IsNoRevoke (Happens e) → Stays (node_at w h) m
host-stays HostChange.asks calm = λ a. a
host-stays (HostChange.stages a p by d e f) calm = λ a. a
host-stays (HostChange.expires k) calm = λ a. a
host-stays (HostChange.gives_up k) calm = λ a. a
host-stays (HostChange.revokes a d) calm = absurd calm

node-stays : (w : WorldState) (a : Act) → IsNoRevoke a → (h : ℕ) (m : NodeState) → NodeChange w a h m → Stays (node_at w h) m
node-stays w a calm h m (NodeChange.itself k) = host-stays k calm
node-stays w a calm h m (NodeChange.hears packet j d e) = hear-stays j (host_count w) (node_at w j) packet.wire
node-stays w a calm h m (NodeChange.sends c out d e) = same-stays (node_at w h) m (sent-table (node_at w h) out)
node-stays w a calm h m (NodeChange.calls k) = same-stays (node_at w h) m (call-table (call_view k))
node-stays w a calm h m NodeChange.adopts = λ a. refl

-- every other act
pub acted-stay : (w : WorldState) (a : Act) → IsNoRevoke a → TablesStay w (acted w a)
acted-stay w a calm = record { each = each_node (λ h. Stays (node_at w h)) (nodes_view w a) (λ h a. a) (node-stays w a calm) }
