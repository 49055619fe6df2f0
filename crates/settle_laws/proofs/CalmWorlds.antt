-- The events that leave each host's connections calm, in a row.
use Rattle.std.proofs.Common.{ℕ, List, [], ◌∷◌, refl}
use Rattle.world_defs.specs.declared.event.Event.{Event}
use Rattle.world_defs.specs.declared.event.Event.TheVariants.{Advance, Replay, Reset, GiveUp}
use Rattle.world_defs.specs.declared.effect.Effect.{Effect}
use Rattle.world_defs.specs.Node.{NodeState}
use Rattle.world_defs.specs.Logs.{clear, replays}
use Rattle.world_defs.specs.World.{WorldState, host_count, node_at}
use Rattle.world_laws.proofs.Along.{Along, clear-along}
use Rattle.settle_laws.proofs.Calm.{NodeCalm, node-quiet, node-both, hear-calm, given_up-calm}
use Rattle.world_defs.specs.Client.{Called}
use Rattle.world_defs.specs.Step.{step}
use Rattle.world_defs.specs.Acts.{Happens}
use Rattle.world_defs.proofs.Views.{HostChange, CallChange, view}
use Rattle.world_defs.proofs.Hosts.{NodeChange, change-nodes, each_node}

-- each host is calm
pub record WorldCalm (w v : WorldState) : Type 0 where
  pub nodes : (h : ℕ) → NodeCalm (node_at w h) (node_at v h)

calm-same : (w : WorldState) → WorldCalm w w
calm-same w = record { nodes = λ h. node-quiet (node_at w h) (node_at w h) refl refl }

pub calm-both : (u v w : WorldState) → WorldCalm u v → WorldCalm v w → WorldCalm u w
calm-both u v w k l = record { nodes = λ h. node-both (node_at u h) (node_at v h) (node_at w h) (k.nodes h) (l.nodes h) }

-- the events
abbrev pub IsCalm : Event → Type 0
IsCalm (Advance c) = Unit {0}
IsCalm (Reset c) = Unit {0}
IsCalm (Replay serial) = Unit {0}
IsCalm (GiveUp h) = Unit {0}
IsCalm _ = ⊥

host-calm : {w : WorldState} {e : Event} {x : Effect} {h : ℕ} {m : NodeState} → HostChange w e x h m → IsCalm e → NodeCalm (node_at w h) m
host-calm HostChange.asks q = absurd q
host-calm (HostChange.stages a p by d e f) q = absurd q
host-calm (HostChange.expires k) q = absurd q
host-calm {w = w} (HostChange.gives_up {h = h} k) q = given_up-calm (node_at w h)
host-calm (HostChange.revokes a d) q = absurd q

no-call : {w : WorldState} {e : Event} {h port : ℕ} {call : Called} → CallChange w e h port call → IsCalm e → ⊥
no-call CallChange.begins q = q
no-call CallChange.closes q = q
no-call CallChange.provides q = q
no-call CallChange.accepts q = q
no-call CallChange.polls q = q

node-calm : (w : WorldState) (e : Event) → IsCalm e → (h : ℕ) (m : NodeState) → NodeChange w (Happens e) h m → NodeCalm (node_at w h) m
node-calm w e q h m (NodeChange.itself k) = host-calm k q
node-calm w e q h m (NodeChange.hears packet j d g) = hear-calm j (host_count w) (node_at w j) packet.wire
node-calm w e q h m (NodeChange.sends c out d g) = absurd q
node-calm w e q h m (NodeChange.calls k) = absurd (no-call k q)

pub event-calm : (w : WorldState) (e : Event) → IsCalm e → WorldCalm w (step w e).1
event-calm w e q = record { nodes = each_node (λ h. NodeCalm (node_at w h)) (change-nodes (view w e)) (λ h. node-quiet (node_at w h) (node_at w h) refl refl) (node-calm w e q) }

pub along-calm : Along WorldCalm IsCalm
along-calm = record { same = λ w. calm-same w; both = calm-both; event = event-calm }

pub clear-calm : (w : WorldState) → WorldCalm w (clear w).world
clear-calm w = clear-along WorldCalm IsCalm along-calm (record { advance = λ c. tt; reset = λ c. tt }) w

pub replays-calm : (ss : List ℕ) (w : WorldState) → WorldCalm w (replays ss w).world
replays-calm [] w = calm-same w
replays-calm (s ∷ ss) w =
    let u : WorldState = (step w (Replay s)).1 in
    let v : WorldState = (clear u).world in
    calm-both w u (replays ss v).world (event-calm w (Replay s) tt) (calm-both u v (replays ss v).world (clear-calm u) (replays-calm ss v))
