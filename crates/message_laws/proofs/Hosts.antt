-- What an act leaves of each host: it stays, or one of the changes that an event makes has gone over it. What each of those changes keeps, every act keeps.
use Rattle.std.proofs.Common.{◌≡◌, ℕ, List, Some, Ok, refl}
use Rattle.packet_defs.specs.declared.kind.Kind.{Kind}
use Rattle.packet_defs.specs.Host.{decode}
use Rattle.world_defs.specs.declared.event.Event.{Event}
use Rattle.world_defs.specs.declared.effect.Effect.{Effect}
use Rattle.world_defs.specs.Node.{NodeState, Outgoing, to_send, after_sending, node_expired}
use Rattle.world_defs.specs.Hearing.{hear}
use Rattle.world_defs.specs.Client.{Called}
use Rattle.world_defs.specs.World.{WorldState, host_count, node_at, client_at}
use Rattle.world_defs.specs.Acts.{Act, acted}
use Rattle.world_defs.proofs.Views.{HostChange}
use Rattle.world_defs.proofs.Calls.{Call, call_view}
use Rattle.world_defs.proofs.Hosts.{NodeChange, nodes_view, each_node}
use Rattle.table_laws.specs.Packets.{IsHonest}
use Rattle.table_laws.proofs.Medium.{Holds}
use Rattle.table_laws.proofs.Keeping.{holds-read}

-- every change of a host goes so, where what it reads is so
pub record Rules (w : WorldState) (G : Kind → List ℕ → Type 0) (R : ℕ → NodeState → NodeState → Type 0) : Type 0 where
  pub quiet : (h : ℕ) (m : NodeState) → m.lanes ≡ (node_at w h).lanes → m.ports ≡ (node_at w h).ports → R h (node_at w h) m
  pub hears : (h : ℕ) (wire : List ℕ) → ((k : Kind) (body : List ℕ) → decode wire ≡ Ok (k, body) → G k body) → R h (node_at w h) (hear h (host_count w) (node_at w h) wire).1
  pub sends : (h : ℕ) (out : Outgoing) → to_send h (node_at w h) ≡ Some out → R h (node_at w h) (after_sending (node_at w h) out)
  pub expires : (h peer : ℕ) → R h (node_at w h) (node_expired (node_at w h) peer)
  pub calls : (h port : ℕ) (call : Called) → Call (node_at w h) (client_at w h port) port call → R h (node_at w h) call.node

-- each host goes so
pub record Goes (R : ℕ → NodeState → NodeState → Type 0) (w v : WorldState) : Type 0 where
  pub nodes : (h : ℕ) → R h (node_at w h) (node_at v h)

module _ (w : WorldState) (G : Kind → List ℕ → Type 0) (R : ℕ → NodeState → NodeState → Type 0) (rules : Rules w G R) where
  host-goes : {e : Event} {x : Effect} {h : ℕ} {m : NodeState} → HostChange w e x h m → R h (node_at w h) m
  host-goes (HostChange.asks {h = h}) = rules.quiet h _ refl refl
  host-goes (HostChange.stages a p by d e f) = rules.quiet a.mapper _ refl refl
  host-goes (HostChange.expires {h = h} {peer = peer} k) = rules.expires h peer
  host-goes (HostChange.gives_up {h = h} k) = rules.quiet h _ refl refl
  host-goes (HostChange.revokes {h = h} a d) = rules.quiet h _ refl refl

  node-goes : (a : Act) → Holds (λ c. IsHonest G) w.links → (h : ℕ) (m : NodeState) → NodeChange w a h m → R h (node_at w h) m
  node-goes a is h m (NodeChange.itself k) = host-goes k
  node-goes a is h m (NodeChange.hears {c = c} packet j d e) = rules.hears j packet.wire (holds-read G w.links c packet is d)
  node-goes a is h m (NodeChange.sends c out d e) = rules.sends h out e
  node-goes a is h m (NodeChange.calls {port = port} {call = call} k) = rules.calls h port call (call_view k)
  node-goes a is h m NodeChange.adopts = rules.quiet h _ refl refl

  -- every act
  pub acted-goes : (a : Act) → Holds (λ c. IsHonest G) w.links → Goes R w (acted w a)
  acted-goes a is = record { nodes = each_node (λ h. R h (node_at w h)) (nodes_view w a) (λ h. rules.quiet h (node_at w h) refl refl) (node-goes a is) }
