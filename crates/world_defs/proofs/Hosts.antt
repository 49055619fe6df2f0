-- What an act makes of the hosts: they stay, or one of them changes.
use Rattle.std.proofs.Common.{◌≡◌, ℕ, get_or, set, Some, refl, sym, subst}
use Rattle.std.specs.Prelude.{List}
use Rattle.net_defs.specs.declared.route.Route.{Route}
use Rattle.net_defs.specs.Route.{host_port}
use Rattle.world_defs.specs.Crossed.{leaving}
use Rattle.world_defs.specs.declared.moved.Course.TheVariants.{Arrives}
use Rattle.world_defs.specs.Links.{Held, packet_in}
use Rattle.world_defs.specs.Advance.{course}
use Rattle.world_defs.specs.declared.event.Event.{Event}
use Rattle.world_defs.specs.declared.event.Event.TheVariants.{Inject, Advance}
use Rattle.world_defs.specs.declared.effect.Effect.{Effect}
use Rattle.world_defs.specs.Table.{whole_table}
use Rattle.world_defs.specs.Node.{NodeState, Outgoing, to_send, after_sending, new_node}
use Rattle.world_defs.specs.Hearing.{hear}
use Rattle.world_defs.specs.Client.{Called}
use Rattle.world_defs.specs.World.{WorldState, host_count, node_at, adoption_of}
use Rattle.world_defs.specs.Acts.{Act, Happens, Plans, Adopts, acted}
use Rattle.world_defs.proofs.Lists.{each-set}
use Rattle.world_defs.proofs.Views.{HostChange, CallChange, Change, view}
use Rattle.world_defs.proofs.Strikes.{injection-nodes}

-- One host as an act leaves it: it changed by itself, heard a packet, sent one, was called, or adopted routes.
pub data NodeChange (w : WorldState) : Act → ℕ → NodeState → Type 0 where
  itself : {e : Event} {x : Effect} {h : ℕ} {m : NodeState} → HostChange w e x h m → NodeChange w (Happens e) h m
  hears : {c : ℕ} (packet : Held) (h : ℕ) → packet_in w.links c ≡ Some packet → course w.links.cables c packet.wire ≡ Arrives h → NodeChange w (Happens (Advance c)) h (hear h (host_count w) (node_at w h) packet.wire).1
  sends : {h : ℕ} (c : ℕ) (out : Outgoing) → leaving w.links.cables (host_port h) ≡ Some c → to_send h (node_at w h) ≡ Some out → NodeChange w (Happens (Inject h)) h (after_sending (node_at w h) out)
  calls : {e : Event} {h port : ℕ} {call : Called} → CallChange w e h port call → NodeChange w (Happens e) h call.node
  adopts : {mapper : ℕ} {routes : List Route} → NodeChange w (Adopts mapper routes) mapper (record (node_at w mapper) { table = whole_table routes mapper (adoption_of w mapper routes).epoch })

-- All hosts as an act leaves them.
pub data NodesChange (w : WorldState) (a : Act) (v : WorldState) : Type 0 where
  same : v.nodes ≡ w.nodes → NodesChange w a v
  one : {h : ℕ} {m : NodeState} → NodeChange w a h m → v.nodes ≡ set w.nodes h m → NodesChange w a v

pub change-nodes : {w : WorldState} {e : Event} {r : Effect × WorldState} → Change w e r → NodesChange w (Happens e) r.1
change-nodes Change.idle = NodesChange.same refl
change-nodes (Change.blocked packet next d e) = NodesChange.same refl
change-nodes (Change.links k) = NodesChange.same refl
change-nodes (Change.drops packet why d e f) = NodesChange.same refl
change-nodes (Change.arrives packet h d e f g) = NodesChange.one (NodeChange.hears packet h d e) refl
change-nodes (Change.host k) = NodesChange.one (NodeChange.itself k) refl
change-nodes {w = w} (Change.injects {h = h} c out d e f g o) = NodesChange.one (NodeChange.sends c out d e) (injection-nodes w h c out)
change-nodes (Change.calls k) = NodesChange.one (NodeChange.calls k) refl

pub nodes_view : (w : WorldState) (a : Act) → NodesChange w a (acted w a)
nodes_view w (Happens e) = change-nodes (view w e)
nodes_view w (Plans ahead fault) = NodesChange.same refl
nodes_view w (Adopts mapper routes) = NodesChange.one NodeChange.adopts refl

-- what holds of each host as it was, and of each that changes, holds of each after the act
pub each_node : (R : ℕ → NodeState → Type 0) {w : WorldState} {a : Act} {v : WorldState} → NodesChange w a v → ((h : ℕ) → R h (node_at w h)) → ((h : ℕ) (m : NodeState) → NodeChange w a h m → R h m) → (h : ℕ) → R h (node_at v h)
each_node R {w = w} {v = v} (NodesChange.same e) all new h = subst (λ l. R h (get_or l h (new_node 0))) (sym e) (all h)
each_node R {w = w} {v = v} (NodesChange.one {h = i} {m = m} k e) all new h = subst (λ l. R h (get_or l h (new_node 0))) (sym e) (each-set R w.nodes i h m (new_node 0) (new i m k) all)
