-- Every act leaves each token with one owner.
use Rattle.std.proofs.Common.{◌≡◌, ℕ, List, [], ◌∷◌, length, replicate, get_or, set, Option, None, refl, sym, ◌∙◌, subst}
use Rattle.net_defs.specs.Network.{Network}
use Rattle.gm_defs.specs.Token.{PortState}
use Rattle.world_defs.specs.declared.event.Event.{Event}
use Rattle.world_defs.specs.declared.effect.Effect.{Effect}
use Rattle.world_defs.specs.Table.{whole_table}
use Rattle.world_defs.specs.Node.{NodeState, after_sending, new_node, port_at, port_count}
use Rattle.world_defs.specs.Hearing.{hear}
use Rattle.world_defs.specs.Client.{ClientState, Called}
use Rattle.world_defs.specs.World.{WorldState, host_count, new_world, node_at, with_node, client_at, with_client, adoption_of, adopted_by}
use Rattle.world_defs.specs.Sound.{AreOwned}
use Rattle.world_laws.specs.Shape.{IsWorld}
use Rattle.world_laws.proofs.Lists.{at-set, two-set}
use Rattle.world_laws.proofs.Shapes.{step-kept, new-world, adopted-world, planned-world}
use Rattle.world_defs.specs.Acts.{Act, Happens, Plans, Adopts, acted, acted_all}
use Rattle.owner_laws.proofs.Hosts.{NodeOwned, node-same, hear-owned, after_sending-owned}
use Rattle.world_defs.proofs.Lists.{each-replicate}
use Rattle.world_defs.proofs.Views.{HostChange, Change, view}
use Rattle.world_defs.proofs.Strikes.{injection-nodes, injection-clients}
use Rattle.world_defs.proofs.Calls.{call_view}
use Rattle.owner_laws.proofs.Callers.{CallOwned, call-owned}

-- the ports of a host and their clients, and those of all hosts
abbrev IsOwnedRow : NodeState → List (Option ClientState) → Type 0
IsOwnedRow n row = (port : ℕ) → AreOwned (port_at n port) (get_or row port None)

record IsOwned (w : WorldState) : Type 0 where
  each : (h : ℕ) → IsOwnedRow (node_at w h) (get_or w.clients h [])

-- where one host changes, and no client
one-owned : (w v : WorldState) (h : ℕ) (n : NodeState) → v.nodes ≡ set w.nodes h n → v.clients ≡ w.clients → NodeOwned (node_at w h) n → IsOwned w → IsOwned v
one-owned w v i n e f k is = record {
  each = λ h port.
      let moved : NodeOwned (node_at w h) (get_or (set w.nodes i n) h (new_node 0)) = at-set NodeOwned (λ n. node-same n n refl) w.nodes i h n (new_node 0) k in
      let there : NodeOwned (node_at w h) (node_at v h) = subst (λ ns. NodeOwned (node_at w h) (get_or ns h (new_node 0))) (sym e) moved in
      subst (λ cs. AreOwned (port_at (node_at v h) port) (get_or (get_or cs h []) port None)) (sym f) ((there.each port).owned (get_or (get_or w.clients h []) port None) (is.each h port));
}

host-ports : {w : WorldState} {e : Event} {x : Effect} {h : ℕ} {m : NodeState} → HostChange w e x h m → m.ports ≡ (node_at w h).ports
host-ports HostChange.asks = refl
host-ports (HostChange.stages a p by d e f) = refl
host-ports (HostChange.expires k) = refl
host-ports (HostChange.gives_up k) = refl
host-ports (HostChange.revokes a d) = refl

-- where a client calls: a port that isn't there, or of a host that isn't there, is nobody's
row-owned : (n m : NodeState) (row : List (Option ClientState)) (port : ℕ) (p : Option PortState) (c : Option ClientState) → length row ≡ length n.ports → m.ports ≡ set n.ports port p → AreOwned p c → IsOwnedRow n row → IsOwnedRow m (set row port c)
row-owned n m row port p c long e new is j =
    subst (λ ps. AreOwned (get_or ps j None) (get_or (set row port c) j None)) (sym e) (two-set AreOwned n.ports row port p c None None long (λ _. new) is j)

called-owned : (w : WorldState) (h port : ℕ) (call : Called) → IsWorld w → IsOwned w → CallOwned (node_at w h) port call → IsOwned (with_client (with_node w h call.node) h port call.client)
called-owned w h port call world is k = record {
  each = two-set IsOwnedRow w.nodes w.clients h call.node (set (get_or w.clients h []) port call.client) (new_node 0) [] world.clients
      (λ low. row-owned (node_at w h) call.node (get_or w.clients h []) port k.at_port call.client (world.each_client h low ∙ sym (world.each_node h low).ports) k.ports k.owned (is.each h)) is.each;
}

-- every event
change-owned : {w : WorldState} {e : Event} {r : Effect × WorldState} → Change w e r → IsWorld w → IsOwned w → IsOwned r.1
change-owned Change.idle world is = is
change-owned (Change.blocked packet next d e) world is = is
change-owned (Change.links k) world is = record { each = is.each }
change-owned (Change.drops packet why d e f) world is = record { each = is.each }
change-owned {w = w} (Change.arrives packet h d e f g) world is = one-owned w _ h (hear h (host_count w) (node_at w h) packet.wire).1 refl refl (hear-owned h (host_count w) (node_at w h) packet.wire) is
change-owned {w = w} (Change.host {h = h} {m = m} k) world is = one-owned w (with_node w h m) h m refl refl (node-same (node_at w h) m (host-ports k)) is
change-owned {w = w} (Change.injects {h = h} c out d e f g o) world is = one-owned w _ h (after_sending (node_at w h) out) (injection-nodes w h c out) (injection-clients w h c out) (after_sending-owned (node_at w h) out) is
change-owned {w = w} (Change.calls {h = h} {port = port} {call = call} k) world is = called-owned w h port call world is (call-owned (call_view k) (is.each h port))

-- every act, and all acts
record IsKept (w : WorldState) : Type 0 where
  world : IsWorld w
  owned : IsOwned w

acted-kept : (w : WorldState) (a : Act) → IsKept w → IsKept (acted w a)
acted-kept w (Happens e) k = record { world = (step-kept w e).world k.world; owned = change-owned (view w e) k.world k.owned }
acted-kept w (Plans ahead fault) k = record { world = planned-world w ahead fault k.world; owned = record { each = k.owned.each } }
acted-kept w (Adopts mapper routes) k =
    let n : NodeState = record (node_at w mapper) { table = whole_table routes mapper (adoption_of w mapper routes).epoch } in
    record { world = adopted-world w mapper routes k.world; owned = one-owned w (adopted_by w mapper routes) mapper n refl refl (node-same (node_at w mapper) n refl) k.owned }

all-kept : (w : WorldState) (acts : List Act) → IsKept w → IsKept (acted_all w acts)
all-kept w [] k = k
all-kept w (a ∷ acts) k = all-kept (acted w a) acts (acted-kept w a k)

-- a new world has no open port
no-port : (port : ℕ) → get_or (replicate {A = Option PortState} port_count None) port None ≡ None
no-port port = each-replicate (λ o. o ≡ None) port_count port None None refl refl

no-client : (port : ℕ) → get_or (replicate {A = Option ClientState} port_count None) port None ≡ None
no-client port = each-replicate (λ o. o ≡ None) port_count port None None refl refl

both-closed : (p : Option PortState) (c : Option ClientState) → p ≡ None → c ≡ None → AreOwned p c
both-closed p c e f = subst (λ q. AreOwned q c) (sym e) (subst (λ d. AreOwned None d) (sym f) tt)

new-owned : (n : Network) → IsOwned (new_world n)
new-owned n =
    let k : ℕ = length n.hosts in
    let row : List (Option ClientState) = replicate port_count None in
    record {
      each = λ h port.
          both-closed (port_at (node_at (new_world n) h) port) (client_at (new_world n) h port)
          (each-replicate (λ m. port_at m port ≡ None) k h (new_node k) (new_node 0) (no-port port) (no-port port))
          (each-replicate (λ (cs : List (Option ClientState)). get_or cs port None ≡ None) k h row [] (no-client port) refl);
    }

pub always-owned : (n : Network) (acts : List Act) (h port : ℕ) → AreOwned (port_at (node_at (acted_all (new_world n) acts) h) port) (client_at (acted_all (new_world n) acts) h port)
always-owned n acts h port = (all-kept (new_world n) acts (record { world = new-world n; owned = new-owned n })).owned.each h port
