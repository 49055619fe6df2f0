-- Every event leaves a world of later cables, with the numbers of each connection in order.
use Rattle.std.proofs.Common.{◌≡◌, ◌<◌, ◌≤◌, ◌+◌, ◌^◌, ℕ, zero, suc, Bool, true, false, if◌then◌else◌, List, [], ◌∷◌, length, replicate, get_or, set, Option, Some, None, is_some, refl, sym, ◌∙◌, ap, subst, arith}
use Rattle.std.proofs.Math.ListN.{length-set}
use Rattle.std.proofs.lemmas.List.{length-replicate}
use Rattle.net_defs.specs.declared.route.Route.{Route}
use Rattle.net_defs.specs.Network.{Network}
use Rattle.world_defs.specs.Later.{IsLater}
use Rattle.world_defs.proofs.CablesLater.{pulled-later, later-on, later-kept}
use Rattle.world_defs.specs.Links.{LinkState}
use Rattle.world_defs.specs.Fault.{accept}
use Rattle.world_defs.specs.Shape.{IsLinks}
use Rattle.world_defs.specs.LinkStep.{Step, Put, Accept as AcceptLinks, stepped}
use Rattle.world_defs.proofs.Shapes.{empty-links, stepped-cables, stepped-links}
use Rattle.gm_defs.specs.Connection.{IsSender, starting}
use Rattle.gm_defs.specs.Token.{PortState}
use Rattle.world_defs.specs.declared.event.Event.{Event}
use Rattle.world_defs.specs.declared.fault.Fault.{Fault}
use Rattle.world_defs.specs.Table.{TableState, whole_table}
use Rattle.world_defs.specs.Lane.{LaneState, new_lane}
use Rattle.world_defs.specs.Node.{NodeState, Outgoing, to_send, packet_for, after_sending, lane_count, new_node, lane_at, port_at, port_count}
use Rattle.world_defs.specs.Client.{ClientState, Called}
use Rattle.world_defs.specs.World.{WorldState, host_count, new_world, last_count, counted, node_at, with_node, with_links, client_at, with_client, with_drop, keeps_epoch, adoption_of, adopted_by, planned}
use Rattle.world_defs.specs.Step.{planned_strikes, sent_out, step, after_all}
use Rattle.world_laws.specs.Shape.{IsNode, IsWorld, HasSenders}
use Rattle.world_laws.proofs.Lists.{at-set, two-set}
use Rattle.world_laws.proofs.Nodes.{NodeKept, node_same, sent-kept, table-kept}
use Rattle.world_laws.proofs.Calls.{CallKept}
use Rattle.world_laws.proofs.Strikes.{Strikes, planned_strikes-kept}
use Rattle.world_laws.proofs.Leaves.{Follows, FollowsCalls, step-leaves}

-- what every event keeps
pub record Kept (w v : WorldState) : Type 0 where
  pub later : IsLater w.links.cables v.links.cables
  pub world : IsWorld w → IsWorld v
  pub senders : HasSenders w → HasSenders v

-- hosts that are kept, one by one
pub record NodesKept (w v : WorldState) : Type 0 where
  pub count : length v.nodes ≡ length w.nodes
  pub each : (h : ℕ) → NodeKept (node_at w h) (node_at v h)

-- the same list of hosts
pub nodes_same : (w v : WorldState) → v.nodes ≡ w.nodes → NodesKept w v
nodes_same w v e = record {
  count = ap length e;
  each = λ h. subst (λ ns. NodeKept (node_at w h) (get_or ns h (new_node 0))) (sym e) (node_same (node_at w h));
}

pub with_node-kept : (w : WorldState) (h : ℕ) (n : NodeState) → NodeKept (node_at w h) n → NodesKept w (with_node w h n)
with_node-kept w h n k = record {
  count = length-set w.nodes h n;
  each = λ j. at-set NodeKept node_same w.nodes h j n (new_node 0) k;
}

-- a world whose hosts are kept, and whose clients are as they were
made_of : (w v : WorldState) → IsWorld w → IsLinks v.links → v.links.cables.hosts ≡ w.links.cables.hosts → NodesKept w v → v.clients ≡ w.clients → v.injected < 2 ^ 64 → v.dropped < 2 ^ 64 → v.struck ≤ v.injected → v.harmed ≤ v.struck → IsWorld v
made_of w v is links same k clients injections drops strikes harms = record {
  links = links;
  hosts = k.count ∙ (is.hosts ∙ ap length (sym same));
  clients = ap length clients ∙ (is.clients ∙ sym k.count);
  each_node = λ h low.
      let was : IsNode (host_count w) (node_at w h) = is.each_node h (subst (λ n. h < n) k.count low) in
      record { lanes = (k.each h).lanes ∙ (was.lanes ∙ ap lane_count (sym k.count)); ports = (k.each h).ports ∙ was.ports };
  each_client = λ h low. ap (λ cs. length (get_or cs h [])) clients ∙ is.each_client h (subst (λ n. h < n) k.count low);
  open_ports = λ h port. ap (λ cs. is_some (get_or (get_or cs h []) port None)) clients ∙ (is.open_ports h port ∙ sym ((k.each h).open_ports port));
  injections = injections;
  drops = drops;
  strikes = strikes;
  harms = harms;
}

made_world : (w v : WorldState) → IsWorld w → IsLinks v.links → IsLater w.links.cables v.links.cables → NodesKept w v → v.clients ≡ w.clients → v.injected < 2 ^ 64 → v.dropped < 2 ^ 64 → v.struck ≤ v.injected → v.harmed ≤ v.struck → IsWorld v
made_world w v is links later k clients injections drops strikes harms = made_of w v is links (later-kept later).hosts k clients injections drops strikes harms

pub made_senders : (w v : WorldState) → NodesKept w v → HasSenders w → HasSenders v
made_senders w v k is = record { in_order = λ h lane. ((k.each h).senders lane).in_order (is.in_order h lane) }

kept_links : (w : WorldState) (x : Step) → IsLater w.links.cables (stepped w.links x).cables → Kept w (with_links w (stepped w.links x))
kept_links w x later = record {
  later = later;
  world = λ is. made_world w (with_links w (stepped w.links x)) is (stepped-links w.links x is.links) later (nodes_same w (with_links w (stepped w.links x)) refl) refl is.injections is.drops is.strikes is.harms;
  senders = made_senders w (with_links w (stepped w.links x)) (nodes_same w (with_links w (stepped w.links x)) refl);
}

kept_node : (w : WorldState) (h : ℕ) (n : NodeState) → NodeKept (node_at w h) n → Kept w (with_node w h n)
kept_node w h n k = record {
  later = IsLater.still;
  world = λ is. made_world w (with_node w h n) is is.links IsLater.still (with_node-kept w h n k) refl is.injections is.drops is.strikes is.harms;
  senders = made_senders w (with_node w h n) (with_node-kept w h n k);
}

counted-below : (n : ℕ) → counted n < 2 ^ 64
counted-below n = omega arith

kept_drop : (w : WorldState) → Kept w (with_drop w)
kept_drop w = record {
  later = IsLater.still;
  world = λ is. made_world w (with_drop w) is is.links IsLater.still (nodes_same w (with_drop w) refl) refl is.injections (counted-below w.dropped) is.strikes is.harms;
  senders = made_senders w (with_drop w) (nodes_same w (with_drop w) refl);
}

-- what an injection leaves before the planned fault strikes
pub record SentOut (w v : WorldState) : Type 0 where
  pub links : IsLinks w.links → IsLinks v.links
  pub cables : v.links.cables ≡ w.links.cables
  pub nodes : NodesKept w v
  pub clients : v.clients ≡ w.clients
  pub injected : v.injected ≡ w.injected + 1
  pub dropped : v.dropped ≡ w.dropped
  pub plan : v.plan ≡ w.plan
  pub struck : v.struck ≡ w.struck
  pub harmed : v.harmed ≡ w.harmed

pub sent_out-kept : (w : WorldState) (h c : ℕ) (out : Outgoing) → to_send h (node_at w h) ≡ Some out → SentOut w (sent_out w h c out)
unfolding sent_out
sent_out-kept w h c out e =
    let x : Step = Put c (packet_for h (w.injected + 1) out) in
    let k : NodesKept w (with_node w h (after_sending (node_at w h) out)) = with_node-kept w h (after_sending (node_at w h) out) (sent-kept h (node_at w h) out e) in
    record {
      links = stepped-links w.links x;
      cables = stepped-cables w.links x refl;
      nodes = record { count = k.count; each = k.each };
      clients = refl;
      injected = refl;
      dropped = refl;
      plan = refl;
      struck = refl;
      harmed = refl;
    }

pub struck_nodes : (w u v : WorldState) → NodesKept w u → v.nodes ≡ u.nodes → NodesKept w v
struck_nodes w u v k e = record {
  count = ap length e ∙ k.count;
  each = λ h. subst (λ ns. NodeKept (node_at w h) (get_or ns h (new_node 0))) (sym e) (k.each h);
}

injected-kept : (w u v : WorldState) → w.injected < last_count → SentOut w u → Strikes u v → Kept w v
injected-kept w u v low s t =
    let nodes : NodesKept w v = struck_nodes w u v s.nodes t.nodes in
    let now : v.injected ≡ w.injected + 1 = t.injected ∙ s.injected in
    let later : IsLater w.links.cables v.links.cables = subst (λ h. IsLater h v.links.cables) s.cables (pulled-later t.links.pulled) in
    record {
      later = later;
      world = λ is.
          let a = is.strikes in
          let b = is.harms in
          let c = t.once in
          let d = t.harms in
          let e = s.struck in
          let f = s.harmed in
          let g = t.rises in
          made_world w v is (t.links.links (s.links is.links)) later nodes (t.clients ∙ s.clients) (omega (arith, low, now)) (subst (λ n. n < 2 ^ 64) (sym (t.dropped ∙ s.dropped)) is.drops) (omega (arith, a, c, e, now)) (omega (arith, b, d, e, f, g));
      senders = made_senders w v nodes;
    }

kept_injection : (w : WorldState) (h c : ℕ) (out : Outgoing) → w.injected < last_count → to_send h (node_at w h) ≡ Some out → Kept w (planned_strikes (sent_out w h c out) c)
kept_injection w h c out low e =
    injected-kept w (sent_out w h c out) (planned_strikes (sent_out w h c out) c) low (sent_out-kept w h c out e) (planned_strikes-kept (sent_out w h c out) c)

pub follows-kept : Follows Kept
follows-kept = record {
  same = λ w. record { later = IsLater.still; world = λ is. is; senders = λ is. is };
  both = λ u v w k l. record { later = later-on k.later l.later; world = λ is. l.world (k.world is); senders = λ is. l.senders (k.senders is) };
  links = kept_links;
  node = kept_node;
  drop = kept_drop;
  injection = kept_injection;
}

-- a call: the lists of ports and of clients change at the same place
record SameLong (n m : NodeState) : Type 0 where
  lanes : length m.lanes ≡ length n.lanes
  ports : length m.ports ≡ length n.ports

abbrev IsOpenWhere : List (Option PortState) → List (Option ClientState) → Type 0
IsOpenWhere ports clients = (port : ℕ) → is_some (get_or clients port None) ≡ is_some (get_or ports port None)

open_row : (ports : List (Option PortState)) (row : List (Option ClientState)) (port : ℕ) (p : Option PortState) (c : Option ClientState) → length row ≡ length ports → is_some c ≡ is_some p → IsOpenWhere ports row → IsOpenWhere (set ports port p) (set row port c)
open_row ports row port p c long e all = two-set (λ (a : Option PortState) (b : Option ClientState). is_some b ≡ is_some a) ports row port p c None None long (λ _. e) all

called_open : (w : WorldState) (h port : ℕ) (call : Called) → CallKept (node_at w h) port (client_at w h port) call → IsWorld w → h < length w.nodes → IsOpenWhere call.node.ports (set (get_or w.clients h []) port call.client)
called_open w h port call k is low =
    let row : List (Option ClientState) = get_or w.clients h [] in
    let long : length row ≡ length (node_at w h).ports = is.each_client h low ∙ sym (is.each_node h low).ports in
    subst (λ ports. IsOpenWhere ports (set row port call.client)) (sym k.ports) (open_row (node_at w h).ports row port k.at_port call.client long (k.open_port (is.open_ports h port)) (is.open_ports h))

called_world : (w : WorldState) (h port : ℕ) (call : Called) → CallKept (node_at w h) port (client_at w h port) call → IsWorld w → IsWorld (with_client (with_node w h call.node) h port call.client)
called_world w h port call k is =
    let row : List (Option ClientState) = get_or w.clients h [] in
    let count : length (set w.nodes h call.node) ≡ length w.nodes = length-set w.nodes h call.node in
    let same : SameLong (node_at w h) call.node = record { lanes = k.lanes; ports = ap length k.ports ∙ length-set (node_at w h).ports port k.at_port } in
    record {
      links = is.links;
      hosts = count ∙ is.hosts;
      clients = length-set w.clients h (set row port call.client) ∙ (is.clients ∙ sym count);
      each_node = λ j low.
          let was : IsNode (host_count w) (node_at w j) = is.each_node j (subst (λ n. j < n) count low) in
          let long : SameLong (node_at w j) (get_or (set w.nodes h call.node) j (new_node 0)) = at-set SameLong (λ n. record { lanes = refl; ports = refl }) w.nodes h j call.node (new_node 0) same in
          record { lanes = long.lanes ∙ (was.lanes ∙ ap lane_count (sym count)); ports = long.ports ∙ was.ports };
      each_client = λ j low.
          at-set (λ (a b : List (Option ClientState)). length b ≡ length a) (λ a. refl) w.clients h j (set row port call.client) [] (length-set row port call.client) ∙ is.each_client j (subst (λ n. j < n) count low);
      open_ports = two-set (λ n cs. IsOpenWhere n.ports cs) w.nodes w.clients h call.node (set row port call.client) (new_node 0) [] is.clients (called_open w h port call k is) is.open_ports;
      injections = is.injections;
      drops = is.drops;
      strikes = is.strikes;
      harms = is.harms;
    }

called_senders : (w : WorldState) (h port : ℕ) (call : Called) → CallKept (node_at w h) port (client_at w h port) call → HasSenders w → HasSenders (with_client (with_node w h call.node) h port call.client)
called_senders w h port call k is = record {
  in_order = λ j lane.
      at-set (λ a b. IsSender (lane_at a lane).sender → IsSender (lane_at b lane).sender) (λ a i. i) w.nodes h j call.node (new_node 0) (k.senders lane).in_order (is.in_order j lane);
}

pub follows_calls-kept : FollowsCalls Kept
follows_calls-kept w h port call k = record { later = IsLater.still; world = called_world w h port call k; senders = called_senders w h port call k }

-- the laws
pub step-kept : (w : WorldState) (e : Event) → Kept w (step w e).1
step-kept w e = step-leaves Kept follows-kept follows_calls-kept w e

pub after_all-kept : (w : WorldState) (es : List Event) → Kept w (after_all w es)
after_all-kept w [] = follows-kept.same w
after_all-kept w (e ∷ es) = follows-kept.both w (step w e).1 (after_all (step w e).1 es) (step-kept w e) (after_all-kept (step w e).1 es)

-- the world of a fabric before anything happened
at-replicate : {X : Type 0} (P : X → Type 0) (k j : ℕ) (x d : X) → P x → P d → P (get_or (replicate k x) j d)
at-replicate P zero j x d p q = q
at-replicate P (suc k) zero x d p q = p
at-replicate P (suc k) (suc j) x d p q = at-replicate P k j x d p q

below-replicate : {X : Type 0} (P : X → Type 0) (k j : ℕ) (x d : X) → j < k → P x → P (get_or (replicate k x) j d)
below-replicate P zero j x d low p = absurd (omega (arith, low))
below-replicate P (suc k) zero x d low p = p
below-replicate P (suc k) (suc j) x d low p = below-replicate P k j x d (omega (arith, low)) p

no_port : (port : ℕ) → get_or (replicate {A = Option PortState} port_count None) port None ≡ None
no_port port = at-replicate (λ o. o ≡ None) port_count port None None refl refl

no_client : (port : ℕ) → get_or (replicate {A = Option ClientState} port_count None) port None ≡ None
no_client port = at-replicate (λ o. o ≡ None) port_count port None None refl refl

pub new-world : (n : Network) → IsWorld (new_world n)
new-world n =
    let k : ℕ = length n.hosts in
    let row : List (Option ClientState) = replicate port_count None in
    let count : length (replicate k (new_node k)) ≡ k = length-replicate k (new_node k) in
    record {
      links = empty-links n;
      hosts = count;
      clients = length-replicate k row ∙ sym count;
      each_node = λ h low.
          below-replicate (IsNode (length (replicate k (new_node k)))) k h (new_node k) (new_node 0) (subst (λ m. h < m) count low) (record { lanes = length-replicate (lane_count k) new_lane ∙ ap lane_count (sym count); ports = refl });
      each_client = λ h low. below-replicate (λ (cs : List (Option ClientState)). length cs ≡ port_count) k h row [] (subst (λ m. h < m) count low) refl;
      open_ports = λ h port.
          let c : get_or (get_or (replicate k row) h []) port None ≡ None = at-replicate (λ (cs : List (Option ClientState)). get_or cs port None ≡ None) k h row [] (no_client port) refl in
          let p : port_at (get_or (replicate k (new_node k)) h (new_node 0)) port ≡ None = at-replicate (λ m. port_at m port ≡ None) k h (new_node k) (new_node 0) (no_port port) (no_port port) in
          ap is_some c ∙ sym (ap is_some p);
      injections = omega arith;
      drops = omega arith;
      strikes = omega arith;
      harms = omega arith;
    }

starting-order : IsSender (starting 0)
starting-order = record { base_below = omega arith; cursor_below = omega arith; top_below = omega arith; in_range = omega arith }

pub new-senders : (n : Network) → HasSenders (new_world n)
new-senders n =
    let k : ℕ = length n.hosts in
    record {
      in_order = λ h lane.
          at-replicate (λ m. IsSender (lane_at m lane).sender) k h (new_node k) (new_node 0) (at-replicate (λ (p : LaneState). IsSender p.sender) (lane_count k) lane new_lane new_lane starting-order starting-order) starting-order;
    }

-- an adoption and a plan, which are no events
adopted_links : (s : LinkState) (b : Bool) → IsLinks s → IsLinks (if b then s else accept s)
adopted_links s true is = is
adopted_links s false is = stepped-links s AcceptLinks is

adopted_hosts : (s : LinkState) (b : Bool) → (if b then s else accept s).cables.hosts ≡ s.cables.hosts
adopted_hosts s true = refl
adopted_hosts s false = refl

adopted_nodes : (w : WorldState) (mapper : ℕ) (routes : List Route) → NodesKept w (adopted_by w mapper routes)
adopted_nodes w mapper routes =
    let t : TableState = whole_table routes mapper (adoption_of w mapper routes).epoch in
    let k : NodesKept w (with_node w mapper (record (node_at w mapper) { table = t })) = with_node-kept w mapper (record (node_at w mapper) { table = t }) (table-kept (node_at w mapper) t) in
    record { count = k.count; each = k.each }

pub adopted-world : (w : WorldState) (mapper : ℕ) (routes : List Route) → IsWorld w → IsWorld (adopted_by w mapper routes)
adopted-world w mapper routes is =
    made_of w (adopted_by w mapper routes) is (adopted_links w.links (keeps_epoch w routes) is.links) (adopted_hosts w.links (keeps_epoch w routes)) (adopted_nodes w mapper routes) refl is.injections is.drops is.strikes is.harms

pub adopted-senders : (w : WorldState) (mapper : ℕ) (routes : List Route) → HasSenders w → HasSenders (adopted_by w mapper routes)
adopted-senders w mapper routes is = made_senders w (adopted_by w mapper routes) (adopted_nodes w mapper routes) is

pub planned-world : (w : WorldState) (ahead : ℕ) (fault : Fault) → IsWorld w → IsWorld (planned w ahead fault).1
planned-world w ahead fault is =
    let v : WorldState = (planned w ahead fault).1 in
    made_world w v is is.links IsLater.still (nodes_same w v refl) refl is.injections is.drops is.strikes is.harms

pub planned-senders : (w : WorldState) (ahead : ℕ) (fault : Fault) → HasSenders w → HasSenders (planned w ahead fault).1
planned-senders w ahead fault is = let v : WorldState = (planned w ahead fault).1 in made_senders w v (nodes_same w v refl) is
