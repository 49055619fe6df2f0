-- Every act: what was injected and what is in store rise by no more than the act's cost.
use Rattle.std.proofs.Common.{◌≡◌, ◌≤◌, ◌+◌, ℕ, Bool, true, false, List, [], ◌∷◌, map, length, set, nat_eq, Some, None, Ordering, Less, Equal, Greater, refl, ap, arith, if◌then◌else◌}
use Rattle.std.specs.Map.{lookup}
use Rattle.std.specs.Ordering.{match_ordering, nat_cmp}
use Rattle.net_defs.specs.Network.{Network}
use Rattle.world_defs.specs.History.{first_history}
use Rattle.world_defs.specs.Crossed.{life_channels}
use Rattle.world_defs.specs.Links.{LinkState, emptied, put}
use Rattle.world_defs.specs.LinkStep.{Put as PutLinks, Advance as AdvanceLinks, Lose as LoseLinks, Reset as ResetLinks, Repeat as RepeatLinks, Hold as HoldLinks, Flip as FlipLinks, Replay as ReplayLinks, Pull as PullLinks, Plug as PlugLinks, stepped}
use Rattle.world_defs.specs.declared.event.Event.{Event}
use Rattle.world_defs.specs.declared.effect.Effect.{Effect}
use Rattle.world_defs.specs.declared.fault.Fault.{Fault}
use Rattle.world_defs.specs.declared.fault.Fault.TheVariants.{Lose as LoseFault, Repeat as RepeatFault, Hold as HoldFault, Flip as FlipFault, Pull as PullFault}
use Rattle.world_defs.specs.Table.{whole_table}
use Rattle.world_defs.specs.Lane.{new_lane}
use Rattle.world_defs.specs.Node.{NodeState, Outgoing, lane_count, new_node, to_send, packet_for, after_sending}
use Rattle.world_defs.specs.Hearing.{hear}
use Rattle.world_defs.specs.Client.{Called}
use Rattle.world_defs.specs.World.{WorldState, host_count, new_world, node_at, client_at, without_fault, with_fault, sum_of, keeps_epoch, adoption_of}
use Rattle.world_defs.specs.Step.{sent_out, wanted}
use Rattle.world_defs.proofs.Views.{LinksChange, HostChange, CallChange, Change, view}
use Rattle.world_defs.proofs.Strikes.{fault_step, Strike, strike_view}
use Rattle.world_defs.specs.Acts.{Act, Happens, Plans, Adopts, acted}
use Rattle.injection_bounds.specs.Credit.{slot_credit, links_credit, lane_credit, node_credit, credit}
use Rattle.injection_bounds.specs.Paid.{event_cost, cost, account, InjectionsArePaid, InjectionsAreOfActs}
use Rattle.injection_bounds.proofs.Sums.{set-sum, none-sum}
use Rattle.injection_bounds.proofs.Packets.{sent-credit}
use Rattle.injection_bounds.proofs.Lanes.{expired-credit}
use Rattle.injection_bounds.proofs.Hosts.{hear-credit, out-paid}
use Rattle.injection_bounds.proofs.Calls.{begun-free, closed-free, provided_by-free, polled_by-free, sent_by-bought}
use Rattle.injection_bounds.proofs.Links.{step_cost, emptied-credit, stepped-credit}
use Rattle.world_defs.specs.Fault.{accept}

-- the credit of all hosts
abbrev hosts_credit : List NodeState → ℕ
hosts_credit ns = sum_of (map node_credit ns)

-- a host changes
node-set : (w : WorldState) (h : ℕ) (m : NodeState) → hosts_credit (set w.nodes h m) + node_credit (node_at w h) ≤ hosts_credit w.nodes + node_credit m
node-set w h m = set-sum node_credit w.nodes h m (new_node 0) refl

-- plans
without-few : (number : ℕ) (fs : List (ℕ × Fault)) → length (without_fault number fs) ≤ length fs
without-few number [] = omega arith
without-few number (f ∷ fs) = by (nat_eq number f.0) (without-few number fs)
  where
    by : (b : Bool) → length (without_fault number fs) ≤ length fs → length (if b then fs else f ∷ without_fault number fs) ≤ length (f ∷ fs)
    by true ih = omega arith
    by false ih = omega (arith, ih)

without-less : (number : ℕ) (fs : List (ℕ × Fault)) (x : Fault) → lookup (nat_eq number) fs ≡ Some x → length (without_fault number fs) + 1 ≤ length fs
without-less number [] x e = cc
without-less number (f ∷ fs) x e = by (nat_eq number f.0) e (without-less number fs x)
  where
    by : (b : Bool) → (if b then Some f.1 else lookup (nat_eq number) fs) ≡ Some x → (lookup (nat_eq number) fs ≡ Some x → length (without_fault number fs) + 1 ≤ length fs) → length (if b then fs else f ∷ without_fault number fs) + 1 ≤ length (f ∷ fs)
    by true d ih = omega arith
    by false d ih = let h = ih d in omega (arith, h)

pub with-more : (number : ℕ) (fault : Fault) (fs : List (ℕ × Fault)) → length (with_fault number fault fs) ≤ length fs + 1
with-more number fault [] = omega arith
with-more number fault (f ∷ fs) = by (nat_cmp number f.0) (with-more number fault fs)
  where
    by : (o : Ordering) → length (with_fault number fault fs) ≤ length fs + 1 → length (match_ordering o ((number, fault) ∷ f ∷ fs) ((f.0, fault) ∷ fs) (f ∷ with_fault number fault fs)) ≤ length (f ∷ fs) + 1
    by Less ih = omega arith
    by Equal ih = omega arith
    by Greater ih = omega (arith, ih)

-- the links alone
links-pays : {w : WorldState} {e : Event} {x : Effect} {s : _} → LinksChange w e x s → links_credit (stepped w.links s) ≤ links_credit w.links + event_cost w e
links-pays {w = w} (LinksChange.moves {c = c} packet next d e f g) = stepped-credit w.links (AdvanceLinks c)
links-pays {w = w} (LinksChange.loses {c = c} k) = stepped-credit w.links (LoseLinks c)
links-pays {w = w} (LinksChange.resets {c = c} k) = stepped-credit w.links (ResetLinks c)
links-pays {w = w} (LinksChange.repeats {c = c} k) = stepped-credit w.links (RepeatLinks c)
links-pays {w = w} (LinksChange.holds {c = c} k) = stepped-credit w.links (HoldLinks c)
links-pays {w = w} (LinksChange.flips {c = c} {bit = bit} {pattern = pattern} k) = stepped-credit w.links (FlipLinks c bit pattern)
links-pays {w = w} (LinksChange.replays {serial = serial} k) = stepped-credit w.links (ReplayLinks serial)
links-pays {w = w} (LinksChange.pulls {at = at} k) = stepped-credit w.links (PullLinks at)
links-pays {w = w} (LinksChange.plugs {a = a} {b = b} k) = stepped-credit w.links (PlugLinks a b)

-- a host by itself
host-pays : {w : WorldState} {e : Event} {x : Effect} {h : ℕ} {m : NodeState} → HostChange w e x h m → node_credit m ≤ node_credit (node_at w h) + event_cost w e
host-pays HostChange.asks = omega arith
host-pays (HostChange.stages a p by d e f) = omega arith
host-pays {w = w} {h = h} (HostChange.expires {peer = peer} d) = expired-credit (node_at w h) peer
host-pays (HostChange.gives_up d) = omega arith
host-pays (HostChange.revokes a d) = omega arith

-- a client's call
call-pays : {w : WorldState} {e : Event} {h port : ℕ} {call : Called} → CallChange w e h port call → node_credit call.node ≤ node_credit (node_at w h) + event_cost w e
call-pays {w = w} {h = h} {port = port} (CallChange.begins {sends = sends} {recvs = recvs}) = let f = (begun-free (node_at w h) (client_at w h port) port sends recvs).0 in omega (arith, f)
call-pays {w = w} {h = h} {port = port} CallChange.closes = let f = (closed-free (node_at w h) (client_at w h port) port).0 in omega (arith, f)
call-pays {w = w} {h = h} {port = port} (CallChange.provides {size = size} {prio = prio}) = let f = (provided_by-free (node_at w h) port size prio (client_at w h port)).0 in omega (arith, f)
call-pays {w = w} {h = h} {port = port} (CallChange.accepts {dest = dest} {dport = dport} {prio = prio} {len = len} {seed = seed}) = (sent_by-bought (node_at w h) (wanted port dest dport prio len seed) (client_at w h port)).0
call-pays {w = w} {h = h} {port = port} CallChange.polls = let f = (polled_by-free (node_at w h) port (client_at w h port)).0 in omega (arith, f)

-- an injection without its fault
record IsOut (w : WorldState) (h c : ℕ) (out : Outgoing) (u : WorldState) : Type 0 where
  links : u.links ≡ (put w.links c (packet_for h (w.injected + 1) out)).1
  nodes : u.nodes ≡ set w.nodes h (after_sending (node_at w h) out)
  injected : u.injected ≡ w.injected + 1
  plan : u.plan ≡ w.plan

is-out : (w : WorldState) (h c : ℕ) (out : Outgoing) → IsOut w h c out (sent_out w h c out)
unfolding sent_out
is-out w h c out = record { links = refl; nodes = refl; injected = refl; plan = refl }

out-pays : (w u : WorldState) (h c : ℕ) (out : Outgoing) → to_send h (node_at w h) ≡ Some out → IsOut w h c out u → account u ≤ account w
out-pays w u h c out e o =
    let wire : List ℕ = packet_for h (w.injected + 1) out in
    let n = node-set w h (after_sending (node_at w h) out) in
    let p = out-paid h (node_at w h) out e in
    let l = stepped-credit w.links (PutLinks c wire) in
    let q = sent-credit h (w.injected + 1) out in
    let a : hosts_credit u.nodes ≡ hosts_credit (set w.nodes h (after_sending (node_at w h) out)) = ap hosts_credit o.nodes in
    let b : links_credit u.links ≡ links_credit (put w.links c wire).1 = ap links_credit o.links in
    let i : u.injected ≡ w.injected + 1 = o.injected in
    let f : length u.plan ≡ length w.plan = ap length o.plan in
    omega (arith, n, p, l, q, a, b, i, f)

fault-few : (c : ℕ) (f : Fault) → step_cost (fault_step c f) ≤ 1
fault-few c LoseFault = omega arith
fault-few c RepeatFault = omega arith
fault-few c HoldFault = omega arith
fault-few c (FlipFault bit pattern) = omega arith
fault-few c (PullFault at) = omega arith

strike-pays : {u v : WorldState} {c : ℕ} → Strike u c v → account v ≤ account u
strike-pays {u = u} (Strike.spares e) = omega arith
strike-pays {u = u} (Strike.misses f e k) = let h = without-few u.injected u.plan in omega (arith, h)
strike-pays {u = u} {c = c} (Strike.strikes f e k) =
    let h = without-less u.injected u.plan f e in
    let s = stepped-credit u.links (fault_step c f) in
    let few = fault-few c f in
    omega (arith, h, s, few)

-- each event
change-pays : {w : WorldState} {e : Event} {r : Effect × WorldState} → Change w e r → account r.1 ≤ account w + event_cost w e
change-pays {w = w} Change.idle = omega arith
change-pays {w = w} (Change.blocked packet next d e) = omega arith
change-pays {w = w} (Change.links k) = let h = links-pays k in omega (arith, h)
change-pays {w = w} (Change.drops {c = c} packet why d e f) = let h = stepped-credit w.links (AdvanceLinks c) in omega (arith, h)
change-pays {w = w} (Change.arrives {c = c} packet h d e f g) =
    let m : NodeState = (hear h (host_count w) (node_at w h) packet.wire).1 in
    let l : links_credit (stepped w.links (AdvanceLinks c)) ≡ links_credit (emptied w.links c) = ap links_credit f in
    let k = emptied-credit w.links c packet d in
    let n = node-set w h m in
    let o = hear-credit h (host_count w) (node_at w h) packet.wire in
    omega (arith, l, k, n, o)
change-pays {w = w} (Change.host {h = h} {m = m} k) = let n = node-set w h m in let o = host-pays k in omega (arith, n, o)
change-pays {w = w} (Change.injects {h = h} c out d e f g allowed) =
    let u : WorldState = sent_out w h c out in
    let o = out-pays w u h c out e (is-out w h c out) in
    let s = strike-pays (strike_view u c) in
    omega (arith, o, s)
change-pays {w = w} (Change.calls {h = h} {port = port} {call = call} k) = let n = node-set w h call.node in let o = call-pays k in omega (arith, n, o)

-- an adoption may accept the cables
accepted-credit : (s : LinkState) (keeps : Bool) → links_credit (if keeps then s else accept s) ≡ links_credit s
accepted-credit s true = refl
accepted-credit s false = refl

-- each act
pub acted-pays : (w : WorldState) (a : Act) → account (acted w a) ≤ account w + cost w a
acted-pays w (Happens e) = change-pays (view w e)
acted-pays w (Plans ahead fault) = let h = with-more (w.injected + ahead) fault w.plan in omega (arith, h)
acted-pays w (Adopts mapper routes) =
    let n = node-set w mapper (record (node_at w mapper) { table = whole_table routes mapper (adoption_of w mapper routes).epoch }) in
    let l = accepted-credit w.links (keeps_epoch w routes) in
    omega (arith, n, l)

-- all acts
pub acts-paid : InjectionsArePaid
acts-paid w [] = omega arith
acts-paid w (a ∷ acts) =
    let one = acted-pays w a in
    let rest = acts-paid (acted w a) acts in
    omega (arith, one, rest)

-- a new world has nothing in store
pub new-credit : (n : Network) → credit (new_world n) ≡ 0
new-credit n =
    let k : ℕ = length n.hosts in
    let lanes = none-sum lane_credit (lane_count k) new_lane refl in
    let host : node_credit (new_node k) ≡ 0 = omega (arith, lanes) in
    let hosts = none-sum node_credit k (new_node k) host in
    let channels = none-sum slot_credit (life_channels (first_history n)) None refl in
    omega (arith, hosts, channels)

pub acts-pay : InjectionsAreOfActs
acts-pay n acts =
    let paid = acts-paid (new_world n) acts in
    let none = new-credit n in
    omega (arith, paid, none)
