-- A packet arrives only at hosts that are there, and a client receives only from such.
use Rattle.std.proofs.Common.{◌<◌, ℕ, Bool, true, false, List, [], ◌∷◌, Option, Some, None, sym, subst, if◌then◌else◌}
use Rattle.world_defs.specs.declared.event.Event.{Event}
use Rattle.world_defs.specs.declared.effect.Effect.{Effect}
use Rattle.world_defs.specs.declared.effect.Effect.TheVariants.{Said}
use Rattle.world_defs.specs.LinkStep.{Step}
use Rattle.world_defs.specs.declared.arrival.Arrival.{Arrival}
use Rattle.world_defs.specs.Node.{NodeState, port_at}
use Rattle.world_defs.specs.declared.client.ClientCause.{ClientCause}
use Rattle.world_defs.specs.declared.client.ClientCause.TheVariants.{BadSize}
use Rattle.world_defs.specs.declared.effect.Said.TheVariants.{Token}
use Rattle.world_defs.specs.Client.{Called, ClientState, Wanted, refused, left, begin_at, begun, close_refusal, close_unless, close_at, close_open, closed, empty_buffer, provide_with, provide_open, provided_by, send_refusal, send_unless, send_with, send_open, sent_by}
use Rattle.gm_defs.specs.Token.{PortState}
use Rattle.gm_defs.specs.Port.{is_bad_size, provided_with}
use Rattle.world_defs.specs.World.{WorldState, host_count, node_at, client_at}
use Rattle.world_defs.specs.Step.{wanted, step}
use Rattle.world_defs.proofs.Views.{LinksChange, HostChange, CallChange, ArrivalChange, Change, view}
use Rattle.faulty_links.proofs.Arrivals.{course-host}
use Rattle.client_host.specs.Held.{IsFromHosts}
use Rattle.fab_world.specs.Held.{IsMoment, IsOfHosts, IsPolledOfHosts}

-- what the links and a host do by themselves names no host
links-hosts : (n : ℕ) {w : WorldState} {e : Event} {x : Effect} {s : Step} → LinksChange w e x s → IsOfHosts n x
links-hosts n (LinksChange.moves packet next d e f g) = tt
links-hosts n (LinksChange.loses k) = tt
links-hosts n (LinksChange.resets k) = tt
links-hosts n (LinksChange.repeats k) = tt
links-hosts n (LinksChange.holds k) = tt
links-hosts n (LinksChange.flips k) = tt
links-hosts n (LinksChange.replays k) = tt
links-hosts n (LinksChange.pulls k) = tt
links-hosts n (LinksChange.plugs k) = tt

host-hosts : (n : ℕ) {w : WorldState} {e : Event} {x : Effect} {h : ℕ} {m : NodeState} → HostChange w e x h m → IsOfHosts n x
host-hosts n HostChange.asks = tt
host-hosts n (HostChange.stages a p by d e f) = tt
host-hosts n (HostChange.expires k) = tt
host-hosts n (HostChange.gives_up k) = tt
host-hosts n (HostChange.revokes a e) = tt

arrival-hosts : (n : ℕ) {w : WorldState} {h : ℕ} {a : Arrival} {x : Effect} {count : ℕ} → h < n → ArrivalChange w h a x count → IsOfHosts n x
arrival-hosts n low ArrivalChange.heard = low
arrival-hosts n low ArrivalChange.dropped = tt
arrival-hosts n low ArrivalChange.not_mine = tt

-- no call but a poll receives a message
begin_at-hosts : (k : ℕ) (n : NodeState) (port sends recvs : ℕ) (c : Option ClientState) (o : Option PortState) → IsFromHosts k (begin_at n port sends recvs c o).said
begin_at-hosts k n port sends recvs c (Some p) = tt
begin_at-hosts k n port sends recvs c None = tt

begun-hosts : (k : ℕ) (n : NodeState) (port sends recvs : ℕ) (c : Option ClientState) → IsFromHosts k (begun n port sends recvs c).said
unfolding begun
begun-hosts k n port sends recvs c = begin_at-hosts k n port sends recvs c (port_at n port)

close_at-hosts : (k : ℕ) (n : NodeState) (port : ℕ) (c : Option ClientState) (p : PortState) → IsFromHosts k (close_at n port c p).said
close_at-hosts k n port c p = by (close_refusal p)
  where
    by : (o : Option ClientCause) → IsFromHosts k (close_unless n port c p o).said
    by (Some cause) = tt
    by None = tt

close_open-hosts : (k : ℕ) (n : NodeState) (port : ℕ) (c : Option ClientState) (o : Option PortState) → IsFromHosts k (close_open n port c o).said
close_open-hosts k n port c None = tt
close_open-hosts k n port c (Some p) = close_at-hosts k n port c p

closed-hosts : (k : ℕ) (n : NodeState) (port : ℕ) (c : Option ClientState) → IsFromHosts k (closed n port c).said
unfolding closed
closed-hosts k n port c = close_open-hosts k n port c (port_at n port)

provide_with-hosts : (k : ℕ) (n : NodeState) (port size prio : ℕ) (p : PortState) (c : ClientState) (ts : List ℕ) → IsFromHosts k (provide_with n port size prio p c ts).said
provide_with-hosts k n port size prio p c [] = tt
provide_with-hosts k n port size prio p c (t ∷ ts) = by (is_bad_size size prio)
  where
    by : (b : Bool)
        → IsFromHosts k (if b then refused n (Some c) BadSize else left n port (Some (provided_with p (record { token = t; size = size; prio = prio; filling = None; buffer = empty_buffer size }))) (Some (record c { recvs = ts })) (Token t)).said
    by true = tt
    by false = tt

provide_open-hosts : (k : ℕ) (n : NodeState) (port size prio : ℕ) (c : Option ClientState) (o : Option PortState) → IsFromHosts k (provide_open n port size prio c o).said
provide_open-hosts k n port size prio (Some c) (Some p) = provide_with-hosts k n port size prio p c c.recvs
provide_open-hosts k n port size prio (Some c) None = tt
provide_open-hosts k n port size prio None o = tt

provided-hosts : (k : ℕ) (n : NodeState) (port size prio : ℕ) (c : Option ClientState) → IsFromHosts k (provided_by n port size prio c).said
unfolding provided_by
provided-hosts k n port size prio c = provide_open-hosts k n port size prio c (port_at n port)

send_unless-hosts : (k : ℕ) (n : NodeState) (s : Wanted) (p : PortState) (c : ClientState) (t : ℕ) (ts : List ℕ) (o : Option ClientCause) → IsFromHosts k (send_unless n s p c t ts o).said
send_unless-hosts k n s p c t ts (Some cause) = tt
send_unless-hosts k n s p c t ts None = tt

send_with-hosts : (k : ℕ) (n : NodeState) (s : Wanted) (p : PortState) (c : ClientState) (ts : List ℕ) → IsFromHosts k (send_with n s p c ts).said
send_with-hosts k n s p c [] = tt
send_with-hosts k n s p c (t ∷ ts) = send_unless-hosts k n s p c t ts (send_refusal n s)

send_open-hosts : (k : ℕ) (n : NodeState) (s : Wanted) (c : Option ClientState) (o : Option PortState) → IsFromHosts k (send_open n s c o).said
send_open-hosts k n s (Some c) (Some p) = send_with-hosts k n s p c c.sends
send_open-hosts k n s (Some c) None = tt
send_open-hosts k n s None o = tt

sent-hosts : (k : ℕ) (n : NodeState) (s : Wanted) (c : Option ClientState) → IsFromHosts k (sent_by n s c).said
unfolding sent_by
sent-hosts k n s c = send_open-hosts k n s c (port_at n s.port)

call-hosts : (k : ℕ) {w : WorldState} {e : Event} {h port : ℕ} {call : Called} → CallChange w e h port call → IsPolledOfHosts k e (Said call.said) → IsFromHosts k call.said
call-hosts k {w = w} {h = h} {port = port} (CallChange.begins {sends = sends} {recvs = recvs}) polled = begun-hosts k (node_at w h) port sends recvs (client_at w h port)
call-hosts k {w = w} {h = h} {port = port} CallChange.closes polled = closed-hosts k (node_at w h) port (client_at w h port)
call-hosts k {w = w} {h = h} {port = port} (CallChange.provides {size = size} {prio = prio}) polled = provided-hosts k (node_at w h) port size prio (client_at w h port)
call-hosts k {w = w} {h = h} {port = port} (CallChange.accepts {dest = dest} {dport = dport} {prio = prio} {len = len} {seed = seed}) polled = sent-hosts k (node_at w h) (wanted port dest dport prio len seed) (client_at w h port)
call-hosts k CallChange.polls polled = polled

-- every event
change-hosts : {w : WorldState} {e : Event} {r : Effect × WorldState} → Change w e r → IsMoment w → IsPolledOfHosts (host_count w) e r.0 → IsOfHosts (host_count w) r.0
change-hosts Change.idle m polled = tt
change-hosts (Change.blocked packet next d e) m polled = tt
change-hosts {w = w} (Change.links k) m polled = links-hosts (host_count w) k
change-hosts (Change.drops packet why d e f) m polled = tt
change-hosts {w = w} (Change.arrives {c = c} packet h d e f k) m polled = arrival-hosts (host_count w) (subst (λ n. h < n) (sym m.world.hosts) (course-host w.links.cables c packet.wire h m.history e)) k
change-hosts {w = w} (Change.host k) m polled = host-hosts (host_count w) k
change-hosts (Change.injects c out d e f g allowed) m polled = tt
change-hosts {w = w} (Change.calls k) m polled = call-hosts (host_count w) k polled

pub effect-hosts : (w : WorldState) (e : Event) → IsMoment w → IsPolledOfHosts (host_count w) e (step w e).0 → IsOfHosts (host_count w) (step w e).0
effect-hosts w e m polled = change-hosts (view w e) m polled
