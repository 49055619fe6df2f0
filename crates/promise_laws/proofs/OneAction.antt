-- Each act is one action, of one host, of one channel or of one cable.
use Rattle.std.proofs.Common.{◌≡◌, ◌≢◌, ◌⊎◌, inl, inr, ◌/◌, ℕ, Bool, true, false, true≢false, if◌then◌else◌, List, [], ◌∷◌, ◌++◌, get_or, set, nat_eq, Option, Some, None, refl, sym, ap, subst, ◌∙◌}
use Rattle.std.specs.Map.{lookup}
use Rattle.packet_defs.specs.Packet.{stripped}
use Rattle.net_defs.specs.declared.vertex.End.{End}
use Rattle.world_defs.specs.Crossed.{leaving, pulled_at}
use Rattle.world_defs.specs.History.{may_plug, with_plugged, with_accepted}
use Rattle.world_defs.specs.declared.moved.Course.TheVariants.{Arrives, Enters}
use Rattle.world_defs.specs.Links.{Held, Caught, LinkState, with_packet, emptied}
use Rattle.world_defs.specs.Fault.{caught_as, replay_of, pull_by, pull, plug, accept}
use Rattle.world_defs.specs.LinkStep.{Step, Lose as LoseLinks, Repeat as RepeatLinks, Hold as HoldLinks, Flip as FlipLinks, stepped}
use Rattle.world_defs.proofs.Idling.{pull-idle, plug-idle}
use Rattle.world_defs.proofs.LinksLater.{pull-cables}
use Rattle.world_defs.proofs.Shapes.{stepped-cables}
use Rattle.world_defs.specs.declared.event.Event.{Event}
use Rattle.world_defs.specs.declared.event.Event.TheVariants.{Ask, Part, Inject, Advance, Lose, Repeat, Hold, Flip, Replay, Reset, Expire, GiveUp, Revoke, Begin, Close, Provide, Send, Poll, Pull, Plug}
use Rattle.world_defs.specs.declared.fault.Fault.TheVariants.{Lose as LoseFault, Repeat as RepeatFault, Hold as HoldFault, Flip as FlipFault, Pull as PullFault}
use Rattle.world_defs.specs.declared.effect.Effect.TheVariants.{Said}
use Rattle.world_defs.specs.declared.effect.Said.TheVariants.{Done}
use Rattle.world_defs.specs.declared.effect.Effect.{Effect}
use Rattle.world_defs.specs.Table.{whole_table}
use Rattle.world_defs.specs.Node.{NodeState, Outgoing, new_node}
use Rattle.world_defs.specs.Client.{ClientState, Called}
use Rattle.world_defs.specs.World.{WorldState, node_at, with_node, with_links, client_at, adopted_by, keeps_epoch, adoption_of}
use Rattle.world_defs.specs.Step.{of_links, sent_out, planned_strikes, pulled, plugged, of_call, step}
use Rattle.world_defs.proofs.Kept.{sent-cables, step-adopted, step-cables}
use Rattle.world_defs.proofs.Lists.{each-set}
use Rattle.world_defs.proofs.Views.{Change, LinksChange, HostChange, CallChange, view}
use Rattle.world_defs.proofs.Strikes.{Strike, strike_view, injection-nodes, injection-clients}
use Rattle.world_laws.proofs.Idling.{step-idle}
use Rattle.world_defs.specs.Acts.{Act, Happens, Plans, Adopts, acted}
use Rattle.world_defs.proofs.ActsKept.{acted-kept}
use Rattle.promise_laws.specs.OneAction.{Actor, OfHost, OfAdopter, OfChannel, OfCable, OfNone, staged_by, caught_in, cable_of, actor_of_event, actor_of, port_called, ChannelStays, GoesOn, IsOfHost, IsOfAdopter, IsOfChannel, IsOfNone, IsActionOf, RoutesStay, IsPulledAsPlanned, CablesStay, IdleStays, ActsAreOneAction}
use Rattle.promise_laws.proofs.OneChannel.{channel-same, SameBut, with_packet-same, repeat-same, hold-same, flip-same, replay-same, pulled-same, plugged-same, sent-plan, injection-same}

-- one host replaced, and the clients of one port
other-node : (w : WorldState) (nodes : List NodeState) (i : ℕ) (m : NodeState) → nodes ≡ set w.nodes i m → (h : ℕ) → h ≢ i → get_or nodes h (new_node 0) ≡ node_at w h
other-node w nodes i m e h n =
    let there : get_or (set w.nodes i m) h (new_node 0) ≡ node_at w h = each-set (λ k x. k ≢ i → x ≡ node_at w k) w.nodes i h m (new_node 0) (λ bad. absurd (bad refl)) (λ k ok. refl) n in
    subst (λ l. get_or l h (new_node 0) ≡ node_at w h) (sym e) there

other-client : (w : WorldState) (i : ℕ) (own : List (Option ClientState)) (h port : ℕ) → h ≢ i → get_or (get_or (set w.clients i own) h []) port None ≡ client_at w h port
other-client w i own h port n = each-set (λ k l. k ≢ i → get_or l port None ≡ client_at w k port) w.clients i h own [] (λ bad. absurd (bad refl)) (λ k ok. refl) n

same-client : (w v : WorldState) → v.clients ≡ w.clients → (h port : ℕ) → client_at v h port ≡ client_at w h port
same-client w v e h port = ap (λ l. get_or (get_or l h []) port None) e

-- of a host's clients all but that of one port
other-port : (w : WorldState) (h p : ℕ) (c : Option ClientState) (port : ℕ) → port ≢ p → get_or (get_or (set w.clients h (set (get_or w.clients h []) p c)) h []) port None ≡ client_at w h port
other-port w h p c port n =
    each-set (λ k l. get_or l port None ≡ client_at w k port) w.clients h h (set (get_or w.clients h []) p c) []
    (each-set (λ k x. k ≢ p → x ≡ client_at w h k) (get_or w.clients h []) p port c None (λ bad. absurd (bad refl)) (λ k ok. refl) n) (λ k. refl)

-- nothing changes
none-same : (w : WorldState) → IsOfNone w w
none-same w = record { hosts = λ h. record { host = refl; clients = λ port. refl }; channels = λ c. channel-same w.links c }

action-same : (w : WorldState) (a : Act) (actor : Actor) → IsActionOf w a w actor
action-same w a (OfHost h) = record { hosts = λ k n. record { host = refl; clients = λ port. refl }; clients = λ port n. refl; channels = λ c n m. channel-same w.links c }
action-same w a (OfAdopter h) = record { hosts = λ k n. record { host = refl; clients = λ port. refl }; but_table = refl; clients = λ port. refl; channels = λ c. channel-same w.links c }
action-same w a (OfChannel c) = record { channels = λ k n m. channel-same w.links k; hosts = λ h n. refl; clients = λ h port. refl }
action-same w a (OfCable k) = record { channels = λ c n. channel-same w.links c; hosts = λ h. record { host = refl; clients = λ port. refl } }
action-same w a OfNone = none-same w

-- a channel alone changes
channel-alone : (w : WorldState) (a : Act) (v : WorldState) (c : ℕ) → v.nodes ≡ w.nodes → v.clients ≡ w.clients → SameBut w.links v.links c → IsOfChannel w a v c
channel-alone w a v c e f same = record { channels = λ k n m. same k n; hosts = λ h n. ap (λ l. get_or l h (new_node 0)) e; clients = same-client w v f }

-- a packet leaves its channel
emptied-same : (w v : WorldState) (c : ℕ) → v.links ≡ emptied w.links c → SameBut w.links v.links c
emptied-same w v c e = subst (λ l. SameBut w.links l c) (sym e) (with_packet-same w.links c None)

-- a packet goes into the next channel
moved-on : (w v : WorldState) (c next : ℕ) (packet : Held) → GoesOn w (Happens (Advance c)) c (Enters next) → v.nodes ≡ w.nodes → v.clients ≡ w.clients → v.links ≡ with_packet (emptied w.links c) next (Some packet) → IsOfChannel w (Happens (Advance c)) v c
moved-on w v c next packet goes e f g = record {
  channels = λ k n m. subst (λ l. ChannelStays w.links l k) (sym g) (both k n (λ same. m (subst (λ d. GoesOn w (Happens (Advance c)) c (Enters d)) (sym same) goes)));
  hosts = λ h n. ap (λ l. get_or l h (new_node 0)) e;
  clients = same-client w v f;
}
  where
    both : (k : ℕ) → k ≢ c → k ≢ next → ChannelStays w.links (with_packet (emptied w.links c) next (Some packet)) k
    both k n m =
        let one = with_packet-same w.links c None k n in
        let two = with_packet-same (emptied w.links c) next (Some packet) k m in
        record { packet = two.packet ∙ one.packet; limbo = two.limbo ∙ one.limbo }

-- a packet arrives at a host
heard-at : (w v : WorldState) (c h : ℕ) (m : NodeState) → GoesOn w (Happens (Advance c)) c (Arrives h) → v.nodes ≡ set w.nodes h m → v.clients ≡ w.clients → v.links ≡ emptied w.links c → IsOfChannel w (Happens (Advance c)) v c
heard-at w v c h m goes e f g = record {
  channels = λ k n other. emptied-same w v c g k n;
  hosts = λ k other. other-node w v.nodes h m e k (λ same. other (subst (λ i. GoesOn w (Happens (Advance c)) c (Arrives i)) (sym same) goes));
  clients = same-client w v f;
}

-- a replay
replayed-in : (w : WorldState) (serial : ℕ) (o : Option Caught) → caught_as w.links serial ≡ o → IsActionOf w (Happens (Replay serial)) (with_links w (replay_of w.links serial o).1) (caught_in o)
replayed-in w serial None e = none-same w
replayed-in w serial (Some caught) e = channel-alone w (Happens (Replay serial)) (with_links w (replay_of w.links serial (Some caught)).1) caught.channel refl refl (replay-same w.links serial caught e)

-- a cable is pulled
pulled-at : (w : WorldState) (at : End) (o : Option ℕ) → IsActionOf w (Happens (Pull at)) (with_links w (pull_by w.links o).1) (cable_of o)
pulled-at w at None = none-same w
pulled-at w at (Some c) = record { channels = λ d n. pulled-same w.links (c / 2) d n; hosts = λ h. record { host = refl; clients = λ port. refl } }

links-action : {w : WorldState} {e : Event} {x : Effect} {s : Step} → LinksChange w e x s → IsActionOf w (Happens e) (with_links w (stepped w.links s)) (actor_of_event w e)
links-action {w = w} {s = s} (LinksChange.moves {c = c} packet next e g k d) =
    moved-on w (with_links w (stepped w.links s)) c next (record packet { wire = stripped packet.wire }) (record { advances = refl; packet = packet; there = e; leads = g }) refl refl d
links-action {w = w} {e = e} {s = s} (LinksChange.loses {c = c} k) = channel-alone w (Happens e) (with_links w (stepped w.links s)) c refl refl (with_packet-same w.links c None)
links-action {w = w} {e = e} {s = s} (LinksChange.resets {c = c} k) = channel-alone w (Happens e) (with_links w (stepped w.links s)) c refl refl (with_packet-same w.links c None)
links-action {w = w} {e = e} {s = s} (LinksChange.repeats {c = c} k) = channel-alone w (Happens e) (with_links w (stepped w.links s)) c refl refl (repeat-same w.links c)
links-action {w = w} {e = e} {s = s} (LinksChange.holds {c = c} k) = channel-alone w (Happens e) (with_links w (stepped w.links s)) c refl refl (hold-same w.links c)
links-action {w = w} {e = e} {s = s} (LinksChange.flips {c = c} {bit = bit} {pattern = pattern} k) = channel-alone w (Happens e) (with_links w (stepped w.links s)) c refl refl (flip-same w.links c bit pattern)
links-action {w = w} {s = s} (LinksChange.replays {serial = serial} k) = replayed-in w serial (caught_as w.links serial) refl
links-action {w = w} (LinksChange.pulls {at = at} k) = pulled-at w at (leaving w.links.cables at)
links-action {w = w} (LinksChange.plugs {a = a} {b = b} k) = record { hosts = λ h. record { host = refl; clients = λ port. refl }; channels = λ c. plugged-same w.links a b c }

-- a host changes by itself
host-alone : (w : WorldState) (a : Act) (h : ℕ) (m : NodeState) → IsOfHost w a (with_node w h m) h
host-alone w a h m = record {
  hosts = λ k n. record { host = other-node w (set w.nodes h m) h m refl k n; clients = λ port. refl };
  clients = λ port n. refl;
  channels = λ c n m. channel-same w.links c;
}

host-action : {w : WorldState} {e : Event} {x : Effect} {h : ℕ} {m : NodeState} → HostChange w e x h m → IsActionOf w (Happens e) (with_node w h m) (actor_of_event w e)
host-action {w = w} {e = e} {h = h} {m = m} HostChange.asks = host-alone w (Happens e) h m
host-action {w = w} {e = e} {h = h} {m = m} (HostChange.stages a p by d f g) = subst (λ o. IsActionOf w (Happens e) (with_node w h m) (staged_by o)) (sym d) (host-alone w (Happens e) h m)
host-action {w = w} {e = e} {h = h} {m = m} (HostChange.expires k) = host-alone w (Happens e) h m
host-action {w = w} {e = e} {h = h} {m = m} (HostChange.gives_up k) = host-alone w (Happens e) h m
host-action {w = w} {e = e} {h = h} {m = m} (HostChange.revokes a d) = host-alone w (Happens e) h m

-- a client calls
called-at : (w : WorldState) (a : Act) (h port : ℕ) (call : Called) → port_called a ≡ Some port → IsOfHost w a (of_call w h port call).1 h
called-at w a h p call e = record {
  hosts = λ k n. record { host = other-node w (set w.nodes h call.node) h call.node refl k n; clients = λ port. other-client w h (set (get_or w.clients h []) p call.client) k port n };
  clients = λ port n. other-port w h p call.client port (λ same. n (e ∙ ap Some (sym same)));
  channels = λ c n m. channel-same w.links c;
}

call-action : {w : WorldState} {e : Event} {h port : ℕ} {call : Called} → CallChange w e h port call → IsActionOf w (Happens e) (of_call w h port call).1 (actor_of_event w e)
call-action {w = w} {e = e} {h = h} {port = port} {call = call} CallChange.begins = called-at w (Happens e) h port call refl
call-action {w = w} {e = e} {h = h} {port = port} {call = call} CallChange.closes = called-at w (Happens e) h port call refl
call-action {w = w} {e = e} {h = h} {port = port} {call = call} CallChange.provides = called-at w (Happens e) h port call refl
call-action {w = w} {e = e} {h = h} {port = port} {call = call} CallChange.accepts = called-at w (Happens e) h port call refl
call-action {w = w} {e = e} {h = h} {port = port} {call = call} CallChange.polls = called-at w (Happens e) h port call refl

-- every event
event-action : {w : WorldState} {e : Event} {r : Effect × WorldState} → Change w e r → IsActionOf w (Happens e) r.1 (actor_of_event w e)
event-action {w = w} {e = e} Change.idle = action-same w (Happens e) (actor_of_event w e)
event-action {w = w} {e = e} (Change.blocked packet next d f) = action-same w (Happens e) (actor_of_event w e)
event-action (Change.links k) = links-action k
event-action {w = w} {e = e} {r = r} (Change.drops {c = c} packet why d f g) = channel-alone w (Happens e) r.1 c refl refl (emptied-same w r.1 c g)
event-action {w = w} {r = r} (Change.arrives {c = c} packet h d f g k) = heard-at w r.1 c h _ (record { advances = refl; packet = packet; there = d; leads = f }) refl refl g
event-action (Change.host k) = host-action k
event-action {w = w} {e = e} {r = r} (Change.injects {h = h} c out d f g k allowed) = record {
  hosts = λ i n. record { host = other-node w r.1.nodes h _ (injection-nodes w h c out) i n; clients = same-client w r.1 (injection-clients w h c out) i };
  clients = λ port n. same-client w r.1 (injection-clients w h c out) h port;
  channels = λ i n m. injection-same w h c out i (λ same. n (record { injects = refl; cable = d ∙ ap Some (sym same) })) (λ x planned at j is to same. m (record { injects = refl; port = at; planned = planned ∙ ap Some is; channel = j; cable = to; same = same }));
}
event-action (Change.calls k) = call-action k

-- an epoch that begins leaves every channel
accepted-same : (s : LinkState) (b : Bool) (c : ℕ) → ChannelStays s (if b then s else accept s) c
accepted-same s true c = channel-same s c
accepted-same s false c = record { packet = refl; limbo = refl }

-- an adoption
adoption-action : (w : WorldState) (mapper : ℕ) (n : NodeState) (v : WorldState) → v.nodes ≡ set w.nodes mapper n → record n { table = (node_at w mapper).table } ≡ node_at w mapper → v.clients ≡ w.clients → ((c : ℕ) → ChannelStays w.links v.links c) → IsOfAdopter w v mapper
adoption-action w mapper n v e same f g = record {
  hosts = λ h k. record { host = other-node w v.nodes mapper n e h k; clients = same-client w v f h };
  but_table = subst (λ l. record (get_or l mapper (new_node 0)) { table = (node_at w mapper).table } ≡ node_at w mapper) (sym e) here;
  clients = same-client w v f mapper;
  channels = g;
}
  where
    here : record (get_or (set w.nodes mapper n) mapper (new_node 0)) { table = (node_at w mapper).table } ≡ node_at w mapper
    here = each-set (λ k x. k ≡ mapper → record x { table = (node_at w mapper).table } ≡ node_at w mapper) w.nodes mapper mapper n (new_node 0) (λ is. same)
        (λ k is. ap (λ i. record (node_at w i) { table = (node_at w mapper).table }) is) refl

act-action : (w : WorldState) (a : Act) → IsActionOf w a (acted w a) (actor_of w a)
act-action w (Happens e) = event-action (view w e)
act-action w (Plans ahead fault) = record { hosts = λ h. record { host = refl; clients = λ port. refl }; channels = λ c. channel-same w.links c }
act-action w (Adopts mapper routes) = adoption-action w mapper (record (node_at w mapper) { table = whole_table routes mapper (adoption_of w mapper routes).epoch }) (adopted_by w mapper routes) refl refl refl (accepted-same w.links (keeps_epoch w routes))

act-routes : (w : WorldState) (a : Act) → RoutesStay w a (acted w a)
act-routes w (Happens e) = step-adopted w e
act-routes w (Plans ahead fault) = refl
act-routes w (Adopts mapper routes) = tt

accepted-so : (s : LinkState) (b : Bool) → (if b then s else accept s).cables ≡ (if b then s.cables else with_accepted s.cables)
accepted-so s true = refl
accepted-so s false = refl

of_links-goes : (w : WorldState) (x : Effect) (o : Bool × LinkState) → (o.0 ≡ false → o.1.cables ≡ w.links.cables) → (of_links w x o).1.links.cables ≡ o.1.cables
of_links-goes w x (true, l) k = refl
of_links-goes w x (false, l) k = sym (k refl)

plug-goes : (s : LinkState) (a b : End) → (plug s a b).1.cables ≡ (if may_plug s.cables a b then with_plugged s.cables a b else s.cables)
plug-goes s a b = by (may_plug s.cables a b)
  where
    by : (t : Bool) → (if t then (let r : Bool × LinkState = (true, record s { cables = with_plugged s.cables a b; channels = s.channels ++ None ∷ None ∷ [] }) in r) else (false, s)).1.cables ≡ (if t then with_plugged s.cables a b else s.cables)
    by true = refl
    by false = refl

pull-leaves : (w : WorldState) (at : End) → (step w (Pull at)).1.links.cables ≡ pulled_at w.links.cables at
unfolding pulled
pull-leaves w at = of_links-goes w (Said Done) (pull w.links at) (λ no. ap (λ (l : LinkState). l.cables) (pull-idle w.links at no)) ∙ pull-cables w.links at

plug-leaves : (w : WorldState) (a b : End) → (step w (Plug a b)).1.links.cables ≡ (if may_plug w.links.cables a b then with_plugged w.links.cables a b else w.links.cables)
unfolding plugged
plug-leaves w a b = of_links-goes w (Said Done) (plug w.links a b) (λ no. ap (λ (l : LinkState). l.cables) (plug-idle w.links a b no)) ∙ plug-goes w.links a b

-- the fault that was planned for the last injection pulls a cable
record Pulls (w v : WorldState) : Type 0 where
  port : End
  planned : lookup (nat_eq w.injected) w.plan ≡ Some (PullFault port)
  cables : v.links.cables ≡ pulled_at w.links.cables port

strike-goes : {w v : WorldState} {c : ℕ} → Strike w c v → (v.links.cables ≡ w.links.cables) ⊎ Pulls w v
strike-goes (Strike.spares e) = inl refl
strike-goes (Strike.misses f e d) = inl refl
strike-goes {w = w} {c = c} (Strike.strikes LoseFault e d) = inl (stepped-cables w.links (LoseLinks c) refl)
strike-goes {w = w} {c = c} (Strike.strikes RepeatFault e d) = inl (stepped-cables w.links (RepeatLinks c) refl)
strike-goes {w = w} {c = c} (Strike.strikes HoldFault e d) = inl (stepped-cables w.links (HoldLinks c) refl)
strike-goes {w = w} {c = c} (Strike.strikes (FlipFault bit pattern) e d) = inl (stepped-cables w.links (FlipLinks c bit pattern) refl)
strike-goes {w = w} (Strike.strikes (PullFault at) e d) = inr (record { port = at; planned = e; cables = pull-cables w.links at })

-- an injection leaves the cables, or pulls one as was planned
sent-goes : (w : WorldState) (h c : ℕ) (out : Outgoing) → (v : WorldState) → (v.links.cables ≡ (sent_out w h c out).links.cables) ⊎ Pulls (sent_out w h c out) v → (v.links.cables ≡ w.links.cables) ⊎ IsPulledAsPlanned w v
sent-goes w h c out v (inl same) = inl (same ∙ sent-cables w h c out)
sent-goes w h c out v (inr p) = inr (record { port = p.port; planned = sym (sent-plan w h c out) ∙ p.planned; cables = p.cables ∙ ap (λ g. pulled_at g p.port) (sent-cables w h c out) })

inject-goes : {w : WorldState} {h : ℕ} {r : Effect × WorldState} → Change w (Inject h) r → (r.1.links.cables ≡ w.links.cables) ⊎ IsPulledAsPlanned w r.1
inject-goes Change.idle = inl refl
inject-goes (Change.links k) = elim k [ ]
inject-goes (Change.host k) = elim k [ ]
inject-goes {w = w} {h = h} (Change.injects c out d e f g o) = sent-goes w h c out (planned_strikes (sent_out w h c out) c) (strike-goes (strike_view (sent_out w h c out) c))
inject-goes (Change.calls k) = elim k [ ]

event-goes : (w : WorldState) (e : Event) → CablesStay w (Happens e) (step w e).1
event-goes w (Pull at) = pull-leaves w at
event-goes w (Plug a b) = plug-leaves w a b
event-goes w (Inject h) = inject-goes (view w (Inject h))
event-goes w (Ask h walk looped) = step-cables w (Ask h walk looped) refl
event-goes w (Part dst part) = step-cables w (Part dst part) refl
event-goes w (Advance c) = step-cables w (Advance c) refl
event-goes w (Lose c) = step-cables w (Lose c) refl
event-goes w (Repeat c) = step-cables w (Repeat c) refl
event-goes w (Hold c) = step-cables w (Hold c) refl
event-goes w (Flip c bit pattern) = step-cables w (Flip c bit pattern) refl
event-goes w (Replay serial) = step-cables w (Replay serial) refl
event-goes w (Reset c) = step-cables w (Reset c) refl
event-goes w (Expire h peer) = step-cables w (Expire h peer) refl
event-goes w (GiveUp h) = step-cables w (GiveUp h) refl
event-goes w (Revoke h) = step-cables w (Revoke h) refl
event-goes w (Begin h port sends recvs) = step-cables w (Begin h port sends recvs) refl
event-goes w (Close h port) = step-cables w (Close h port) refl
event-goes w (Provide h port size prio) = step-cables w (Provide h port size prio) refl
event-goes w (Send h port dest dport prio len seed) = step-cables w (Send h port dest dport prio len seed) refl
event-goes w (Poll h port) = step-cables w (Poll h port) refl

act-cables : (w : WorldState) (a : Act) → CablesStay w a (acted w a)
act-cables w (Happens e) = event-goes w e
act-cables w (Plans ahead fault) = refl
act-cables w (Adopts mapper routes) = accepted-so w.links (keeps_epoch w routes)

act-idle : (w : WorldState) (a : Act) → IdleStays w a
act-idle w (Happens e) = (step-idle w e).still
act-idle w (Plans ahead fault) = tt
act-idle w (Adopts mapper routes) = tt

pub acts_are_one_action : ActsAreOneAction
acts_are_one_action w a = record { action = act-action w a; idle = act-idle w a; routes = act-routes w a; cables = act-cables w a; vertices = (let k = acted-kept w a in (k.hosts, k.switches)) }
