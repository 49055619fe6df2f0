-- After every act the messages that sends were accepted with are what was sent on each connection.
use Rattle.std.proofs.Common.{◌≡◌, ◌≢◌, ◌<◌, ◌≤◌, ℕ, Bool, true, false, ◌&&◌, List, [], ◌∷◌, ◌++◌, length, get_or, set, nat_eq, nat_lt, Option, Some, None, is_none, refl, sym, ap, ◌∙◌, subst, arith, if◌then◌else◌}
use Rattle.std.proofs.lemmas.Bool.Decides.{nat_tests}
use Rattle.std.proofs.lemmas.List.{append_assoc, append-nil, set-get_or, get_or-set_same, get_or-set_other, get_or_past}
use Rattle.net_defs.specs.Network.{Network}
use Rattle.gm_defs.specs.declared.message.Message.{Message}
use Rattle.gm_defs.specs.declared.frame.ConnectionKey.{ConnectionKey}
use Rattle.gm_defs.specs.declared.token.Took.{Took}
use Rattle.gm_defs.specs.Body.{part_in}
use Rattle.gm_defs.specs.Port.{is_bad_size}
use Rattle.gm_defs.specs.Token.{PortEvent, Sent, Received, PortState}
use Rattle.gm_defs.specs.Port.{next_event}
use Rattle.gm_defs.proofs.Choices.{both}
use Rattle.world_defs.specs.declared.client.ClientCause.{ClientCause}
use Rattle.world_defs.specs.declared.effect.Effect.{Effect}
use Rattle.world_defs.specs.declared.effect.Effect.TheVariants.{Said as Says}
use Rattle.world_defs.specs.declared.event.Event.{Event}
use Rattle.world_defs.specs.declared.event.Event.TheVariants.{Send}
use Rattle.world_defs.specs.Lane.{LaneState, new_lane, with_message, lane_acknowledged, tickets_finished, lane_expired, lane_sent_one, lane_answered, lane_after}
use Rattle.world_defs.specs.Node.{NodeState, Outgoing, Probe, TablePart, Reply, PartAnswer, FrameAnswer, Fragment, lane_count, lane_of, prio_place, sending_lane, lane_at, with_lane, port_at, port_count, new_node, after_sending, with_expired}
use Rattle.world_defs.specs.Hearing.{frame_lane, ack_lane, message_of, frame_took}
use Rattle.world_defs.specs.Table.{table_route}
use Rattle.world_defs.specs.Client.{ClientState, Called, Wanted, wanted_lane, wanted_message, begin_at, begun, close_refusal, close_unless, close_open, closed, provide_with, provide_open, provided_by, send_refusal, send_unless, send_with, send_open, sent_by, handed_out, poll_open, polled_by}
use Rattle.world_defs.specs.World.{WorldState, host_count, new_world, node_at, client_at}
use Rattle.world_defs.specs.Step.{wanted}
use Rattle.world_defs.specs.Traffic.{sent_on}
use Rattle.world_defs.proofs.Lists.{each-set, each-replicate}
use Rattle.world_defs.proofs.Lanes.{lane_of-below}
use Rattle.world_defs.proofs.Views.{HostChange, CallChange}
use Rattle.world_defs.proofs.Calls.{not_refused-acceptable}
use Rattle.world_defs.specs.Acts.{Act, Happens, acted, acted_all, MayActAll, IsReached}
use Rattle.world_defs.proofs.Hosts.{NodeChange, nodes_view, each_node}
use Rattle.world_defs.proofs.Reaching.{reached-next, reached-new}
use Rattle.message_laws.proofs.Heard.{IsHeard, quietly, of_frame, of_ack, hear-is}
use Rattle.world_defs.proofs.Hearings.{all_finished-lanes, delivered_after-lanes}
use Rattle.message_laws.proofs.Known.{reached-count, reached-known}
use Rattle.ticket_laws.proofs.Hosts.{lane-new}
use Rattle.client_laws.specs.Handed.{in_send, is_sent_on, accepted_by, accepted_in}
use Rattle.client_laws.specs.Seen.{AcceptedIsSent}

-- a host has sent the same messages by each lane
record SentSame (n m : NodeState) : Type 0 where
  each : (k : ℕ) → (lane_at m k).sent ≡ (lane_at n k).sent

lanes-same : (n m : NodeState) → m.lanes ≡ n.lanes → SentSame n m
lanes-same n m e = record { each = λ k. ap (λ l. (get_or l k new_lane).sent) e }

lane-same : (n m : NodeState) (k : ℕ) (q : LaneState) → m.lanes ≡ set n.lanes k q → q.sent ≡ (lane_at n k).sent → SentSame n m
lane-same n m k q e here = record { each = λ j. ap (λ l. (get_or l j new_lane).sent) e ∙ each-set (λ i (x : LaneState). x.sent ≡ (lane_at n i).sent) n.lanes k j q new_lane here (λ i. refl) }

heard-same : (host hosts : ℕ) (n : NodeState) (wire : List ℕ) (m : NodeState) → IsHeard host hosts n wire m → SentSame n m
heard-same host hosts n wire m (quietly e f) = lanes-same n m e
heard-same host hosts n wire m (of_frame body h e d mine low now) =
    let t : Took = frame_took n h in
    let q : LaneState = lane_after (lane_at n (frame_lane h)) t (message_of h (part_in body)) in
    let v : NodeState = with_lane n (frame_lane h) q in
    lane-same n m (frame_lane h) q (ap (λ (x : NodeState). x.lanes) now ∙ delivered_after-lanes v h (part_in body) t) refl
heard-same host hosts n wire m (of_ack body a e d mine low now) =
    let q : LaneState = lane_acknowledged (lane_at n (ack_lane a)) a.next in
    let v : NodeState = with_lane n (ack_lane a) q in
    lane-same n m (ack_lane a) q (ap (λ (x : NodeState). x.lanes) now ∙ all_finished-lanes v (tickets_finished (lane_at n (ack_lane a)) a.next)) refl

sending-same : (n : NodeState) (out : Outgoing) → SentSame n (after_sending n out)
unfolding after_sending
sending-same n (Probe walk looped) = record { each = λ k. refl }
sending-same n (TablePart part by) = record { each = λ k. refl }
sending-same n (Reply r) = record { each = λ k. refl }
sending-same n (PartAnswer a) = record { each = λ k. refl }
sending-same n (FrameAnswer lane next by) = lane-same n (with_lane n lane (lane_answered (lane_at n lane))) lane (lane_answered (lane_at n lane)) refl refl
sending-same n (Fragment lane head part by) = lane-same n (with_lane n lane (lane_sent_one (lane_at n lane))) lane (lane_sent_one (lane_at n lane)) refl refl

expired-same : (n : NodeState) (lane : ℕ) → SentSame n (with_expired n lane)
expired-same n lane = lane-same n (with_expired n lane) lane (lane_expired (lane_at n lane)) refl refl

host-same : {w : WorldState} {e : Event} {x : Effect} {h : ℕ} {m : NodeState} → HostChange w e x h m → SentSame (node_at w h) m
host-same HostChange.asks = record { each = λ k. refl }
host-same (HostChange.stages a p by d e f) = record { each = λ k. refl }
host-same {w = w} (HostChange.expires {h = h} {peer = peer} k) =
    let n : NodeState = node_at w h in
    let m : NodeState = with_expired n (lane_of peer 0) in
    record { each = λ k. (expired-same m (lane_of peer 1)).each k ∙ (expired-same n (lane_of peer 0)).each k }
host-same (HostChange.gives_up k) = record { each = λ k. refl }
host-same (HostChange.revokes a d) = record { each = λ k. refl }

-- no call but a send changes a lane
begun-lanes : (n : NodeState) (port sends recvs : ℕ) (c : Option ClientState) → (begun n port sends recvs c).node.lanes ≡ n.lanes
unfolding begun
begun-lanes n port sends recvs c = by (port_at n port)
  where
    by : (o : Option PortState) → (begin_at n port sends recvs c o).node.lanes ≡ n.lanes
    by None = refl
    by (Some p) = refl

closed-lanes : (n : NodeState) (port : ℕ) (c : Option ClientState) → (closed n port c).node.lanes ≡ n.lanes
unfolding closed
closed-lanes n port c = by (port_at n port)
  where
    unless : (p : PortState) (o : Option ClientCause) → (close_unless n port c p o).node.lanes ≡ n.lanes
    unless p None = refl
    unless p (Some cause) = refl

    by : (o : Option PortState) → (close_open n port c o).node.lanes ≡ n.lanes
    by None = refl
    by (Some p) = unless p (close_refusal p)

provided-lanes : (n : NodeState) (port size prio : ℕ) (c : Option ClientState) → (provided_by n port size prio c).node.lanes ≡ n.lanes
unfolding provided_by
provided-lanes n port size prio c = by c (port_at n port)
  where
    chosen : (b : Bool) (x y : Called) → x.node.lanes ≡ n.lanes → y.node.lanes ≡ n.lanes → (if b then x else y).node.lanes ≡ n.lanes
    chosen true x y p q = p
    chosen false x y p q = q

    with : (p : PortState) (d : ClientState) (ts : List ℕ) → (provide_with n port size prio p d ts).node.lanes ≡ n.lanes
    with p d [] = refl
    with p d (t ∷ ts) = chosen (is_bad_size size prio) _ _ refl refl

    by : (c : Option ClientState) (o : Option PortState) → (provide_open n port size prio c o).node.lanes ≡ n.lanes
    by (Some d) (Some p) = with p d d.recvs
    by (Some d) None = refl
    by None o = refl

polled-lanes : (n : NodeState) (port : ℕ) (c : Option ClientState) → (polled_by n port c).node.lanes ≡ n.lanes
unfolding polled_by
polled-lanes n port c = by c (port_at n port)
  where
    with : (p : PortState) (d : ClientState) (o : Option PortEvent) → (handed_out n port p d o).node.lanes ≡ n.lanes
    with p d None = refl
    with p d (Some (Sent t buffer)) = refl
    with p d (Some (Received t buffer from sport prio len)) = refl

    by : (c : Option ClientState) (o : Option PortState) → (poll_open n port c o).node.lanes ≡ n.lanes
    by (Some d) (Some p) = with p d (next_event p)
    by (Some d) None = refl
    by None o = refl

-- an act that isn't a send
abbrev pub IsNoSend : Act → Type 0
IsNoSend (Happens (Send h port dest dport prio len seed)) = ⊥
IsNoSend _ = Unit {0}

pub none-accepted : (c : ConnectionKey) (w : WorldState) (a : Act) → IsNoSend a → accepted_by c w a ≡ []
none-accepted c w (Happens (Send h port dest dport prio len seed)) calm = absurd calm
none-accepted c w _ calm = refl

pub call-lanes : {w : WorldState} {e : Event} {h port : ℕ} {call : Called} → CallChange w e h port call → IsNoSend (Happens e) → call.node.lanes ≡ (node_at w h).lanes
call-lanes {w = w} {h = h} {port = port} (CallChange.begins {sends = sends} {recvs = recvs}) calm = begun-lanes (node_at w h) port sends recvs (client_at w h port)
call-lanes {w = w} {h = h} {port = port} CallChange.closes calm = closed-lanes (node_at w h) port (client_at w h port)
call-lanes {w = w} {h = h} {port = port} (CallChange.provides {size = size} {prio = prio}) calm = provided-lanes (node_at w h) port size prio (client_at w h port)
call-lanes {w = w} {h = h} {port = port} CallChange.accepts calm = absurd calm
call-lanes {w = w} {h = h} {port = port} CallChange.polls calm = polled-lanes (node_at w h) port (client_at w h port)

node-same : (w : WorldState) (a : Act) → IsNoSend a → (h : ℕ) (m : NodeState) → NodeChange w a h m → SentSame (node_at w h) m
node-same w a calm h m (NodeChange.itself k) = host-same k
node-same w a calm h m (NodeChange.hears packet j d e) = heard-same j (host_count w) (node_at w j) packet.wire m (hear-is j (host_count w) (node_at w j) packet.wire)
node-same w a calm h m (NodeChange.sends c out d e) = sending-same (node_at w h) out
node-same w a calm h m (NodeChange.calls k) = lanes-same (node_at w h) m (call-lanes k calm)
node-same w a calm h m NodeChange.adopts = record { each = λ k. refl }

-- what an act makes of a connection
pub record Grows (w : WorldState) (a : Act) : Type 0 where
  pub each : (c : ConnectionKey) → sent_on (acted w a) c ≡ sent_on w c ++ accepted_by c w a

pub calm-grows : (w : WorldState) (a : Act) → IsNoSend a → Grows w a
calm-grows w a calm = record {
  each = λ c.
      (each_node (λ h. SentSame (node_at w h)) (nodes_view w a) (λ h. record { each = λ k. refl }) (node-same w a calm) c.src).each (sending_lane c)
      ∙ sym (append-nil (sent_on w c)) ∙ ap (λ l. sent_on w c ++ l) (sym (none-accepted c w a calm));
}

-- What a send leaves: all as it was, and nothing accepted; or its message after those of its lane.
data IsSend (n : NodeState) (s : Wanted) (call : Called) : Type 0 where
  rests : call.node ≡ n → in_send (wanted_message s) (Says call.said) ≡ [] → IsSend n s call
  accepts : (p : PortState) (q : LaneState) → port_at n s.port ≡ Some p → is_none (table_route n.table s.dest) ≡ false → call.node.lanes ≡ set n.lanes (wanted_lane s) q → q.sent ≡ (lane_at n (wanted_lane s)).sent ++ wanted_message s ∷ []
      → in_send (wanted_message s) (Says call.said) ≡ wanted_message s ∷ [] → IsSend n s call

sent_by-is : (n : NodeState) (s : Wanted) (c : Option ClientState) → IsSend n s (sent_by n s c)
unfolding sent_by
sent_by-is n s c = by c (port_at n s.port) refl
  where
    unless : (p : PortState) (d : ClientState) (t : ℕ) (ts : List ℕ) (o : Option ClientCause) → port_at n s.port ≡ Some p → send_refusal n s ≡ o → IsSend n s (send_unless n s p d t ts o)
    unless p d t ts (Some cause) e f = IsSend.rests refl refl
    unless p d t ts None e f = IsSend.accepts p (with_message (lane_at n (wanted_lane s)) (wanted_message s) (record { port = s.port; token = t })) e (not_refused-acceptable n s f).routed refl refl refl

    with : (p : PortState) (d : ClientState) (ts : List ℕ) → port_at n s.port ≡ Some p → IsSend n s (send_with n s p d ts)
    with p d [] e = IsSend.rests refl refl
    with p d (t ∷ ts) e = unless p d t ts (send_refusal n s) e refl

    by : (c : Option ClientState) (o : Option PortState) → port_at n s.port ≡ o → IsSend n s (send_open n s c o)
    by (Some d) (Some p) e = with p d d.sends e
    by (Some d) None e = IsSend.rests refl refl
    by None o e = IsSend.rests refl refl

apart-lanes : (dest prio dst of : ℕ) → (nat_eq dest dst && nat_eq (prio_place prio) (prio_place of)) ≡ false → lane_of dst of ≢ lane_of dest prio
apart-lanes dest prio dst of e = by (nat_eq dest dst) (nat_eq (prio_place prio) (prio_place of)) refl refl e
  where
    by : (a b : Bool) → nat_eq dest dst ≡ a → nat_eq (prio_place prio) (prio_place of) ≡ b → (a && b) ≡ false → lane_of dst of ≢ lane_of dest prio
    by true true f g t = cc
    by true false f g t = λ d. grind (arith, nat_tests)
    by false b f g t = λ d. grind (arith, nat_tests)

module _ (n : Network) (w : WorldState) (r : IsReached n w) (h port dest dport prio len seed : ℕ) where
  abbrev s : Wanted
  s = wanted port dest dport prio len seed

  abbrev call : Called
  call = sent_by (node_at w h) s (client_at w h port)

  abbrev v : WorldState
  v = acted w (Happens (Send h port dest dport prio len seed))

  abbrev said : List Message
  said = in_send (wanted_message s) (Says call.said)

  choose : (b : Bool) (l : List Message) → l ≡ [] → (if b then l else []) ≡ []
  choose true l e = e
  choose false l e = refl

  inside : (p : PortState) → port_at (node_at w h) port ≡ Some p → h < length n.hosts
  inside p e = by (nat_lt h (length n.hosts)) refl
    where
      by : (b : Bool) → nat_lt h (length n.hosts) ≡ b → h < length n.hosts
      by true f = grind (arith, nat_tests)
      by false f =
          let past : length n.hosts ≤ h = grind (arith, nat_tests) in
          let count = reached-count n w r in
          let is : node_at w h ≡ new_node 0 = get_or_past w.nodes h (new_node 0) (omega (arith, count, past)) in
          let closed : port_at (node_at w h) port ≡ None = ap (λ x. port_at x port) is ∙ each-replicate (λ (o : Option PortState). o ≡ None) port_count port None None refl refl in
          cc

  at : (c : ConnectionKey) → IsSend (node_at w h) s call → sent_on v c ≡ sent_on w c ++ (if is_sent_on c h dest prio then said else [])
  at c (IsSend.rests e none) =
      let same : node_at v c.src ≡ node_at w c.src = ap (λ x. get_or (set w.nodes h x) c.src (new_node 0)) e ∙ ap (λ l. get_or l c.src (new_node 0)) (set-get_or w.nodes h (new_node 0)) in
      ap (λ (x : NodeState). (lane_at x (sending_lane c)).sent) same ∙ sym (append-nil (sent_on w c)) ∙ ap (λ l. sent_on w c ++ l) (sym (choose (is_sent_on c h dest prio) said none))
  at c (IsSend.accepts p q e route lanes sent one) = by (nat_eq h c.src) (nat_eq dest c.dst && nat_eq (prio_place prio) (prio_place c.prio)) refl refl
    where
      m : NodeState
      m = node_at w h

      low : h < length n.hosts
      low = inside p e

      there : h < host_count w
      there = let count = reached-count n w r in omega (arith, low, count)

      now : node_at v h ≡ call.node
      now = get_or-set_same w.nodes h call.node (new_node 0) there

      k : ℕ
      k = wanted_lane s

      in_lanes : k < length m.lanes
      in_lanes = let known = reached-known n w h r low in subst (λ count. k < count) (sym known.lanes) (lane_of-below (host_count w) dest prio (known.routed dest route))

      same : (l : List Message) (x : Bool) → is_sent_on c h dest prio ≡ x → l ≡ (if x then said else []) → sent_on w c ++ l ≡ sent_on w c ++ (if is_sent_on c h dest prio then said else [])
      same l x f g = ap (λ y. sent_on w c ++ y) (g ∙ ap (λ y. if y then said else []) (sym f))

      by : (a b : Bool) → nat_eq h c.src ≡ a → (nat_eq dest c.dst && nat_eq (prio_place prio) (prio_place c.prio)) ≡ b → sent_on v c ≡ sent_on w c ++ (if is_sent_on c h dest prio then said else [])
      by false b f g =
          let other : c.src ≢ h = (λ d. grind (arith, nat_tests)) in
          ap (λ (x : NodeState). (lane_at x (sending_lane c)).sent) (get_or-set_other w.nodes h c.src call.node (new_node 0) other)
          ∙ sym (append-nil (sent_on w c)) ∙ same [] false (ap (λ y. y && (nat_eq dest c.dst && nat_eq (prio_place prio) (prio_place c.prio))) f) refl
      by true false f g =
          let here : h ≡ c.src = grind (arith, nat_tests) in
          let other : sending_lane c ≢ k = apart-lanes dest prio c.dst c.prio g in
          ap (λ i. (lane_at (node_at v i) (sending_lane c)).sent) (sym here) ∙ ap (λ (x : NodeState). (lane_at x (sending_lane c)).sent) now
          ∙ ap (λ l. (get_or l (sending_lane c) new_lane).sent) lanes ∙ ap (λ (x : LaneState). x.sent) (get_or-set_other m.lanes k (sending_lane c) q new_lane other)
          ∙ ap (λ i. (lane_at (node_at w i) (sending_lane c)).sent) here ∙ sym (append-nil (sent_on w c))
          ∙ same [] false (λ i. f i && g i) refl
      by true true f g =
          let here : h ≡ c.src = grind (arith, nat_tests) in
          let both = both (nat_eq dest c.dst) (nat_eq (prio_place prio) (prio_place c.prio)) g in
          let a = both.0 in
          let b = both.1 in
          let lane : k ≡ sending_lane c = grind (arith, nat_tests) in
          ap (λ i. (lane_at (node_at v i) (sending_lane c)).sent) (sym here) ∙ ap (λ (x : NodeState). (lane_at x (sending_lane c)).sent) now
          ∙ ap (λ l. (lane_at call.node l).sent) (sym lane) ∙ ap (λ (x : LaneState). x.sent) (lane-new m call.node k q lanes in_lanes) ∙ sent
          ∙ ap (λ l. (lane_at m l).sent ++ wanted_message s ∷ []) lane ∙ ap (λ i. (lane_at (node_at w i) (sending_lane c)).sent ++ wanted_message s ∷ []) here
          ∙ same (wanted_message s ∷ []) true (λ i. f i && g i) (sym one)

  send-grows : Grows w (Happens (Send h port dest dport prio len seed))
  send-grows = record { each = λ c. at c (sent_by-is (node_at w h) s (client_at w h port)) }

acted-grows : (n : Network) (w : WorldState) (a : Act) → IsReached n w → Grows w a
acted-grows n w (Happens (Send h port dest dport prio len seed)) r = send-grows n w r h port dest dport prio len seed
acted-grows n w a r = calm-grows w a tt

-- each act may happen in turn
all-accepted : (n : Network) (w : WorldState) (acts : List Act) (c : ConnectionKey) → IsReached n w → MayActAll w acts → sent_on (acted_all w acts) c ≡ sent_on w c ++ accepted_in c w acts
all-accepted n w [] c r may = sym (append-nil (sent_on w c))
all-accepted n w (a ∷ acts) c r may =
    all-accepted n (acted w a) acts c (reached-next n w a r may.0) may.1 ∙ ap (λ l. l ++ accepted_in c (acted w a) acts) ((acted-grows n w a r).each c) ∙ append_assoc (sent_on w c) (accepted_by c w a) (accepted_in c (acted w a) acts)

new-sent : (n : Network) (c : ConnectionKey) → sent_on (new_world n) c ≡ []
new-sent n c = each-replicate (λ (x : NodeState). (lane_at x (sending_lane c)).sent ≡ []) (length n.hosts) c.src (new_node (length n.hosts)) (new_node 0) (one (length n.hosts)) (one 0)
  where
    one : (k : ℕ) → (lane_at (new_node k) (sending_lane c)).sent ≡ []
    one k = each-replicate (λ (l : LaneState). l.sent ≡ []) (lane_count k) (sending_lane c) new_lane new_lane refl refl

pub accepted-sent : AcceptedIsSent
accepted-sent n w is c =
    sym (ap (λ v. sent_on v c) is.leads ∙ all-accepted n (new_world n) is.acts c (reached-new n is.fabric) is.may ∙ ap (λ l. l ++ accepted_in c (new_world n) is.acts) (new-sent n c))
