-- Every act leaves the received events of each port of messages that were got.
use Rattle.std.proofs.Common.{◌≡◌, ◌<◌, ◌≤◌, ◌+◌, ℕ, Bool, true, false, List, [], ◌∷◌, ◌++◌, length, take, drop, get_or, set, nat_eq, nat_lt, Option, Some, None, option_map, Ok, refl, sym, ap, ◌∙◌, subst, arith, length-append, true≢false, if◌then◌else◌}
use Rattle.std.specs.Prelude.{find, slice_get}
use Rattle.std.specs.List.{AllByRecursion}
use Rattle.std.proofs.lemmas.Bool.Decides.{nat_tests}
use Rattle.std.proofs.lemmas.List.{get_or_past, drop-drop}
use Rattle.net_defs.specs.Network.{Network}
use Rattle.packet_defs.specs.declared.kind.Kind.TheVariants.{Gm}
use Rattle.packet_defs.specs.Host.{decode as decode_packet}
use Rattle.gm_defs.specs.declared.message.Message.{Message}
use Rattle.gm_defs.specs.declared.frame.FrameHead.{FrameHead}
use Rattle.gm_defs.specs.declared.token.Took.{Took}
use Rattle.gm_defs.specs.declared.token.Took.TheVariants.{NotNext, NoToken, Part, Whole}
use Rattle.gm_defs.specs.Body.{is_last, decode, part_in}
use Rattle.gm_defs.specs.declared.frame.GmBody.TheVariants.{Frame}
use Rattle.gm_defs.specs.Fragment.{IsHonestFrame}
use Rattle.gm_defs.specs.Connection.{taken_as, took}
use Rattle.gm_defs.specs.Token.{Provided, PortEvent, Sent, Received, PortState, is_size, size_for_length, fits, takes_at, taker}
use Rattle.gm_defs.specs.Port.{finished, filled, delivered, sent_with}
use Rattle.gm_defs.proofs.Choices.{both}
use Rattle.gm_defs.proofs.Takers.{found, passes-taker}
use Rattle.world_defs.specs.Lane.{LaneState, Ticket, new_lane, ending, with_message, lane_acknowledged, tickets_finished, lane_expired, lane_sent_one, lane_answered, lane_after}
use Rattle.world_defs.specs.Node.{NodeState, Outgoing, Probe, TablePart, Reply, PartAnswer, FrameAnswer, Fragment, lane_count, lane_of, lane_at, with_lane, port_at, with_port, after_sending, with_expired, node_expired, new_node, port_count}
use Rattle.world_defs.specs.Hearing.{port_takes, message_of, frame_lane, ack_lane, delivered_after, frame_took, all_finished}
use Rattle.world_defs.specs.Client.{ClientState, Called, Wanted, wanted_message, wanted_lane, client_bytes, empty_buffer, send_accepted}
use Rattle.world_defs.specs.World.{WorldState, host_count, new_world, node_at}
use Rattle.world_defs.specs.Sound.{IsPrefix}
use Rattle.world_defs.specs.Traffic.{sent_on}
use Rattle.world_defs.specs.Acts.{Act, acted, IsReached}
use Rattle.message_laws.specs.Says.{SaysTrue}
use Rattle.message_laws.proofs.Lanes.{front-same}
use Rattle.message_laws.proofs.Worlds.{to_host}
use Rattle.gm_defs.proofs.Found.{joined, joined-front}
use Rattle.message_laws.proofs.Fillings.{IsNext, read-prio, reached-next, reached-held}
use Rattle.world_defs.proofs.Lists.{each-set, each-replicate}
use Rattle.world_defs.proofs.Lanes.{lane_of-below}
use Rattle.message_laws.proofs.Heard.{IsHeard, quietly, of_frame, of_ack, hear-is}
use Rattle.message_laws.proofs.Hosts.{Rules, Goes, acted-goes}
use Rattle.world_defs.proofs.Hearings.{all_finished-lanes}
use Rattle.world_defs.proofs.Reaching.{reached-has}
use Rattle.message_laws.proofs.Windows.{reached-windowed}
use Rattle.message_laws.specs.Untouched.{IsUntouched}
use Rattle.message_laws.specs.Received.{IsOfMessage, ReceivedEventsAreOfMessages}
use Rattle.message_laws.proofs.Calls.{IsCall, CallDoes, call-does}
use Rattle.ticket_laws.proofs.Hosts.{lane-new}
use Rattle.message_laws.proofs.Events.{AreAll, all-more, PortStill, port-same, called-still, finished-still, delivered-still, event-at, ports-same, ports-set}
use Rattle.message_laws.proofs.Buffers.{least-size, HoldsFront, taker-holds, read-within, read-last, provided-untouched}
use Rattle.message_laws.proofs.Known.{reached-count, reached-known}
use Rattle.message_laws.proofs.Frames.{get-front}
use Rattle.ticket_laws.proofs.Lists.{get-last}

-- an event is of a message that was got by the lane of its sender and its priority
abbrev IsEventOf : (ℕ → List Message) → ℕ → PortEvent → Type 0
IsEventOf got port (Sent t b) = Unit {0}
IsEventOf got port (Received t b from sport prio len) = IsOfMessage (λ a. got (lane_of a prio)) port b from sport prio len

abbrev AreOf : (ℕ → List Message) → ℕ → Option PortState → Type 0
AreOf got port o = AreAll (IsEventOf got port) o

-- more is got
event-more : (G H : ℕ → List Message) (port : ℕ) → ((k : ℕ) → IsPrefix (G k) (H k)) → (e : PortEvent) → IsEventOf G port e → IsEventOf H port e
event-more G H port more (Sent t b) is = tt
event-more G H port more (Received t b from sport prio len) is = record {
  place = is.place;
  message = is.message;
  size = is.size;
  there = ap (λ l. slice_get l is.place) (more (lane_of from prio)).both ∙ get-front (G (lane_of from prio)) (more (lane_of from prio)).rest is.place is.message is.there;
  to_port = is.to_port;
  from_port = is.from_port;
  priority = is.priority;
  long = is.long;
  least = is.least;
  bytes = is.bytes;
}

-- what a host got by a lane
abbrev got_at : NodeState → ℕ → List Message
got_at n k = (lane_at n k).got

record AllOf (n : NodeState) : Type 0 where
  each : (port : ℕ) → AreOf (got_at n) port (port_at n port)

-- more is got, and each port goes on so
record HostGoes (n m : NodeState) : Type 0 where
  more : (k : ℕ) → IsPrefix (got_at n k) (got_at m k)
  ports : (port : ℕ) → PortStill (IsEventOf (got_at m) port) (port_at n port) (port_at m port)

all-of : (n m : NodeState) → HostGoes n m → AllOf n → AllOf m
all-of n m g is = record { each = λ port. (g.ports port).still (all-more (IsEventOf (got_at n) port) (IsEventOf (got_at m) port) (event-more (got_at n) (got_at m) port g.more) (port_at n port) (is.each port)) }

got-same : (n m : NodeState) → m.lanes ≡ n.lanes → (k : ℕ) → IsPrefix (got_at n k) (got_at m k)
got-same n m e k = subst (λ l. IsPrefix (got_at n k) (get_or l k new_lane).got) (sym e) (front-same (got_at n k))

got-set : (n m : NodeState) (k : ℕ) (q : LaneState) → m.lanes ≡ set n.lanes k q → IsPrefix (got_at n k) q.got → (j : ℕ) → IsPrefix (got_at n j) (got_at m j)
got-set n m k q e here j =
    subst (λ l. IsPrefix (got_at n j) (get_or l j new_lane).got) (sym e) (each-set (λ i x. IsPrefix (got_at n i) x.got) n.lanes k j q new_lane here (λ i. front-same (got_at n i)))

quiet-goes : (n m : NodeState) → m.lanes ≡ n.lanes → m.ports ≡ n.ports → HostGoes n m
quiet-goes n m e f = record { more = got-same n m e; ports = ports-same (IsEventOf (got_at m)) n m f }

lane-goes : (n : NodeState) (k : ℕ) (q : LaneState) → IsPrefix (got_at n k) q.got → HostGoes n (with_lane n k q)
lane-goes n k q here = record { more = got-set n (with_lane n k q) k q refl here; ports = ports-same (IsEventOf (got_at (with_lane n k q))) n (with_lane n k q) refl }

all-finished : (got : ℕ → List Message) (n : NodeState) (ts : List Ticket) (port : ℕ) → PortStill (IsEventOf got port) (port_at n port) (port_at (all_finished n ts) port)
all-finished got n [] port = port-same (IsEventOf got port) (port_at n port)
all-finished got n (t ∷ ts) port =
    let o : Option PortState = option_map (λ p. finished p t.token) (port_at n t.port) in
    let m : NodeState = with_port n t.port o in
    let one : PortStill (IsEventOf got port) (port_at n port) (port_at m port) = ports-set (IsEventOf got) n m t.port o refl (finished-still (IsEventOf got t.port) t.token (port_at n t.port) (λ p s e d. tt)) port in
    let rest : PortStill (IsEventOf got port) (port_at m port) (port_at (all_finished m ts) port) = all-finished got m ts port in
    record { still = λ a. rest.still (one.still a) }

pub found-all : (P : Provided → Type 0) (test : Provided → Bool) (xs : List Provided) (y : Provided) → AllByRecursion P xs → find test xs ≡ Some y → P y
found-all P test [] y all e = cc
found-all P test (x ∷ xs) y all e = by (test x) (found-all P test xs y all.1) e
  where
    by : (b : Bool) → (find test xs ≡ Some y → P y) → (if b then Some x else find test xs) ≡ Some y → P y
    by true rest d = let same : x ≡ y = cc in subst P same all.0
    by false rest d = rest d

-- each provided buffer of a host's ports is untouched
abbrev pub HasUntouched : NodeState → Type 0
HasUntouched n = (port : ℕ) (p : PortState) → port_at n port ≡ Some p → AllByRecursion IsUntouched p.provided

-- What is known of a fragment that the port of a host takes: what came before it stands in the buffer of the token that takes it.
pub record IsCarried (n : NodeState) (h : FrameHead) (part : List ℕ) : Type 0 where
  pub within : h.offset + length part ≤ h.total
  pub last : is_last h.total h.offset ≡ true → h.offset + length part ≡ h.total
  pub before : length (lane_at n (frame_lane h)).coming ≡ h.offset
  pub held : (p : PortState) (r : Provided) → port_at n h.dport ≡ Some p → taker p h ≡ Some r → take h.offset r.buffer ≡ (lane_at n (frame_lane h)).coming

-- what a receiver made of a fragment says whether it is its message's last
pub whole-took : (taken seq : ℕ) (fits last : Bool) → took taken seq fits last ≡ Whole → (seq ≡ taken) × ((fits ≡ true) × (last ≡ true))
whole-took taken seq fits last e = by (nat_eq seq taken) fits last refl e
  where
    by : (a b c : Bool) → nat_eq seq taken ≡ a → (if a then if b then taken_as c else NoToken else NotNext) ≡ Whole → (seq ≡ taken) × ((b ≡ true) × (c ≡ true))
    by true true true d f = (grind (arith, nat_tests), (refl, refl))
    by true true false d f = cc
    by true false c d f = cc
    by false b c d f = cc

pub part-took : (taken seq : ℕ) (fits last : Bool) → took taken seq fits last ≡ Part → last ≡ false
part-took taken seq fits last e = by (nat_eq seq taken) fits last e
  where
    by : (a b c : Bool) → (if a then if b then taken_as c else NoToken else NotNext) ≡ Part → c ≡ false
    by true true true f = cc
    by true true false f = refl
    by true false c f = cc
    by false b c f = cc

module _ (n : NodeState) (hosts : ℕ) (long : length n.lanes ≡ lane_count hosts) (untouched : HasUntouched n) where
  -- a fragment that ends a message
  frame-goes : (h : FrameHead) (part : List ℕ) (t : Took) → h.src < hosts → (t ≡ Part → is_last h.total h.offset ≡ false) → (t ≡ Whole → (is_last h.total h.offset ≡ true) × IsCarried n h part) → HostGoes n (delivered_after (with_lane n (frame_lane h) (lane_after (lane_at n (frame_lane h)) t (message_of h part))) h part t)
  frame-goes h part NotNext low earlier whole = lane-goes n (frame_lane h) (lane_after (lane_at n (frame_lane h)) NotNext (message_of h part)) (front-same (got_at n (frame_lane h)))
  frame-goes h part NoToken low earlier whole = lane-goes n (frame_lane h) (lane_after (lane_at n (frame_lane h)) NoToken (message_of h part)) (front-same (got_at n (frame_lane h)))
  frame-goes h part Part low earlier whole = record {
    more = got-set n m (frame_lane h) q refl (front-same (got_at n (frame_lane h)));
    ports = ports-set (IsEventOf (got_at m)) n m h.dport (option_map (λ p. delivered p h part) (port_at n h.dport)) refl (delivered-still (IsEventOf (got_at m) h.dport) h part (port_at n h.dport) (λ p r e f t. absurd (true≢false (sym t ∙ earlier refl))));
  }
    where
      q : LaneState
      q = lane_after (lane_at n (frame_lane h)) Part (message_of h part)

      m : NodeState
      m = delivered_after (with_lane n (frame_lane h) q) h part Part
  frame-goes h part Whole low earlier whole = record {
    more = got-set n m (frame_lane h) q refl (record { rest = message ∷ []; both = refl });
    ports = ports-set (IsEventOf (got_at m)) n m h.dport (option_map (λ p. delivered p h part) (port_at n h.dport)) refl (delivered-still (IsEventOf (got_at m) h.dport) h part (port_at n h.dport) new);
  }
    where
      l : LaneState
      l = lane_at n (frame_lane h)

      q : LaneState
      q = lane_after l Whole (message_of h part)

      m : NodeState
      m = delivered_after (with_lane n (frame_lane h) q) h part Whole

      k : ℕ
      k = frame_lane h

      message : Message
      message = ending l.coming (message_of h part)

      now : got_at m k ≡ got_at n k ++ message ∷ []
      now = ap (λ x. x.got) (lane-new n m k q refl (subst (λ count. k < count) (sym long) (lane_of-below hosts h.src h.prio low)))

      carried : IsCarried n h part
      carried = (whole refl).1

      total : length (l.coming ++ part) ≡ h.total
      total = let a = length-append l.coming part in let b = carried.before in let c = carried.last (whole refl).0 in omega (arith, a, b, c)

      new : (p : PortState) (r : Provided) → port_at n h.dport ≡ Some p → taker p h ≡ Some r → is_last h.total h.offset ≡ true → IsOfMessage (λ a. got_at m (lane_of a h.prio)) h.dport (filled r.buffer h.offset part) h.src h.sport h.prio h.total
      new p r e f t =
          let it = found (takes_at p h) p.provided r f in
          let clean : IsUntouched r = found-all IsUntouched (takes_at p h) p.provided r (untouched h.dport p e) f in
          let k : HoldsFront h r = taker-holds p h r (passes-taker p h r it.passes) clean in
          let front : take h.offset r.buffer ≡ l.coming = carried.held p r e f in
          let rest : drop (h.offset + length part) r.buffer ≡ drop (h.offset + length part) (empty_buffer r.size) =
          sym (drop-drop (length part) h.offset r.buffer) ∙ ap (drop (length part)) (ap (λ i. drop i r.buffer) (sym k.held) ∙ clean.others ∙ ap (λ i. drop i (empty_buffer r.size)) k.held) ∙ drop-drop (length part) h.offset (empty_buffer r.size) in
          let end : h.offset + length part ≡ 0 + length (l.coming ++ part) = let c = carried.last t in omega (arith, c, total) in
          record {
            place = length (got_at n (frame_lane h));
            message = message;
            size = r.size;
            there = ap (λ l. slice_get l (length (got_at n (frame_lane h)))) now ∙ get-last (got_at n (frame_lane h)) message;
            to_port = refl;
            from_port = refl;
            priority = refl;
            long = total;
            least = least-size r.size (size_for_length h.total) (both (is_size r.size (size_for_length h.total)) (nat_eq r.prio h.prio) k.fitting).0;
            bytes = (λ i. joined (front i) part (rest i)) ∙ joined-front l.coming part (drop (h.offset + length part) (empty_buffer r.size)) ∙ ap (λ i. (l.coming ++ part) ++ drop i (empty_buffer r.size)) end;
          }

  -- all that is read is so
  heard-goes : (host : ℕ) (wire : List ℕ) (m : NodeState) → ((body : List ℕ) (h : FrameHead) → decode_packet wire ≡ Ok (Gm, body) → decode body ≡ Ok (Frame h) → h.dst ≡ host → h.seq ≡ (lane_at n (frame_lane h)).taken → IsCarried n h (part_in body)) → IsHeard host hosts n wire m → HostGoes n m
  heard-goes host wire m good (quietly e f) = quiet-goes n m e f
  heard-goes host wire m good (of_frame body h e d mine low now) =
      subst (HostGoes n) (sym now)
      (frame-goes h (part_in body) (frame_took n h) low (part-took (lane_at n (frame_lane h)).taken h.seq (port_takes (port_at n h.dport) h) (is_last h.total h.offset))
      (λ t. let k = whole-took (lane_at n (frame_lane h)).taken h.seq (port_takes (port_at n h.dport) h) (is_last h.total h.offset) t in (k.1.1, good body h e d mine k.0)))
  heard-goes host wire m good (of_ack body a e d mine low now) =
      let v : NodeState = with_lane n (ack_lane a) (lane_acknowledged (lane_at n (ack_lane a)) a.next) in
      let gone : List Ticket = tickets_finished (lane_at n (ack_lane a)) a.next in
      let after : NodeState = all_finished v gone in
      let goes : HostGoes n after = record {
        more = got-set n after (ack_lane a) (lane_acknowledged (lane_at n (ack_lane a)) a.next) (all_finished-lanes v gone) (front-same (got_at n (ack_lane a)));
        ports = all-finished (got_at after) v gone;
      } in
      subst (HostGoes n) (sym now) goes

module _ (n : NodeState) where
  sending-goes : (out : Outgoing) → HostGoes n (after_sending n out)
  unfolding after_sending
  sending-goes (Probe walk looped) = quiet-goes n (record n { staged = None }) refl refl
  sending-goes (TablePart part by) = quiet-goes n (record n { staged = None }) refl refl
  sending-goes (Reply r) = quiet-goes n (record n { reply = None }) refl refl
  sending-goes (PartAnswer a) = quiet-goes n (record n { part_ack = None }) refl refl
  sending-goes (FrameAnswer lane next by) = lane-goes n lane (lane_answered (lane_at n lane)) (front-same (got_at n lane))
  sending-goes (Fragment lane head part by) = lane-goes n lane (lane_sent_one (lane_at n lane)) (front-same (got_at n lane))

  call-goes : (port : ℕ) (call : Called) → IsCall n port call → call.node.lanes ≡ n.lanes → HostGoes n call.node
  call-goes port call is e = record { more = got-same n call.node e; ports = ports-set (IsEventOf (got_at call.node)) n call.node port is.after is.ports (called-still (IsEventOf (got_at call.node) port) (port_at n port) is.after is.change) }

  send-goes : (s : Wanted) (p : PortState) (c : ClientState) (t : ℕ) (ts : List ℕ) → port_at n s.port ≡ Some p → HostGoes n (send_accepted n s p c t ts).node
  send-goes s p c t ts e =
      let m : NodeState = (send_accepted n s p c t ts).node in
      let q : LaneState = with_message (lane_at n (wanted_lane s)) (wanted_message s) (record { port = s.port; token = t }) in
      record {
        more = got-set n m (wanted_lane s) q refl (front-same (got_at n (wanted_lane s)));
        ports = ports-set (IsEventOf (got_at m)) n m s.port (Some (sent_with p t (client_bytes s.len s.seed))) refl (record { still = λ a. subst (AreOf (got_at m) s.port) e a });
      }

  -- fragments are sent again, of one lane and of both of a peer
  expired-goes : (lane : ℕ) → HostGoes n (with_expired n lane)
  expired-goes lane = lane-goes n lane (lane_expired (lane_at n lane)) (front-same (got_at n lane))

  called-goes : {c : Option ClientState} {port : ℕ} {call : Called} → CallDoes n c port call → HostGoes n call.node
  called-goes (CallDoes.at_port {port = port} {call = call} i e) = call-goes port call i e
  called-goes (CallDoes.accepts s p d t ts e f g k) = send-goes s p d t ts e

expires-kept : (n : NodeState) (peer : ℕ) → AllOf n → AllOf (node_expired n peer)
expires-kept n peer is =
    let m : NodeState = with_expired n (lane_of peer 0) in
    all-of m (node_expired n peer) (expired-goes m (lane_of peer 1)) (all-of n m (expired-goes n (lane_of peer 0)) is)

-- a change of a host of the fabric
record Still (count h : ℕ) (n m : NodeState) : Type 0 where
  still : h < count → AllOf n → AllOf m

abbrev StillOf : Network → ℕ → NodeState → NodeState → Type 0
StillOf n h a b = Still (length n.hosts) h a b

pub carried : (n : Network) (w : WorldState) → IsReached n w → (host : ℕ) (body : List ℕ) (h : FrameHead) → IsHonestFrame (sent_on w) h (part_in body) → decode body ≡ Ok (Frame h) → h.dst ≡ host → h.seq ≡ (lane_at (node_at w host) (frame_lane h)).taken → IsCarried (node_at w host) h (part_in body)
carried n w is host body h honest d mine seq =
    let k : IsNext (to_host w host (frame_lane h)) (lane_at (node_at w host) (frame_lane h)) h (part_in body) = reached-next n w is host h (part_in body) honest mine seq in
    record { within = read-within body h d; last = read-last body h d; before = k.offset; held = reached-held n w is host h (part_in body) (read-prio body h d) honest mine seq }

event-rules : (n : Network) (w : WorldState) → IsReached n w → Rules w (SaysTrue (sent_on w)) (StillOf n)
event-rules n w is = record {
  quiet = λ h m e f. record { still = λ low. all-of (node_at w h) m (quiet-goes (node_at w h) m e f) };
  hears = λ h wire good. record {
    still = λ low.
        all-of (node_at w h) _
        (heard-goes (node_at w h) (host_count w) (reached-known n w h is low).lanes (provided-untouched n w is h) h wire _ (λ body x e d mine seq. carried n w is h body x (good Gm body e x d) d mine seq) (hear-is h (host_count w) (node_at w h) wire));
  };
  sends = λ h out e. record { still = λ low. all-of (node_at w h) _ (sending-goes (node_at w h) out) };
  expires = λ h peer. record { still = λ low. expires-kept (node_at w h) peer };
  calls = λ h port call k. record { still = λ low. all-of (node_at w h) _ (called-goes (node_at w h) (call-does k)) };
}

-- the invariant
record HasMessages (n : Network) (w : WorldState) : Type 0 where
  hosts : (h : ℕ) → h < length n.hosts → AllOf (node_at w h)

acted-messages : (n : Network) (w : WorldState) (a : Act) → IsReached n w → HasMessages n w → HasMessages n (acted w a)
acted-messages n w a r is =
    let g : Goes (StillOf n) w (acted w a) = acted-goes w (SaysTrue (sent_on w)) (StillOf n) (event-rules n w r) a (reached-windowed n w r).ordered.links in
    record { hosts = λ h low. (g.nodes h).still low (is.hosts h low) }

new-of : (k : ℕ) → AllOf (new_node k)
new-of k = record { each = λ port. each-replicate (AreOf (got_at (new_node k)) port) port_count port None None tt tt }

reached-of : (n : Network) (w : WorldState) → IsReached n w → (h : ℕ) → AllOf (node_at w h)
reached-of n w is h = by (nat_lt h (length n.hosts)) refl
  where
    k : ℕ
    k = length n.hosts

    start : HasMessages n (new_world n)
    start = record { hosts = λ j low. each-replicate AllOf k j (new_node k) (new_node 0) (new-of k) (new-of 0) }

    all : HasMessages n w
    all = reached-has (HasMessages n) n start (λ w a r may. acted-messages n w a r) w is

    by : (b : Bool) → nat_lt h (length n.hosts) ≡ b → AllOf (node_at w h)
    by true e = all.hosts h (grind (arith, nat_tests))
    by false e =
        let count = reached-count n w is in
        let past : length n.hosts ≤ h = grind (arith, nat_tests) in
        subst AllOf (sym (get_or_past w.nodes h (new_node 0) (omega (arith, count, past)))) (new-of 0)

pub received-messages : ReceivedEventsAreOfMessages
received-messages n w is h port place p t buffer from sport prio len e d =
    event-at (IsEventOf (got_at (node_at w h)) port) p.events place (Received t buffer from sport prio len) (subst (AreOf (got_at (node_at w h)) port) e ((reached-of n w is h).each port)) d
