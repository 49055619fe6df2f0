-- What a change of a host makes of the messages that wait at its ports, and of those that it got.
use Rattle.std.proofs.Common.{◌≡◌, ◌≢◌, ◌<◌, ◌+◌, ℕ, zero, suc, Bool, true, false, ◌&&◌, List, [], ◌∷◌, ◌++◌, map, length, take, drop, get_or, set, nat_eq, Option, Some, None, option_map, is_some, Ok, refl, sym, ap, ◌∙◌, subst, arith, length-append, true≢false, if◌then◌else◌}
use Rattle.std.specs.Prelude.{slice_get}
use Rattle.std.specs.List.{filter}
use Rattle.std.proofs.lemmas.Bool.Decides.{nat_tests}
use Rattle.std.proofs.lemmas.List.{get_or-set_other, take_at, append_assoc, append-nil, map-append}
use Rattle.std.proofs.lemmas.Option.{same_Some}
use Rattle.packet_defs.specs.declared.kind.Kind.TheVariants.{Gm}
use Rattle.packet_defs.specs.Host.{decode as decode_packet}
use Rattle.gm_defs.specs.declared.message.Message.{Message}
use Rattle.gm_defs.specs.declared.frame.FrameHead.{FrameHead}
use Rattle.gm_defs.specs.declared.frame.GmBody.TheVariants.{Frame}
use Rattle.gm_defs.specs.declared.token.Took.{Took}
use Rattle.gm_defs.specs.declared.token.Took.TheVariants.{NotNext, NoToken, Part, Whole}
use Rattle.gm_defs.specs.Body.{is_last, decode, part_in}
use Rattle.gm_defs.specs.Token.{Provided, Sending, PortEvent, Sent, Received, PortState, taker, opened}
use Rattle.gm_defs.specs.Port.{send_of, ended_by, ended_with, going_on_with, finished, filled, delivered, sent_with, taken_by, provided_with, polled}
use Rattle.gm_defs.proofs.Takers.{Delivery, delivery}
use Rattle.gm_defs.proofs.Choices.{both}
use Rattle.gm_defs.proofs.Found.{filter-append}
use Rattle.world_defs.specs.declared.effect.Said.{Said}
use Rattle.world_defs.specs.declared.effect.Said.TheVariants.{Received as SaidReceived}
use Rattle.world_defs.specs.Lane.{LaneState, Ticket, new_lane, ending, with_message, lane_acknowledged, tickets_finished, lane_expired, lane_sent_one, lane_answered, lane_after}
use Rattle.world_defs.specs.Node.{NodeState, Outgoing, Probe, TablePart, Reply, PartAnswer, FrameAnswer, Fragment, lane_count, lane_of, lane_at, with_lane, port_at, with_port, after_sending, with_expired, node_expired}
use Rattle.world_defs.specs.Hearing.{port_takes, message_of, frame_lane, ack_lane, delivered_after, frame_took, all_finished}
use Rattle.world_defs.specs.Client.{ClientState, Called, wanted_message, wanted_lane, client_bytes, empty_buffer, send_accepted}
use Rattle.world_defs.proofs.Lists.{each-set}
use Rattle.world_defs.proofs.Lanes.{lane_of-below}
use Rattle.world_defs.proofs.Calls.{Call}
use Rattle.message_laws.proofs.Heard.{IsHeard, quietly, of_frame, of_ack}
use Rattle.world_defs.proofs.Hearings.{all_finished-lanes}
use Rattle.message_laws.proofs.Arrivals.{IsCarried, whole-took, part-took}
use Rattle.ticket_laws.proofs.Hosts.{lane-new, lane-old}
use Rattle.client_laws.specs.Handed.{Handed, in_event, in_events, waiting_in, is_on, is_to, as_handed}

-- what waits at a port of a host, from a host and of a priority
abbrev pub waits : NodeState → ℕ → ℕ → ℕ → List Handed
waits n port src prio = filter (is_on src prio) (waiting_in (port_at n port))

-- what the host got for a port on that connection
abbrev pub gets : NodeState → ℕ → ℕ → ℕ → List Handed
gets n port src prio = map (as_handed src) (filter (is_to port) (lane_at n (lane_of src prio)).got)

-- as many messages more are got as are handed out or wait
pub record MovesAt (n m : NodeState) (out : List Handed) (port src prio : ℕ) : Type 0 where
  pub new : List Handed
  pub got : gets m port src prio ≡ gets n port src prio ++ new
  pub waiting : filter (is_on src prio) out ++ waits m port src prio ≡ waits n port src prio ++ new

-- on each connection and for each port
pub record Moves (n m : NodeState) (out : ℕ → List Handed) : Type 0 where
  pub each : (port src prio : ℕ) → prio < 2 → MovesAt n m (out port) port src prio

abbrev pub nothing : ℕ → List Handed
nothing port = []

-- nothing is got, and nothing more waits
pub moves-same : (n m : NodeState) → ((k : ℕ) → (lane_at m k).got ≡ (lane_at n k).got) → ((port : ℕ) → waiting_in (port_at m port) ≡ waiting_in (port_at n port)) → Moves n m nothing
moves-same n m got waiting = record {
  each = λ port src prio low. record {
    new = [];
    got = ap (λ ms. map (as_handed src) (filter (is_to port) ms)) (got (lane_of src prio)) ∙ sym (append-nil (gets n port src prio));
    waiting = ap (filter (is_on src prio)) (waiting port) ∙ sym (append-nil (waits n port src prio));
  };
}

got-same : (n m : NodeState) → m.lanes ≡ n.lanes → (k : ℕ) → (lane_at m k).got ≡ (lane_at n k).got
got-same n m e k = ap (λ l. (get_or l k new_lane).got) e

got-set : (n m : NodeState) (k : ℕ) (q : LaneState) → m.lanes ≡ set n.lanes k q → q.got ≡ (lane_at n k).got → (j : ℕ) → (lane_at m j).got ≡ (lane_at n j).got
got-set n m k q e here j = ap (λ l. (get_or l j new_lane).got) e ∙ each-set (λ i (x : LaneState). x.got ≡ (lane_at n i).got) n.lanes k j q new_lane here (λ i. refl)

waits-same : (n m : NodeState) → m.ports ≡ n.ports → (port : ℕ) → waiting_in (port_at m port) ≡ waiting_in (port_at n port)
waits-same n m e port = ap (λ ps. waiting_in (get_or ps port None)) e

waits-set : (n m : NodeState) (k : ℕ) (o : Option PortState) → m.ports ≡ set n.ports k o → waiting_in o ≡ waiting_in (port_at n k) → (port : ℕ) → waiting_in (port_at m port) ≡ waiting_in (port_at n port)
waits-set n m k o e here port = ap (λ ps. waiting_in (get_or ps port None)) e ∙ each-set (λ i x. waiting_in x ≡ waiting_in (port_at n i)) n.ports k port o None here (λ i. refl)

-- a port that is open is among those of its host
pub open-there : (ps : List (Option PortState)) (i : ℕ) (p : PortState) (o : Option PortState) → get_or ps i None ≡ Some p → get_or (set ps i o) i None ≡ o
open-there [] i p o e = cc
open-there (x ∷ ps) zero p o e = refl
open-there (x ∷ ps) (suc i) p o e = open-there ps i p o e

-- an event more
pub events-push : (es : List PortEvent) (e : PortEvent) → in_events (es ++ e ∷ []) ≡ in_events es ++ in_event e
events-push [] e = append-nil (in_event e)
events-push (x ∷ es) e = ap (λ l. in_event x ++ l) (events-push es e) ∙ sym (append_assoc (in_event x) (in_events es) (in_event e))

-- a send is finished
finished-waits : (t : ℕ) (o : Option PortState) → waiting_in (option_map (λ p. finished p t) o) ≡ waiting_in o
finished-waits t None = refl
finished-waits t (Some p) = by (send_of p t)
  where
    by : (s : Option Sending) → in_events (ended_by p t s).events ≡ in_events p.events
    by None = refl
    by (Some s) = events-push p.events (Sent t s.buffer) ∙ append-nil (in_events p.events)

all-finished-waits : (n : NodeState) (ts : List Ticket) (port : ℕ) → waiting_in (port_at (all_finished n ts) port) ≡ waiting_in (port_at n port)
all-finished-waits n [] port = refl
all-finished-waits n (t ∷ ts) port =
    let o : Option PortState = option_map (λ p. finished p t.token) (port_at n t.port) in
    let m : NodeState = with_port n t.port o in
    all-finished-waits m ts port ∙ waits-set n m t.port o refl (finished-waits t.token (port_at n t.port)) port

-- a fragment that isn't its message's last
part-waits : (h : FrameHead) (part : List ℕ) (o : Option PortState) → is_last h.total h.offset ≡ false → waiting_in (option_map (λ p. delivered p h part) o) ≡ waiting_in o
part-waits h part None e = refl
part-waits h part (Some p) e = by (delivery p h part)
  where
    by : {q : PortState} → Delivery p h part q → in_events q.events ≡ in_events p.events
    by (Delivery.missed d) = refl
    by (Delivery.ends r d t) = absurd (true≢false (sym t ∙ e))
    by (Delivery.goes_on r d t) = refl

-- the message of a frame that ends it
abbrev whole_message : NodeState → FrameHead → List ℕ → Message
whole_message n h part = ending (lane_at n (frame_lane h)).coming (message_of h part)

last-waits : (n : NodeState) (h : FrameHead) (part : List ℕ) (p : PortState) → port_at n h.dport ≡ Some p → port_takes (Some p) h ≡ true → is_last h.total h.offset ≡ true → IsCarried n h part → in_events (delivered p h part).events ≡ in_events p.events ++ as_handed h.src (whole_message n h part) ∷ []
last-waits n h part p e takes last is = by (taker p h) refl takes
  where
    l : LaneState
    l = lane_at n (frame_lane h)

    by : (o : Option Provided) → taker p h ≡ o → is_some o ≡ true → in_events (taken_by p h part o).events ≡ in_events p.events ++ as_handed h.src (whole_message n h part) ∷ []
    by None d t = cc
    by (Some r) d t =
        let total : length (l.coming ++ part) ≡ h.total = (let a = length-append l.coming part in let b = is.before in let c = is.last last in omega (arith, a, b, c)) in
        let bytes : take h.total (filled r.buffer h.offset part) ≡ l.coming ++ part =
        ap (λ x. take h.total (x ++ part ++ drop (h.offset + length part) r.buffer)) (is.held p r e d)
        ∙ take_at (l.coming ++ part) (drop (h.offset + length part) r.buffer) h.total total in
        ap (λ b. in_events (if b then ended_with p h part r else going_on_with p h part r).events) last
        ∙ events-push p.events (Received r.token (filled r.buffer h.offset part) h.src h.sport h.prio h.total)
        ∙ ap (λ x. in_events p.events ++ record { from = h.src; sport = h.sport; prio = h.prio; bytes = x } ∷ []) bytes

equal : (a b : ℕ) → nat_eq a b ≡ true → a ≡ b
equal a b e = grind (arith, nat_tests)

apart : (a b : ℕ) → nat_eq a b ≡ false → a ≢ b
apart a b e d = grind (arith, nat_tests)

lane-apart : (src prio from of : ℕ) → prio < 2 → of < 2 → (nat_eq from src && nat_eq of prio) ≡ false → lane_of src prio ≢ lane_of from of
lane-apart src prio from of low few e = by (nat_eq from src) refl e
  where
    by : (b : Bool) → nat_eq from src ≡ b → (b && nat_eq of prio) ≡ false → lane_of src prio ≢ lane_of from of
    by true t f d = let a = equal from src t in let b = apart of prio f in omega (arith, a, b, d, low, few)
    by false t f d = let a = apart from src t in omega (arith, a, d, low, few)

-- What is known of a frame that ends its message.
pub record IsWhole (n : NodeState) (h : FrameHead) (part : List ℕ) : Type 0 where
  pub fits : port_takes (port_at n h.dport) h ≡ true
  pub last : is_last h.total h.offset ≡ true
  pub carried : IsCarried n h part

module _ (n : NodeState) (hosts : ℕ) (long : length n.lanes ≡ lane_count hosts) (h : FrameHead) (part : List ℕ) (low : h.src < hosts) (few : h.prio < 2) where
  abbrev k : ℕ
  k = frame_lane h

  abbrev l : LaneState
  l = lane_at n k

  abbrev after : Took → NodeState
  after t = delivered_after (with_lane n k (lane_after l t (message_of h part))) h part t

  whole-moves : IsWhole n h part → Moves n (after Whole) nothing
  whole-moves is = by (port_at n h.dport) refl is.fits
    where
      q : LaneState
      q = lane_after l Whole (message_of h part)

      m : NodeState
      m = after Whole

      x : Handed
      x = as_handed h.src (whole_message n h part)

      inside : k < length n.lanes
      inside = subst (λ count. k < count) (sym long) (lane_of-below hosts h.src h.prio low)

      by : (o : Option PortState) → port_at n h.dport ≡ o → port_takes o h ≡ true → Moves n m nothing
      by None e takes = cc
      by (Some p) e takes = record { each = λ port src prio below. at port src prio below (nat_eq h.src src && nat_eq h.prio prio) (nat_eq h.dport port) refl refl }
        where
          to : Option PortState
          to = option_map (λ r. delivered r h part) (port_at n h.dport)

          to-now : waiting_in to ≡ waiting_in (port_at n h.dport) ++ x ∷ []
          to-now = ap (λ o. waiting_in (option_map (λ r. delivered r h part) o)) e ∙ last-waits n h part p e takes is.last is.carried ∙ ap (λ o. waiting_in o ++ x ∷ []) (sym e)

          waiting-here : waiting_in (port_at m h.dport) ≡ waiting_in (port_at n h.dport) ++ x ∷ []
          waiting-here = ap waiting_in (open-there n.ports h.dport p to e) ∙ to-now

          waiting-other : (port : ℕ) → port ≢ h.dport → waiting_in (port_at m port) ≡ waiting_in (port_at n port)
          waiting-other port other = ap waiting_in (get_or-set_other n.ports h.dport port to None other)

          got-here : (lane_at m k).got ≡ (lane_at n k).got ++ whole_message n h part ∷ []
          got-here = ap (λ (z : LaneState). z.got) (lane-new n m k q refl inside)

          got-other : (j : ℕ) → j ≢ k → (lane_at m j).got ≡ (lane_at n j).got
          got-other j other = ap (λ (z : LaneState). z.got) (lane-old n m k q refl j other)

          same-waits : (port src prio : ℕ) → waiting_in (port_at m port) ≡ waiting_in (port_at n port) → waits m port src prio ≡ waits n port src prio
          same-waits port src prio d = ap (filter (is_on src prio)) d

          more-waits : (src prio : ℕ) → waits m h.dport src prio ≡ waits n h.dport src prio ++ (if nat_eq h.src src && nat_eq h.prio prio then x ∷ [] else [])
          more-waits src prio = ap (filter (is_on src prio)) waiting-here ∙ filter-append (is_on src prio) (waiting_in (port_at n h.dport)) (x ∷ [])

          more-gets : (port : ℕ) → gets m port h.src h.prio ≡ gets n port h.src h.prio ++ map (as_handed h.src) (if nat_eq h.dport port then whole_message n h part ∷ [] else [])
          more-gets port =
              ap (λ ms. map (as_handed h.src) (filter (is_to port) ms)) got-here
              ∙ ap (map (as_handed h.src)) (filter-append (is_to port) (lane_at n k).got (whole_message n h part ∷ []))
              ∙ map-append (as_handed h.src) (filter (is_to port) (lane_at n k).got) (filter (is_to port) (whole_message n h part ∷ []))

          at : (port src prio : ℕ) → prio < 2 → (a b : Bool) → (nat_eq h.src src && nat_eq h.prio prio) ≡ a → nat_eq h.dport port ≡ b → MovesAt n m [] port src prio
          at port src prio below true true f g =
              let two = both (nat_eq h.src src) (nat_eq h.prio prio) f in
              let from : h.src ≡ src = equal h.src src two.0 in
              let of : h.prio ≡ prio = equal h.prio prio two.1 in
              let there : h.dport ≡ port = equal h.dport port g in
              record {
                new = x ∷ [];
                got = subst (λ s. gets m port s prio ≡ gets n port s prio ++ x ∷ []) from (subst (λ r. gets m port h.src r ≡ gets n port h.src r ++ x ∷ []) of (more-gets port ∙ ap (λ b. gets n port h.src h.prio ++ map (as_handed h.src) (if b then whole_message n h part ∷ [] else [])) g));
                waiting = subst (λ s. waits m s src prio ≡ waits n s src prio ++ x ∷ []) there (more-waits src prio ∙ ap (λ b. waits n h.dport src prio ++ (if b then x ∷ [] else [])) f);
              }
          at port src prio below true false f g =
              let two = both (nat_eq h.src src) (nat_eq h.prio prio) f in
              let from : h.src ≡ src = equal h.src src two.0 in
              let of : h.prio ≡ prio = equal h.prio prio two.1 in
              let there : port ≢ h.dport = (λ d. apart h.dport port g (sym d)) in
              record {
                new = [];
                got = subst (λ s. gets m port s prio ≡ gets n port s prio ++ []) from (subst (λ r. gets m port h.src r ≡ gets n port h.src r ++ []) of (more-gets port ∙ ap (λ b. gets n port h.src h.prio ++ map (as_handed h.src) (if b then whole_message n h part ∷ [] else [])) g));
                waiting = same-waits port src prio (waiting-other port there) ∙ sym (append-nil (waits n port src prio));
              }
          at port src prio below false true f g =
              let there : h.dport ≡ port = equal h.dport port g in
              record {
                new = [];
                got = ap (λ ms. map (as_handed src) (filter (is_to port) ms)) (got-other (lane_of src prio) (lane-apart src prio h.src h.prio below few f)) ∙ sym (append-nil (gets n port src prio));
                waiting = subst (λ s. waits m s src prio ≡ waits n s src prio ++ []) there (more-waits src prio ∙ ap (λ b. waits n h.dport src prio ++ (if b then x ∷ [] else [])) f);
              }
          at port src prio below false false f g =
              let there : port ≢ h.dport = (λ d. apart h.dport port g (sym d)) in
              record {
                new = [];
                got = ap (λ ms. map (as_handed src) (filter (is_to port) ms)) (got-other (lane_of src prio) (lane-apart src prio h.src h.prio below few f)) ∙ sym (append-nil (gets n port src prio));
                waiting = same-waits port src prio (waiting-other port there) ∙ sym (append-nil (waits n port src prio));
              }

  pub frame-moves : (t : Took) → (t ≡ Part → is_last h.total h.offset ≡ false) → (t ≡ Whole → IsWhole n h part) → Moves n (after t) nothing
  frame-moves NotNext earlier whole = moves-same n (after NotNext) (got-set n (after NotNext) k (lane_after l NotNext (message_of h part)) refl refl) (waits-same n (after NotNext) refl)
  frame-moves NoToken earlier whole = moves-same n (after NoToken) (got-set n (after NoToken) k (lane_after l NoToken (message_of h part)) refl refl) (waits-same n (after NoToken) refl)
  frame-moves Part earlier whole =
      moves-same n (after Part) (got-set n (after Part) k (lane_after l Part (message_of h part)) refl refl)
      (waits-set n (after Part) h.dport (option_map (λ p. delivered p h part) (port_at n h.dport)) refl (part-waits h part (port_at n h.dport) (earlier refl)))
  frame-moves Whole earlier whole = whole-moves (whole refl)

-- all that is heard
pub heard-moves : (host hosts : ℕ) (n : NodeState) → length n.lanes ≡ lane_count hosts → (wire : List ℕ) (m : NodeState) → ((body : List ℕ) (h : FrameHead) → decode_packet wire ≡ Ok (Gm, body) → decode body ≡ Ok (Frame h) → h.dst ≡ host → h.seq ≡ (lane_at n (frame_lane h)).taken → IsCarried n h (part_in body))
    → ((body : List ℕ) (h : FrameHead) → decode body ≡ Ok (Frame h) → h.prio < 2) → IsHeard host hosts n wire m → Moves n m nothing
heard-moves host hosts n long wire m good few (quietly e f) = moves-same n m (got-same n m e) (waits-same n m f)
heard-moves host hosts n long wire m good few (of_frame body h e d mine low now) =
    let l : LaneState = lane_at n (frame_lane h) in
    let fits : Bool = port_takes (port_at n h.dport) h in
    let last : Bool = is_last h.total h.offset in
    subst (λ v. Moves n v nothing) (sym now)
    (frame-moves n hosts long h (part_in body) low (few body h d) (frame_took n h) (part-took l.taken h.seq fits last)
    (λ t. let k = whole-took l.taken h.seq fits last t in record { fits = k.1.0; last = k.1.1; carried = good body h e d mine k.0 }))
heard-moves host hosts n long wire m good few (of_ack body a e d mine low now) =
    let q : LaneState = lane_acknowledged (lane_at n (ack_lane a)) a.next in
    let v : NodeState = with_lane n (ack_lane a) q in
    let gone : List Ticket = tickets_finished (lane_at n (ack_lane a)) a.next in
    let after : NodeState = all_finished v gone in
    subst (λ v. Moves n v nothing) (sym now)
    (moves-same n after (got-set n after (ack_lane a) q (all_finished-lanes v gone) refl) (λ port. all-finished-waits v gone port ∙ waits-same n v refl port))

-- an item is sent
pub sending-moves : (n : NodeState) (out : Outgoing) → Moves n (after_sending n out) nothing
unfolding after_sending
sending-moves n (Probe walk looped) = moves-same n (record n { staged = None }) (λ k. refl) (λ port. refl)
sending-moves n (TablePart part by) = moves-same n (record n { staged = None }) (λ k. refl) (λ port. refl)
sending-moves n (Reply r) = moves-same n (record n { reply = None }) (λ k. refl) (λ port. refl)
sending-moves n (PartAnswer a) = moves-same n (record n { part_ack = None }) (λ k. refl) (λ port. refl)
sending-moves n (FrameAnswer lane next by) = moves-same n (with_lane n lane (lane_answered (lane_at n lane))) (got-set n (with_lane n lane (lane_answered (lane_at n lane))) lane (lane_answered (lane_at n lane)) refl refl) (λ port. refl)
sending-moves n (Fragment lane head part by) = moves-same n (with_lane n lane (lane_sent_one (lane_at n lane))) (got-set n (with_lane n lane (lane_sent_one (lane_at n lane))) lane (lane_sent_one (lane_at n lane)) refl refl) (λ port. refl)

-- fragments are sent again
expired-got : (n : NodeState) (lane k : ℕ) → (lane_at (with_expired n lane) k).got ≡ (lane_at n k).got
expired-got n lane = got-set n (with_expired n lane) lane (lane_expired (lane_at n lane)) refl refl

pub expires-moves : (n : NodeState) (peer : ℕ) → Moves n (node_expired n peer) nothing
expires-moves n peer =
    let m : NodeState = with_expired n (lane_of peer 0) in
    moves-same n (node_expired n peer) (λ k. expired-got m (lane_of peer 1) k ∙ expired-got n (lane_of peer 0) k) (λ port. refl)

-- one port has as many messages that wait
port-moves : (n : NodeState) (port : ℕ) (o : Option PortState) → waiting_in o ≡ waiting_in (port_at n port) → Moves n (with_port n port o) nothing
port-moves n port o e = moves-same n (with_port n port o) (λ k. refl) (waits-set n (with_port n port o) port o refl e)

-- a call that hands out no message
abbrev pub IsQuiet : Said → Type 0
IsQuiet (SaidReceived t from sport prio bytes) = ⊥
IsQuiet _ = Unit {0}

none-waits : (xs : List PortEvent) → length xs ≡ 0 → in_events xs ≡ []
none-waits [] e = refl
none-waits (x ∷ xs) e = absurd (omega (arith, e))

sent-first : (es : List PortEvent) (t : ℕ) (buffer : List ℕ) → slice_get es 0 ≡ Some (Sent t buffer) → in_events (drop 1 es) ≡ in_events es
sent-first [] t buffer e = cc
sent-first (x ∷ es) t buffer e = let same : x ≡ Sent t buffer = same_Some x (Sent t buffer) e in sym (ap (λ y. in_event y ++ in_events es) same)

pub call-moves : {n : NodeState} {c : Option ClientState} {port : ℕ} {call : Called} → Call n c port call → IsQuiet call.said → Moves n call.node nothing
call-moves {n = n} Call.rests quiet = moves-same n n (λ k. refl) (λ port. refl)
call-moves {n = n} (Call.opens {port = port} sends recvs e) quiet = port-moves n port (Some (opened sends recvs)) (sym (ap waiting_in e))
call-moves {n = n} (Call.closes {port = port} p e f) quiet = port-moves n port None (sym (ap waiting_in e ∙ none-waits p.events f.read))
call-moves {n = n} (Call.provides {port = port} size prio t ts p d e f g k) quiet = port-moves n port (Some (provided_with p (record { token = t; size = size; prio = prio; filling = None; buffer = empty_buffer size }))) (sym (ap waiting_in e))
call-moves {n = n} (Call.accepts s t ts p d e f g k) quiet =
    let q : LaneState = with_message (lane_at n (wanted_lane s)) (wanted_message s) (record { port = s.port; token = t }) in
    let m : NodeState = (send_accepted n s p d t ts).node in
    moves-same n m (got-set n m (wanted_lane s) q refl refl) (waits-set n m s.port (Some (sent_with p t (client_bytes s.len s.seed))) refl (sym (ap waiting_in e)))
call-moves {n = n} (Call.hands_sent {port = port} t buffer p d e f g) quiet = port-moves n port (Some (polled p)) (sent-first p.events t buffer g ∙ sym (ap waiting_in e))
call-moves {n = n} (Call.hands_received t buffer from sport prio len p d e f g) quiet = absurd quiet
