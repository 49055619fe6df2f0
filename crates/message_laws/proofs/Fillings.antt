-- Every act leaves what is coming on each connection tied to the token that is filling with it.
use Rattle.std.proofs.Common.{◌≡◌, ◌≢◌, ◌<◌, ◌≤◌, ◌-◌, ℕ, Bool, true, false, ◌&&◌, List, [], ◌++◌, length, take, get_or, set, min, nat_eq, nat_lt, nat_le, Option, Some, None, is_some, option_map, Ok, refl, sym, ap, ◌∙◌, subst, arith, true≢false, length-append, if◌then◌else◌}
use Rattle.std.specs.Prelude.{slice_get}
use Rattle.std.proofs.lemmas.Bool.Decides.{nat_tests}
use Rattle.std.proofs.lemmas.List.{get_or-set_same, get_or-set_other, get_or_past}
use Rattle.net_defs.specs.Network.{Network}
use Rattle.packet_defs.specs.declared.kind.Kind.{Kind}
use Rattle.packet_defs.specs.declared.kind.Kind.TheVariants.{Gm}
use Rattle.packet_defs.specs.Host.{decode as decode_packet}
use Rattle.gm_defs.specs.declared.message.Message.{Message}
use Rattle.gm_defs.specs.declared.frame.FrameHead.{FrameHead}
use Rattle.gm_defs.specs.declared.frame.ConnectionKey.{ConnectionKey}
use Rattle.gm_defs.specs.declared.frame.GmBody.TheVariants.{Frame}
use Rattle.gm_defs.specs.declared.token.Took.{Took}
use Rattle.gm_defs.specs.declared.token.Took.TheVariants.{NotNext, NoToken, Part, Whole}
use Rattle.gm_defs.specs.Body.{piece, message_limit, number_limit, is_prio, is_offset, is_last, is_head, begins_with, frame_length, head_in, part_in, decode}
use Rattle.gm_defs.specs.Fragment.{Fragment as FragmentOf, head_of, frame_of, whole_below, begun_below, IsHonestFrame}
use Rattle.gm_defs.specs.Connection.{key_of, taken_as, took}
use Rattle.gm_defs.specs.Laws.{ComesNext}
use Rattle.gm_defs.specs.Token.{Provided, PortState, taker, can_take}
use Rattle.gm_defs.specs.Port.{ended_with, going_on_with, taken_by, delivered}
use Rattle.gm_defs.proofs.Bodies.{read_frame}
use Rattle.gm_defs.proofs.Choices.{both}
use Rattle.gm_defs.proofs.Numbers.{next-fragment}
use Rattle.world_defs.specs.Lane.{LaneState, Ticket, new_lane, lane_acknowledged, tickets_finished, lane_expired, lane_after, with_message}
use Rattle.world_defs.specs.Node.{NodeState, Outgoing, Probe, TablePart, Reply, PartAnswer, FrameAnswer, Fragment, lane_count, prio_place, lane_of, peer_of, prio_of, taking_lane, lane_at, with_lane, port_at, with_port, after_sending, with_expired, node_expired, new_node, port_count}
use Rattle.world_defs.specs.Hearing.{message_of, frame_lane, ack_lane, port_takes, delivered_after, frame_took, all_finished}
use Rattle.world_defs.specs.Client.{ClientState, Called, wanted_lane, wanted_message, send_accepted}
use Rattle.world_defs.specs.World.{WorldState, host_count, new_world, node_at}
use Rattle.world_defs.specs.Traffic.{sent_on}
use Rattle.world_defs.proofs.Lanes.{lane_of-parts, lane_of-below, peer_of-lane, prio_of-lane, facing, facing-taking}
use Rattle.world_defs.proofs.Lists.{each-replicate}
use Rattle.world_defs.proofs.Calls.{Call}
use Rattle.world_defs.specs.Acts.{Act, acted, IsReached}
use Rattle.world_defs.proofs.Reaching.{reached-has}
use Rattle.world_laws.specs.Shape.{IsWorld}
use Rattle.world_laws.proofs.Lists.{at-set}
use Rattle.message_laws.specs.Says.{SaysTrue}
use Rattle.message_laws.proofs.Lanes.{InOrder, Carries, frame-fragment}
use Rattle.message_laws.proofs.Worlds.{IsOrdered, sent_by_lane, to_host, reached-ordered, lanes-grow}
use Rattle.message_laws.proofs.Heard.{IsHeard, quietly, of_frame, of_ack, hear-is}
use Rattle.message_laws.proofs.Hosts.{Rules, Goes, acted-goes}
use Rattle.world_defs.proofs.Hearings.{all_finished-lanes}
use Rattle.message_laws.proofs.Taken.{reached-world}
use Rattle.message_laws.specs.Filling.{filling_in, IsTied, ComingIsTied}
use Rattle.message_laws.proofs.Ports.{SamePorts, ports-same, ports-then, all_finished-ports, call-ports}
use Rattle.message_laws.proofs.Taking.{tied-same, tied-more, ended-other, going_on-other, front-held, part-tied, whole-tied}

-- what is coming by a lane of a host is tied, where its peer has sent these messages by it
abbrev Tied : (ℕ → List Message) → NodeState → ℕ → Type 0
Tied S n k = IsTied (port_at n) (peer_of k) (prio_of k) (slice_get (S k) (length (lane_at n k).got)) (lane_at n k).coming

-- what a change of a host keeps
record HostTied (S : ℕ → List Message) (n m : NodeState) : Type 0 where
  keeps : ((k : ℕ) → Tied S n k) → (k : ℕ) → Tied S m k

-- a lane on which nothing came
record SameLane (l q : LaneState) : Type 0 where
  got : q.got ≡ l.got
  coming : q.coming ≡ l.coming

lane-same : (l : LaneState) → SameLane l l
lane-same l = record { got = refl; coming = refl }

lanes-same : (n m : NodeState) → m.lanes ≡ n.lanes → (k : ℕ) → SameLane (lane_at n k) (lane_at m k)
lanes-same n m e k = subst (λ l. SameLane (lane_at n k) (get_or l k new_lane)) (sym e) (lane-same (lane_at n k))

record SameLanes (n m : NodeState) : Type 0 where
  each : (k : ℕ) → SameLane (lane_at n k) (lane_at m k)

same-lanes : (n m : NodeState) → m.lanes ≡ n.lanes → SameLanes n m
same-lanes n m e = record { each = lanes-same n m e }

lanes-set : (n m : NodeState) (i : ℕ) (q : LaneState) → m.lanes ≡ set n.lanes i q → SameLane (lane_at n i) q → (k : ℕ) → SameLane (lane_at n k) (lane_at m k)
lanes-set n m i q e here k = subst (λ l. SameLane (lane_at n k) (get_or l k new_lane)) (sym e) (at-set SameLane lane-same n.lanes i k q new_lane here)

quiet : (S : ℕ → List Message) (n m : NodeState) → SamePorts n m → ((k : ℕ) → SameLane (lane_at n k) (lane_at m k)) → HostTied S n m
quiet S n m ports lanes = record {
  keeps = λ tied k.
      tied-same (port_at n) (port_at m) (peer_of k) (prio_of k) _ _ _ _ (λ port. (ports.each port).each (peer_of k) (prio_of k)) (ap (λ g. slice_get (S k) (length g)) (lanes k).got) (lanes k).coming (tied k);
}

-- what a receiver made of a fragment
data IsTook (taken seq : ℕ) (fits last : Bool) : Took → Type 0 where
  not_next : IsTook taken seq fits last NotNext
  no_token : IsTook taken seq fits last NoToken
  took_part : seq ≡ taken → fits ≡ true → last ≡ false → IsTook taken seq fits last Part
  took_whole : seq ≡ taken → fits ≡ true → last ≡ true → IsTook taken seq fits last Whole

took-is : (taken seq : ℕ) (fits last : Bool) → IsTook taken seq fits last (took taken seq fits last)
took-is taken seq fits last = by (nat_eq seq taken) fits last refl refl refl
  where
    by : (a b c : Bool) → nat_eq seq taken ≡ a → fits ≡ b → last ≡ c → IsTook taken seq fits last (if a then if b then taken_as c else NoToken else NotNext)
    by true true true e f g = IsTook.took_whole (grind (arith, nat_tests)) f g
    by true true false e f g = IsTook.took_part (grind (arith, nat_tests)) f g
    by true false c e f g = IsTook.no_token
    by false b c e f g = IsTook.not_next

-- a frame that is read has a priority
pub read-prio : (body : List ℕ) (h : FrameHead) → decode body ≡ Ok (Frame h) → h.prio < 2
read-prio body h e =
    let r = read_frame body h e in
    let last = both (nat_le frame_length (length body) && begins_with 1 body && is_head (head_in body)) (nat_eq (length (part_in body)) (head_in body).len) r.0 in
    let head = both (nat_le frame_length (length body) && begins_with 1 body) (is_head (head_in body)) last.0 in
    prio (ap is_head (sym r.1) ∙ head.1)
  where
    prio : is_head h ≡ true → h.prio < 2
    prio t =
        let ports : Bool = nat_lt h.sport 8 && nat_lt h.dport 8 && is_prio h.prio in
        let a = both (ports && nat_lt h.seq number_limit && nat_le h.total message_limit && is_offset h.total h.offset) (nat_eq h.len (min piece (h.total - h.offset))) t in
        let b = both (ports && nat_lt h.seq number_limit && nat_le h.total message_limit) (is_offset h.total h.offset) a.0 in
        let c = both (ports && nat_lt h.seq number_limit) (nat_le h.total message_limit) b.0 in
        let d = both ports (nat_lt h.seq number_limit) c.0 in
        let f = (both (nat_lt h.sport 8 && nat_lt h.dport 8) (is_prio h.prio) d.0).1 in
        grind (arith, nat_tests)

some-port : (o : Option PortState) (h : FrameHead) → port_takes o h ≡ true → (p : PortState) × ((o ≡ Some p) × (can_take p h ≡ true))
some-port None h e = cc
some-port (Some p) h e = (p, (refl, e))

some-taker : (p : PortState) (h : FrameHead) → can_take p h ≡ true → (r : Provided) × (taker p h ≡ Some r)
some-taker p h e = by (taker p h) refl e
  where
    by : (o : Option Provided) → taker p h ≡ o → is_some o ≡ true → (r : Provided) × (taker p h ≡ Some r)
    by (Some r) f t = (r, f)
    by None f t = cc

-- What a fragment that is taken says: its message is the next, and what came of it is all before the fragment.
pub record IsNext (S : List Message) (l : LaneState) (h : FrameHead) (part : List ℕ) : Type 0 where
  pub message : Message
  pub there : slice_get S (length l.got) ≡ Some message
  pub to_port : message.dport ≡ h.dport
  pub total : length message.body ≡ h.total
  pub offset : length l.coming ≡ h.offset
  pub some : is_last h.total h.offset ≡ false → 0 < length (l.coming ++ part)

long-enough : (total offset : ℕ) → is_last total offset ≡ false → 0 < min piece (total - offset)
long-enough total offset e = grind (arith, nat_tests)

is-next : (key : ConnectionKey) (S : List Message) (l : LaneState) (h : FrameHead) (part : List ℕ) → InOrder S l → h.seq ≡ l.taken → frame_of key S h.seq ≡ Some (h, part) → IsNext S l h part
is-next key S l h part order seq e =
    let c : Carries key S h.seq (h, part) = frame-fragment key S h.seq (h, part) e in
    let f : FragmentOf = c.fragment in
    let k : ComesNext S h.seq f = next-fragment S h.seq f c.there in
    let head : h ≡ head_of key h.seq f = ap (λ x. x.0) c.is in
    let bytes : part ≡ f.part = ap (λ x. x.1) c.is in
    let total : length f.message.body ≡ h.total = sym (ap (λ (x : FrameHead). x.total) head) in
    let offset : f.offset ≡ h.offset = sym (ap (λ (x : FrameHead). x.offset) head) in
    record {
      message = f.message;
      there = ap (slice_get S) (order.count ∙ ap (whole_below S) (sym seq)) ∙ k.there;
      to_port = sym (ap (λ (x : FrameHead). x.dport) head);
      total = total;
      offset = ap length (order.coming ∙ ap (begun_below S) (sym seq)) ∙ k.before ∙ offset;
      some = λ t.
          let long = length-append l.coming part in
          let part_long = ap length bytes ∙ k.long ∙ (λ i. min piece (total i - offset i)) in
          let enough = long-enough h.total h.offset t in
          omega (arith, long, part_long, enough);
    }

-- a lane of another host or priority
apart : (h : FrameHead) (k : ℕ) → k ≢ lane_of h.src h.prio → (nat_eq h.src (peer_of k) && nat_eq h.prio (prio_of k)) ≡ false
apart h k other = by (nat_eq h.src (peer_of k)) (nat_eq h.prio (prio_of k)) refl refl
  where
    by : (a b : Bool) → nat_eq h.src (peer_of k) ≡ a → nat_eq h.prio (prio_of k) ≡ b → (a && b) ≡ false
    by true true e f =
        let src : h.src ≡ peer_of k = grind (arith, nat_tests) in
        let prio : h.prio ≡ prio_of k = grind (arith, nat_tests) in
        absurd (other (sym (lane_of-parts k) ∙ (λ i. lane_of (sym src i) (sym prio i))))
    by true false e f = refl
    by false b e f = refl

-- a host hears a frame
module _ (S : ℕ → List Message) (key : ConnectionKey) (n : NodeState) (h : FrameHead) (part : List ℕ) (low : h.prio < 2)
    (order : InOrder (S (frame_lane h)) (lane_at n (frame_lane h))) (honest : frame_of key (S (frame_lane h)) h.seq ≡ Some (h, part))
    (inside : (p : PortState) → port_at n h.dport ≡ Some p → frame_lane h < length n.lanes) where
  abbrev lane : ℕ
  lane = frame_lane h

  abbrev l : LaneState
  l = lane_at n lane

  peer-is : peer_of lane ≡ h.src
  peer-is = peer_of-lane h.src h.prio

  prio-is : prio_of lane ≡ h.prio
  prio-is = prio_of-lane h.src h.prio ∙ (let e : prio_place h.prio ≡ h.prio = omega (arith, low) in e)

  -- its port took the fragment
  module _ (p : PortState) (r : Provided) (at_port : port_at n h.dport ≡ Some p) (e : taker p h ≡ Some r) (seq : h.seq ≡ l.taken) where
    next : IsNext (S lane) l h part
    next = is-next key (S lane) l h part order seq honest

    port-low : h.dport < length n.ports
    port-low = by (nat_lt h.dport (length n.ports)) refl
      where
        none : None ≡ Some p → h.dport < length n.ports
        none d = cc

        by : (b : Bool) → nat_lt h.dport (length n.ports) ≡ b → h.dport < length n.ports
        by true t = grind (arith, nat_tests)
        by false t = none (sym (get_or_past n.ports h.dport None (grind (arith, nat_tests))) ∙ at_port)

    module _ (q : LaneState) (to : PortState) where
      abbrev m : NodeState
      m = with_port (with_lane n lane q) h.dport (Some to)

      lane-now : lane_at m lane ≡ q
      lane-now = get_or-set_same n.lanes lane q new_lane (inside p at_port)

      lane-other : (k : ℕ) → k ≢ lane → lane_at m k ≡ lane_at n k
      lane-other k o = get_or-set_other n.lanes lane k q new_lane o

      port-now : port_at m h.dport ≡ Some to
      port-now = get_or-set_same n.ports h.dport (Some to) None port-low

      port-other : (port : ℕ) → port ≢ h.dport → port_at m port ≡ port_at n port
      port-other port o = get_or-set_other n.ports h.dport port (Some to) None o

      -- the other lanes
      others-tied : ((src prio : ℕ) → (nat_eq h.src src && nat_eq h.prio prio) ≡ false → filling_in (Some to) src prio ≡ filling_in (Some p) src prio) → (k : ℕ) → k ≢ lane → Tied S n k → Tied S m k
      others-tied same k o t =
          let at : lane_at m k ≡ lane_at n k = lane-other k o in
          tied-same (port_at n) (port_at m) (peer_of k) (prio_of k) _ _ _ _ each (ap (λ x. slice_get (S k) (length x.got)) at) (ap (λ x. x.coming) at) t
        where
          each : (port : ℕ) → filling_in (port_at m port) (peer_of k) (prio_of k) ≡ filling_in (port_at n port) (peer_of k) (prio_of k)
          each port = by (nat_eq port h.dport) refl
            where
              by : (b : Bool) → nat_eq port h.dport ≡ b → filling_in (port_at m port) (peer_of k) (prio_of k) ≡ filling_in (port_at n port) (peer_of k) (prio_of k)
              by true t =
                  let here : port ≡ h.dport = grind (arith, nat_tests) in
                  ap (λ x. filling_in (port_at m x) (peer_of k) (prio_of k)) here ∙ ap (λ x. filling_in x (peer_of k) (prio_of k)) port-now ∙ same (peer_of k) (prio_of k) (apart h k o)
                  ∙ sym (ap (λ x. filling_in x (peer_of k) (prio_of k)) at_port) ∙ ap (λ x. filling_in (port_at n x) (peer_of k) (prio_of k)) (sym here)
              by false t = ap (λ x. filling_in x (peer_of k) (prio_of k)) (port-other port (λ e. true≢false (sym (nat-same port h.dport e) ∙ t)))
                where
                  nat-same : (a b : ℕ) → a ≡ b → nat_eq a b ≡ true
                  nat-same a b e = grind (arith, nat_tests)

      -- each lane, where its own is
      all-tied : ((src prio : ℕ) → (nat_eq h.src src && nat_eq h.prio prio) ≡ false → filling_in (Some to) src prio ≡ filling_in (Some p) src prio)
          → (IsTied (port_at n) h.src h.prio (slice_get (S lane) (length l.got)) l.coming → IsTied (port_at m) h.src h.prio (slice_get (S lane) (length q.got)) q.coming)
          → HostTied S n m
      all-tied same own = record { keeps = λ tied k. by tied k (nat_eq k lane) refl }
        where
          mine : Tied S n lane → Tied S m lane
          mine t =
              let was : IsTied (port_at n) h.src h.prio (slice_get (S lane) (length l.got)) l.coming = subst (λ x. IsTied (port_at n) h.src x (slice_get (S lane) (length l.got)) l.coming) prio-is (subst (λ x. IsTied (port_at n) x (prio_of lane) (slice_get (S lane) (length l.got)) l.coming) peer-is t) in
              subst (λ x. IsTied (port_at m) (peer_of lane) (prio_of lane) (slice_get (S lane) (length x.got)) x.coming) (sym lane-now)
              (subst (λ x. IsTied (port_at m) x (prio_of lane) (slice_get (S lane) (length q.got)) q.coming) (sym peer-is)
              (subst (λ x. IsTied (port_at m) h.src x (slice_get (S lane) (length q.got)) q.coming) (sym prio-is) (own was)))

          by : ((j : ℕ) → Tied S n j) → (k : ℕ) (b : Bool) → nat_eq k lane ≡ b → Tied S m k
          by tied k true t = let here : k ≡ lane = grind (arith, nat_tests) in subst (Tied S m) (sym here) (mine (tied lane))
          by tied k false t = others-tied same k (λ e. true≢false (sym (nat-same k lane e) ∙ t)) (tied k)
            where
              nat-same : (a b : ℕ) → a ≡ b → nat_eq a b ≡ true
              nat-same a b e = grind (arith, nat_tests)

    -- an earlier fragment, and the last
    part-host : is_last h.total h.offset ≡ false → HostTied S n (with_port (with_lane n lane (lane_after l Part (message_of h part))) h.dport (Some (going_on_with p h part r)))
    part-host t =
        let q : LaneState = lane_after l Part (message_of h part) in
        let to : PortState = going_on_with p h part r in
        all-tied q to (going_on-other h part p r e)
        (part-tied h part p r e (port_at n) (port_at (m q to)) next.message (slice_get (S lane) (length l.got)) l.coming at_port (port-other q to) next.there next.to_port next.total next.offset (port-now q to) (next.some t))

    whole-host : HostTied S n (with_port (with_lane n lane (lane_after l Whole (message_of h part))) h.dport (Some (ended_with p h part r)))
    whole-host =
        let q : LaneState = lane_after l Whole (message_of h part) in
        let to : PortState = ended_with p h part r in
        all-tied q to (ended-other h part p r e)
        (whole-tied h part p r e (port_at n) (port_at (m q to)) next.message (slice_get (S lane) (length l.got)) l.coming at_port (port-other q to) next.there next.to_port next.total next.offset (port-now q to) (slice_get (S lane) (length q.got)))

  heard-tied : HostTied S n (delivered_after (with_lane n lane (lane_after l (frame_took n h) (message_of h part))) h part (frame_took n h))
  heard-tied = by (frame_took n h) (took-is l.taken h.seq (port_takes (port_at n h.dport) h) (is_last h.total h.offset))
    where
      after : Took → NodeState
      after t = delivered_after (with_lane n lane (lane_after l t (message_of h part))) h part t

      by : (t : Took) → IsTook l.taken h.seq (port_takes (port_at n h.dport) h) (is_last h.total h.offset) t → HostTied S n (after t)
      by NotNext k = quiet S n (after NotNext) (ports-same n (after NotNext) refl) (lanes-set n (after NotNext) lane (lane_after l NotNext (message_of h part)) refl (record { got = refl; coming = refl }))
      by NoToken k = quiet S n (after NoToken) (ports-same n (after NoToken) refl) (lanes-set n (after NoToken) lane (lane_after l NoToken (message_of h part)) refl (record { got = refl; coming = refl }))
      by Part (IsTook.took_part seq fits last) =
          let o = some-port (port_at n h.dport) h fits in
          let p : PortState = o.0 in
          let r = some-taker p h o.1.1 in
          let q : LaneState = lane_after l Part (message_of h part) in
          let to : delivered p h part ≡ going_on_with p h part r.0 = ap (taken_by p h part) r.1 ∙ ap (λ b. if b then ended_with p h part r.0 else going_on_with p h part r.0) last in
          subst (λ x. HostTied S n (with_port (with_lane n lane q) h.dport x)) (sym (ap (option_map (λ x. delivered x h part)) o.1.0 ∙ ap Some to)) (part-host p r.0 o.1.0 r.1 seq last)
      by Whole (IsTook.took_whole seq fits last) =
          let o = some-port (port_at n h.dport) h fits in
          let p : PortState = o.0 in
          let r = some-taker p h o.1.1 in
          let q : LaneState = lane_after l Whole (message_of h part) in
          let to : delivered p h part ≡ ended_with p h part r.0 = ap (taken_by p h part) r.1 ∙ ap (λ b. if b then ended_with p h part r.0 else going_on_with p h part r.0) last in
          subst (λ x. HostTied S n (with_port (with_lane n lane q) h.dport x)) (sym (ap (option_map (λ x. delivered x h part)) o.1.0 ∙ ap Some to)) (whole-host p r.0 o.1.0 r.1 seq)

-- what a host hears
none-open : (w : WorldState) (host port : ℕ) (p : PortState) → host_count w ≤ host → port_at (node_at w host) port ≡ Some p → ⊥
none-open w host port p past e = by (sym (ap (λ n. port_at n port) (get_or_past w.nodes host (new_node 0) past) ∙ each-replicate (λ o. o ≡ None) port_count port None None refl refl) ∙ e)
  where
    by : None ≡ Some p → ⊥
    by d = cc

module _ (w : WorldState) (ordered : IsOrdered w) (world : IsWorld w) where
  inside : (host lane port : ℕ) (p : PortState) → lane < lane_count (host_count w) → port_at (node_at w host) port ≡ Some p → lane < length (node_at w host).lanes
  inside host lane port p low e = by (nat_lt host (host_count w)) refl
    where
      by : (b : Bool) → nat_lt host (host_count w) ≡ b → lane < length (node_at w host).lanes
      by true t = let long = (world.each_node host (grind (arith, nat_tests))).lanes in omega (arith, low, long)
      by false t = absurd (none-open w host port p (grind (arith, nat_tests)) e)

  heard : (host : ℕ) (wire : List ℕ) (m : NodeState) → ((k : Kind) (body : List ℕ) → decode_packet wire ≡ Ok (k, body) → SaysTrue (sent_on w) k body) → IsHeard host (host_count w) (node_at w host) wire m → HostTied (to_host w host) (node_at w host) m
  heard host wire m good (quietly e f) = quiet (to_host w host) (node_at w host) m (ports-same (node_at w host) m f) (lanes-same (node_at w host) m e)
  heard host wire m good (of_frame body h e d mine there is) =
      let n : NodeState = node_at w host in
      let key : ConnectionKey = key_of (Frame h) in
      let sent : sent_on w key ≡ to_host w host (frame_lane h) = sym (facing-taking (sent_by_lane w) key) ∙ ap (λ x. facing (sent_by_lane w) x (frame_lane h)) mine in
      subst (HostTied (to_host w host) n) (sym is)
      (heard-tied (to_host w host) key n h (part_in body) (read-prio body h d) (ordered.order host (frame_lane h)) (ap (λ ms. frame_of key ms h.seq) (sym sent) ∙ good Gm body e h d)
      (λ p o. inside host (frame_lane h) h.dport p (lane_of-below (host_count w) h.src h.prio there) o))
  heard host wire m good (of_ack body a e d mine there is) =
      let n : NodeState = node_at w host in
      let q : LaneState = lane_acknowledged (lane_at n (ack_lane a)) a.next in
      let v : NodeState = with_lane n (ack_lane a) q in
      let gone : List Ticket = tickets_finished (lane_at n (ack_lane a)) a.next in
      subst (HostTied (to_host w host) n) (sym is)
      (quiet (to_host w host) n (all_finished v gone) (ports-then n v (all_finished v gone) (ports-same n v refl) (all_finished-ports v gone)) (lanes-set n (all_finished v gone) (ack_lane a) q (all_finished-lanes v gone) (record { got = refl; coming = refl })))

  -- what it sends, and what runs out
  sending : (host : ℕ) (out : Outgoing) → HostTied (to_host w host) (node_at w host) (after_sending (node_at w host) out)
  unfolding after_sending
  sending host (Probe walk looped) = let m = record (node_at w host) { staged = None } in quiet (to_host w host) (node_at w host) m (ports-same (node_at w host) m refl) (lanes-same (node_at w host) m refl)
  sending host (TablePart part by) = let m = record (node_at w host) { staged = None } in quiet (to_host w host) (node_at w host) m (ports-same (node_at w host) m refl) (lanes-same (node_at w host) m refl)
  sending host (Reply r) = let m = record (node_at w host) { reply = None } in quiet (to_host w host) (node_at w host) m (ports-same (node_at w host) m refl) (lanes-same (node_at w host) m refl)
  sending host (PartAnswer a) = let m = record (node_at w host) { part_ack = None } in quiet (to_host w host) (node_at w host) m (ports-same (node_at w host) m refl) (lanes-same (node_at w host) m refl)
  sending host (FrameAnswer lane next by) = quiet (to_host w host) (node_at w host) (with_lane (node_at w host) lane _) (ports-same (node_at w host) (with_lane (node_at w host) lane _) refl) (lanes-set (node_at w host) (with_lane (node_at w host) lane _) lane _ refl (record { got = refl; coming = refl }))
  sending host (Fragment lane head part by) = quiet (to_host w host) (node_at w host) (with_lane (node_at w host) lane _) (ports-same (node_at w host) (with_lane (node_at w host) lane _) refl) (lanes-set (node_at w host) (with_lane (node_at w host) lane _) lane _ refl (record { got = refl; coming = refl }))

  expired-lanes : (n : NodeState) (lane k : ℕ) → SameLane (lane_at n k) (lane_at (with_expired n lane) k)
  expired-lanes n lane = lanes-set n (with_expired n lane) lane (lane_expired (lane_at n lane)) refl (record { got = refl; coming = refl })

  expiring : (host peer : ℕ) → HostTied (to_host w host) (node_at w host) (node_expired (node_at w host) peer)
  expiring host peer =
      let n : NodeState = node_at w host in
      let m : NodeState = with_expired n (lane_of peer 0) in
      quiet (to_host w host) n (node_expired n peer) (ports-same n (node_expired n peer) refl)
      (λ k.
      let a = expired-lanes n (lane_of peer 0) k in
      let b = expired-lanes m (lane_of peer 1) k in
      record { got = b.got ∙ a.got; coming = b.coming ∙ a.coming })

  -- what its clients call for
  call-lanes : {n : NodeState} {c : Option ClientState} {port : ℕ} {call : Called} → Call n c port call → SameLanes n call.node
  call-lanes {n = n} Call.rests = same-lanes n n refl
  call-lanes {n = n} (Call.opens sends recvs d) = same-lanes n _ refl
  call-lanes {n = n} (Call.closes p d e) = same-lanes n _ refl
  call-lanes {n = n} (Call.provides size prio t ts p d e f g k) = same-lanes n _ refl
  call-lanes {n = n} (Call.accepts s t ts p d e f g k) =
      record { each = lanes-set n (send_accepted n s p d t ts).node (wanted_lane s) (with_message (lane_at n (wanted_lane s)) (wanted_message s) (record { port = s.port; token = t })) refl (record { got = refl; coming = refl }) }
  call-lanes {n = n} (Call.hands_sent t buffer p d e f g) = same-lanes n _ refl
  call-lanes {n = n} (Call.hands_received t buffer from sport prio len p d e f g) = same-lanes n _ refl

  filling-rules : Rules w (SaysTrue (sent_on w)) (λ h. HostTied (to_host w h))
  filling-rules = record {
    quiet = λ h m e f. quiet (to_host w h) (node_at w h) m (ports-same (node_at w h) m f) (lanes-same (node_at w h) m e);
    hears = λ h wire good. heard h wire _ good (hear-is h (host_count w) (node_at w h) wire);
    sends = λ h out e. sending h out;
    expires = λ h peer. expiring h peer;
    calls = λ h port call k. quiet (to_host w h) (node_at w h) call.node (call-ports k) (call-lanes k).each;
  }

-- the invariant
record IsTiedWorld (w : WorldState) : Type 0 where
  lanes : (h k : ℕ) → Tied (to_host w h) (node_at w h) k

acted-tied : (n : Network) (w : WorldState) (a : Act) → IsReached n w → IsTiedWorld w → IsTiedWorld (acted w a)
acted-tied n w a r is =
    let ordered = reached-ordered n w r in
    let g : Goes (λ h. HostTied (to_host w h)) w (acted w a) = acted-goes w (SaysTrue (sent_on w)) (λ h. HostTied (to_host w h)) (filling-rules w ordered (reached-world n w r)) a ordered.links in
    record {
      lanes = λ h k.
          tied-more (port_at (node_at (acted w a) h)) (peer_of k) (prio_of k) (to_host w h k) (to_host (acted w a) h k) (length (lane_at (node_at (acted w a) h) k).got) (lane_at (node_at (acted w a) h) k).coming
          (lanes-grow w a ordered (peer_of k) (lane_of h (prio_of k))) ((g.nodes h).keeps (is.lanes h) k);
    }

-- the new world
new-node : (S : ℕ → List Message) (count k : ℕ) → Tied S (new_node count) k
new-node S count k =
    IsTied.nothing (each-replicate (λ (l : LaneState). l.coming ≡ []) (lane_count count) k new_lane new_lane refl refl)
    (λ port. each-replicate (λ o. filling_in o (peer_of k) (prio_of k) ≡ []) port_count port None None refl refl)

new-tied : (n : Network) → IsTiedWorld (new_world n)
new-tied n = record {
  lanes = λ h k.
      let count : ℕ = length n.hosts in
      let S : ℕ → List Message = to_host (new_world n) h in
      each-replicate (λ x. Tied S x k) count h (new_node count) (new_node 0) (new-node S count k) (new-node S 0 k);
}

pub coming-tied : ComingIsTied
coming-tied n w is c low =
    let all : IsTiedWorld w = reached-has IsTiedWorld n (new-tied n) (λ w a r may. acted-tied n w a r) w is in
    let k : ℕ = taking_lane c in
    let l : LaneState = lane_at (node_at w c.dst) k in
    let prio : prio_of k ≡ c.prio = prio_of-lane c.src c.prio ∙ (let e : prio_place c.prio ≡ c.prio = omega (arith, low) in e) in
    subst (λ ms. IsTied (port_at (node_at w c.dst)) c.src c.prio (slice_get ms (length l.got)) l.coming) (facing-taking (sent_by_lane w) c)
    (subst (λ x. IsTied (port_at (node_at w c.dst)) c.src x (slice_get (to_host w c.dst k) (length l.got)) l.coming) prio
    (subst (λ x. IsTied (port_at (node_at w c.dst)) x (prio_of k) (slice_get (to_host w c.dst k) (length l.got)) l.coming) (peer_of-lane c.src c.prio) (all.lanes c.dst k)))

-- a fragment that a host takes in a reached world
reached-tied : (n : Network) (w : WorldState) → IsReached n w → IsTiedWorld w
reached-tied n w is = reached-has IsTiedWorld n (new-tied n) (λ w a r may. acted-tied n w a r) w is

pub reached-next : (n : Network) (w : WorldState) → IsReached n w → (host : ℕ) (h : FrameHead) (part : List ℕ) → IsHonestFrame (sent_on w) h part → h.dst ≡ host → h.seq ≡ (lane_at (node_at w host) (frame_lane h)).taken → IsNext (to_host w host (frame_lane h)) (lane_at (node_at w host) (frame_lane h)) h part
reached-next n w is host h part honest mine seq =
    let key : ConnectionKey = key_of (Frame h) in
    let sent : sent_on w key ≡ to_host w host (frame_lane h) = sym (facing-taking (sent_by_lane w) key) ∙ ap (λ x. facing (sent_by_lane w) x (frame_lane h)) mine in
    is-next key (to_host w host (frame_lane h)) (lane_at (node_at w host) (frame_lane h)) h part ((reached-ordered n w is).order host (frame_lane h)) seq (ap (λ ms. frame_of key ms h.seq) (sym sent) ∙ honest)

pub reached-held : (n : Network) (w : WorldState) → IsReached n w → (host : ℕ) (h : FrameHead) (part : List ℕ) → h.prio < 2 → IsHonestFrame (sent_on w) h part → h.dst ≡ host → h.seq ≡ (lane_at (node_at w host) (frame_lane h)).taken
    → (p : PortState) (r : Provided) → port_at (node_at w host) h.dport ≡ Some p → taker p h ≡ Some r → take h.offset r.buffer ≡ (lane_at (node_at w host) (frame_lane h)).coming
reached-held n w is host h part low honest mine seq p r at_port e =
    let m : NodeState = node_at w host in
    let k : ℕ = frame_lane h in
    let l : LaneState = lane_at m k in
    let next = reached-next n w is host h part honest mine seq in
    let prio : prio_of k ≡ h.prio = prio_of-lane h.src h.prio ∙ (let e : prio_place h.prio ≡ h.prio = omega (arith, low) in e) in
    let tied : IsTied (port_at m) h.src h.prio (slice_get (to_host w host k) (length l.got)) l.coming =
    subst (λ x. IsTied (port_at m) h.src x (slice_get (to_host w host k) (length l.got)) l.coming) prio
    (subst (λ x. IsTied (port_at m) x (prio_of k) (slice_get (to_host w host k) (length l.got)) l.coming) (peer_of-lane h.src h.prio) ((reached-tied n w is).lanes host k)) in
    front-held h part p r e (port_at m) (port_at m) next.message (slice_get (to_host w host k) (length l.got)) l.coming at_port (λ port o. refl) next.there next.to_port next.total next.offset tied
