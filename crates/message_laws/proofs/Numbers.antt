-- What each change of a connection makes of its numbers: what is acknowledged rises to what was taken at most, and what was taken to what was sent at most.
use Rattle.std.proofs.Common.{◌≡◌, ◌+◌, ◌≤◌, ◌<◌, ℕ, Bool, true, false, ◌&&◌, List, max, nat_eq, nat_lt, nat_le, get_or, Option, Some, None, Ok, refl, sym, ap, ◌∙◌, subst, arith, if◌then◌else◌}
use Rattle.std.proofs.lemmas.Bool.Decides.{nat_tests}
use Rattle.packet_defs.specs.declared.kind.Kind.{Kind}
use Rattle.packet_defs.specs.declared.kind.Kind.TheVariants.{Mapping, Gm}
use Rattle.packet_defs.specs.Host.{decode as decode_packet}
use Rattle.gm_defs.specs.declared.message.Message.{Message}
use Rattle.gm_defs.specs.declared.frame.ConnectionKey.{ConnectionKey}
use Rattle.gm_defs.specs.declared.frame.GmBody.{GmBody}
use Rattle.gm_defs.specs.declared.frame.GmBody.TheVariants.{Frame, Ack as Acknowledges}
use Rattle.gm_defs.specs.declared.token.Took.TheVariants.{NotNext, NoToken}
use Rattle.gm_defs.specs.Body.{decode, part_in}
use Rattle.gm_defs.specs.Connection.{SenderState, key_of, window, due, is_taken, acknowledged, taken_as, took, taken_after}
use Rattle.gm_defs.proofs.Choices.{both}
use Rattle.world_defs.specs.Lane.{LaneState, new_lane, with_message, lane_acknowledged, tickets_finished, lane_expired, lane_sent_one, lane_answered, lane_after}
use Rattle.world_defs.specs.Node.{NodeState, Outgoing, Probe, TablePart, Reply, PartAnswer, FrameAnswer, Fragment, lane_of, sending_lane, taking_lane, lane_at, with_lane, to_send, after_sending, with_expired, node_expired}
use Rattle.world_defs.proofs.Lanes.{facing, facing-taking, facing-sending}
use Rattle.world_defs.specs.Hearing.{message_of, frame_lane, ack_lane, frame_took, hear}
use Rattle.world_defs.specs.Client.{ClientState, Called, wanted_lane, wanted_message}
use Rattle.world_defs.proofs.Calls.{Call}
use Rattle.world_defs.proofs.Lists.{each-set}
use Rattle.world_defs.proofs.Hearings.{delivered_after-lanes, all_finished-lanes}
use Rattle.message_laws.proofs.Heard.{IsHeard, quietly, of_frame, of_ack, hear-is}
use Rattle.message_laws.proofs.Sends.{IsOut, to_send-out}

-- what a body says, where these are the tops of the connections' senders and what was taken from them
abbrev pub IsWithin : (ConnectionKey → ℕ) → (ConnectionKey → ℕ) → GmBody → Type 0
IsWithin top taken (Frame h) = h.seq < top (key_of (Frame h))
IsWithin top taken (Acknowledges a) = a.next ≤ taken (key_of (Acknowledges a))

-- a frame's number was sent, and an acknowledgement's was taken; other bodies say nothing of numbers
abbrev pub SaysWithin : (ConnectionKey → ℕ) → (ConnectionKey → ℕ) → Kind → List ℕ → Type 0
SaysWithin top taken Mapping body = Unit {0}
SaysWithin top taken Gm body = (b : GmBody) → decode body ≡ Ok b → IsWithin top taken b

within-more : (top taken top_then taken_then : ConnectionKey → ℕ) → ((c : ConnectionKey) → top c ≤ top_then c) → ((c : ConnectionKey) → taken c ≤ taken_then c) → (b : GmBody) → IsWithin top taken b → IsWithin top_then taken_then b
within-more top taken top_then taken_then f g (Frame h) is = let more = f (key_of (Frame h)) in omega (arith, is, more)
within-more top taken top_then taken_then f g (Acknowledges a) is = let more = g (key_of (Acknowledges a)) in omega (arith, is, more)

pub says-more : (top taken top_then taken_then : ConnectionKey → ℕ) → ((c : ConnectionKey) → top c ≤ top_then c) → ((c : ConnectionKey) → taken c ≤ taken_then c) → (k : Kind) (body : List ℕ) → SaysWithin top taken k body → SaysWithin top_then taken_then k body
says-more top taken top_then taken_then f g Mapping body is = tt
says-more top taken top_then taken_then f g Gm body is = λ b e. within-more top taken top_then taken_then f g b (is b e)

-- what a change of a lane keeps, where this is the top of the sender that it takes from, and so many were taken of what it sends
pub record LaneGoes (top taken : ℕ) (p q : LaneState) : Type 0 where
  pub base : q.sender.base ≤ max p.sender.base taken
  pub top_rises : p.sender.top ≤ q.sender.top
  pub few : p.sender.top ≤ p.sender.base + window → q.sender.top ≤ q.sender.base + window
  pub taken_rises : p.taken ≤ q.taken
  pub below : q.taken ≤ max p.taken top

-- the numbers of the sender, and those of the receiver
sender-goes : (top taken : ℕ) (p q : LaneState) → q.taken ≡ p.taken → q.sender.base ≤ max p.sender.base taken → p.sender.top ≤ q.sender.top → (p.sender.top ≤ p.sender.base + window → q.sender.top ≤ q.sender.base + window) → LaneGoes top taken p q
sender-goes top taken p q e b t f = record { base = b; top_rises = t; few = f; taken_rises = omega (arith, e); below = omega (arith, e) }

lane-same : (top taken : ℕ) (p q : LaneState) → q.sender.base ≡ p.sender.base → q.sender.top ≡ p.sender.top → q.taken ≡ p.taken → LaneGoes top taken p q
lane-same top taken p q b t e = sender-goes top taken p q e (omega (arith, b)) (omega (arith, t)) (λ f. omega (arith, f, b, t))

-- the due number
pub record IsDueNumber (s : SenderState) (k : ℕ) : Type 0 where
  pub is : k ≡ s.cursor
  pub offered : s.cursor < s.next
  pub within : s.cursor < s.base + window

pub due-number : (s : SenderState) (k : ℕ) → due s ≡ Some k → IsDueNumber s k
due-number s k e = by (nat_lt s.cursor s.next) (nat_lt s.cursor (s.base + window)) refl refl e
  where
    by : (a b : Bool) → nat_lt s.cursor s.next ≡ a → nat_lt s.cursor (s.base + window) ≡ b → (if a && b then Some s.cursor else None) ≡ Some k → IsDueNumber s k
    by true true t u d = record { is = cc; offered = grind (arith, nat_tests); within = grind (arith, nat_tests) }
    by true false t u d = cc
    by false b t u d = cc

sent_one-goes : (top taken : ℕ) (p : LaneState) (k : ℕ) → due p.sender ≡ Some k → LaneGoes top taken p (lane_sent_one p)
sent_one-goes top taken p k e =
    let d = (due-number p.sender k e).within in
    sender-goes top taken p (lane_sent_one p) refl (omega arith) (omega arith) (λ f. omega (arith, f, d))

acknowledged-goes : (top taken : ℕ) (p : LaneState) (n : ℕ) → n ≤ taken → LaneGoes top taken p (lane_acknowledged p n)
acknowledged-goes top taken p n low = by (is_taken p.sender n) refl
  where
    s : SenderState
    s = p.sender

    after : Bool → SenderState
    after b = if b then record s { base = n; cursor = max s.cursor n } else s

    base : (b : Bool) → (after b).base ≤ max s.base taken
    base true = omega (arith, low)
    base false = omega arith

    top_same : (b : Bool) → (after b).top ≡ s.top
    top_same true = refl
    top_same false = refl

    rises : (b : Bool) → is_taken s n ≡ b → s.base ≤ (after b).base
    rises true e = let l = (both (nat_lt s.base n) (nat_le n s.top) e).0 in grind (arith, nat_tests)
    rises false e = omega arith

    by : (b : Bool) → is_taken s n ≡ b → LaneGoes top taken p (lane_acknowledged p n)
    by b e =
        let same : acknowledged s n ≡ after b = ap after e in
        let lower : (acknowledged s n).base ≤ max s.base taken = subst (λ t. t.base ≤ max s.base taken) (sym same) (base b) in
        let tops : (acknowledged s n).top ≡ s.top = ap (λ t. t.top) same ∙ top_same b in
        let up : s.base ≤ (acknowledged s n).base = subst (λ t. s.base ≤ t.base) (sym same) (rises b e) in
        sender-goes top taken p (lane_acknowledged p n) refl lower (omega (arith, tops)) (λ f. omega (arith, f, tops, up))

took-goes : (taken seq top : ℕ) (fits last : Bool) → seq < top → (taken ≤ taken_after taken (took taken seq fits last)) × (taken_after taken (took taken seq fits last) ≤ max taken top)
took-goes taken seq top fits last low = by (nat_eq seq taken) fits last refl
  where
    by : (a b c : Bool) → nat_eq seq taken ≡ a → (taken ≤ taken_after taken (if a then if b then taken_as c else NoToken else NotNext)) × (taken_after taken (if a then if b then taken_as c else NoToken else NotNext) ≤ max taken top)
    by true true true e = let same : seq ≡ taken = grind (arith, nat_tests) in (omega arith, omega (arith, same, low))
    by true true false e = let same : seq ≡ taken = grind (arith, nat_tests) in (omega arith, omega (arith, same, low))
    by true false c e = (omega arith, omega arith)
    by false b c e = (omega arith, omega arith)

frame-goes : (top taken : ℕ) (p : LaneState) (seq : ℕ) (fits last : Bool) (m : Message) → seq < top → LaneGoes top taken p (lane_after p (took p.taken seq fits last) m)
frame-goes top taken p seq fits last m low =
    let t = took-goes p.taken seq top fits last low in
    record { base = omega arith; top_rises = omega arith; few = λ f. f; taken_rises = t.0; below = t.1 }

-- what a change of a host keeps, by its lanes
pub record NodeGoes (top taken : ℕ → ℕ) (n m : NodeState) : Type 0 where
  pub lanes : (p : ℕ) → LaneGoes (top p) (taken p) (lane_at n p) (lane_at m p)

pub node-same : (top taken : ℕ → ℕ) (n m : NodeState) → m.lanes ≡ n.lanes → NodeGoes top taken n m
node-same top taken n m e = record { lanes = λ p. subst (λ l. LaneGoes (top p) (taken p) (lane_at n p) (get_or l p new_lane)) (sym e) (lane-same (top p) (taken p) (lane_at n p) (lane_at n p) refl refl refl) }

-- one lane goes on, and further changes leave the lanes
lane-node : (top taken : ℕ → ℕ) (n m : NodeState) (k : ℕ) (q : LaneState) → LaneGoes (top k) (taken k) (lane_at n k) q → m.lanes ≡ (with_lane n k q).lanes → NodeGoes top taken n m
lane-node top taken n m k q here e = record {
  lanes = λ p. subst (λ l. LaneGoes (top p) (taken p) (lane_at n p) (get_or l p new_lane)) (sym e)
      (each-set (λ j x. LaneGoes (top j) (taken j) (lane_at n j) x) n.lanes k p q new_lane here (λ j. lane-same (top j) (taken j) (lane_at n j) (lane_at n j) refl refl refl));
}

-- what each host has by the lanes on which it sends, and by those from which it takes, for a connection
abbrev pub sending : {X : Type 0} → (ℕ → ℕ → X) → ConnectionKey → X
sending f c = f c.src (sending_lane c)

abbrev pub taking : {X : Type 0} → (ℕ → ℕ → X) → ConnectionKey → X
taking f c = f c.dst (taking_lane c)

module _ (tops takens : ℕ → ℕ → ℕ) (host hosts : ℕ) (n : NodeState) where
  -- what a host hears, where all that it reads is so
  pub hear-goes : (wire : List ℕ) → ((k : Kind) (body : List ℕ) → decode_packet wire ≡ Ok (k, body) → SaysWithin (sending tops) (taking takens) k body) → NodeGoes (facing tops host) (facing takens host) n (hear host hosts n wire).1
  hear-goes wire good = by (hear host hosts n wire).1 (hear-is host hosts n wire)
    where
      by : (m : NodeState) → IsHeard host hosts n wire m → NodeGoes (facing tops host) (facing takens host) n m
      by m (quietly e f) = node-same (facing tops host) (facing takens host) n m e
      by m (of_frame body h e d mine there is) =
          let c : ConnectionKey = key_of (Frame h) in
          let lane : ℕ = frame_lane h in
          let here : h.seq < sending tops c = good Gm body e (Frame h) d in
          let other : sending tops c ≡ facing tops host lane = sym (facing-taking tops c) ∙ ap (λ x. facing tops x lane) mine in
          let low : h.seq < facing tops host lane = omega (arith, here, other) in
          let q : LaneState = lane_after (lane_at n lane) (frame_took n h) (message_of h (part_in body)) in
          lane-node (facing tops host) (facing takens host) n m lane q
          (frame-goes (facing tops host lane) (facing takens host lane) (lane_at n lane) h.seq _ _ (message_of h (part_in body)) low)
          (ap (λ x. x.lanes) is ∙ delivered_after-lanes (with_lane n lane q) h (part_in body) (frame_took n h))
      by m (of_ack body a e d mine there is) =
          let c : ConnectionKey = key_of (Acknowledges a) in
          let lane : ℕ = ack_lane a in
          let here : a.next ≤ taking takens c = good Gm body e (Acknowledges a) d in
          let other : taking takens c ≡ facing takens host lane = sym (facing-sending takens c) ∙ ap (λ x. facing takens x lane) mine in
          let low : a.next ≤ facing takens host lane = omega (arith, here, other) in
          let q : LaneState = lane_acknowledged (lane_at n lane) a.next in
          lane-node (facing tops host) (facing takens host) n m lane q
          (acknowledged-goes (facing tops host lane) (facing takens host lane) (lane_at n lane) a.next low)
          (ap (λ x. x.lanes) is ∙ all_finished-lanes (with_lane n lane q) (tickets_finished (lane_at n lane) a.next))

module _ (top taken : ℕ → ℕ) (n : NodeState) where
  -- what it sends
  after_sending-goes : (host : ℕ) (out : Outgoing) → IsOut host n out → NodeGoes top taken n (after_sending n out)
  unfolding after_sending
  after_sending-goes host (Probe walk looped) is = node-same top taken n _ refl
  after_sending-goes host (TablePart part by) is = node-same top taken n _ refl
  after_sending-goes host (Reply r) is = node-same top taken n _ refl
  after_sending-goes host (PartAnswer a) is = node-same top taken n _ refl
  after_sending-goes host (FrameAnswer lane next by) is = lane-node top taken n _ lane (lane_answered (lane_at n lane)) (lane-same (top lane) (taken lane) (lane_at n lane) (lane_answered (lane_at n lane)) refl refl refl) refl
  after_sending-goes host (Fragment lane head part by) is = lane-node top taken n _ lane (lane_sent_one (lane_at n lane)) (sent_one-goes (top lane) (taken lane) (lane_at n lane) is.number is.due) refl

  pub sends-goes : (host : ℕ) (out : Outgoing) → to_send host n ≡ Some out → NodeGoes top taken n (after_sending n out)
  sends-goes host out e = after_sending-goes host out (to_send-out host n out e)

-- what runs out
with_expired-goes : (top taken : ℕ → ℕ) (n : NodeState) (lane : ℕ) → NodeGoes top taken n (with_expired n lane)
with_expired-goes top taken n lane = lane-node top taken n _ lane (lane_expired (lane_at n lane)) (lane-same (top lane) (taken lane) (lane_at n lane) (lane_expired (lane_at n lane)) refl refl refl) refl

lane-then : (top taken : ℕ) (p q r : LaneState) → LaneGoes top taken p q → LaneGoes top taken q r → LaneGoes top taken p r
lane-then top taken p q r f g =
    let a = f.base in
    let b = g.base in
    let c = f.top_rises in
    let d = g.top_rises in
    let h = f.taken_rises in
    let k = g.taken_rises in
    let l = f.below in
    let m = g.below in
    record { base = omega (arith, a, b); top_rises = omega (arith, c, d); few = λ x. g.few (f.few x); taken_rises = omega (arith, h, k); below = omega (arith, l, m) }

pub expires-goes : (top taken : ℕ → ℕ) (n : NodeState) (peer : ℕ) → NodeGoes top taken n (node_expired n peer)
expires-goes top taken n peer =
    let m : NodeState = with_expired n (lane_of peer 0) in
    let first = with_expired-goes top taken n (lane_of peer 0) in
    let second = with_expired-goes top taken m (lane_of peer 1) in
    record { lanes = λ k. lane-then (top k) (taken k) (lane_at n k) (lane_at m k) (lane_at (node_expired n peer) k) (first.lanes k) (second.lanes k) }

-- what its clients call for
pub call-goes : (top taken : ℕ → ℕ) {n : NodeState} {c : Option ClientState} {port : ℕ} {call : Called} → Call n c port call → NodeGoes top taken n call.node
call-goes top taken {n = n} Call.rests = node-same top taken n _ refl
call-goes top taken {n = n} (Call.opens sends recvs d) = node-same top taken n _ refl
call-goes top taken {n = n} (Call.closes p d e) = node-same top taken n _ refl
call-goes top taken {n = n} (Call.provides size prio t ts p d e f g k) = node-same top taken n _ refl
call-goes top taken {n = n} (Call.accepts s t ts p d e f g k) =
    let lane : ℕ = wanted_lane s in
    let q : LaneState = with_message (lane_at n lane) (wanted_message s) (record { port = s.port; token = t }) in
    lane-node top taken n _ lane q (lane-same (top lane) (taken lane) (lane_at n lane) q refl refl refl) refl
call-goes top taken {n = n} (Call.hands_sent t buffer p d e f g) = node-same top taken n _ refl
call-goes top taken {n = n} (Call.hands_received t buffer from sport prio len p d e f g) = node-same top taken n _ refl
