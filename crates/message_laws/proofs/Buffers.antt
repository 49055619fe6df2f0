-- Every act leaves each provided buffer as it was provided.
use Rattle.std.proofs.Common.{◌≡◌, ◌≤◌, ◌+◌, ◌-◌, ℕ, Bool, true, false, ◌&&◌, List, [], ◌∷◌, ◌++◌, length, replicate, get_or, set, take, drop, min, map, append-nil, nat_eq, nat_lt, nat_le, Option, Some, None, IfSome, is_some, option_map, Ok, refl, sym, ap, ◌∙◌, subst, arith, length-append, if◌then◌else◌}
use Rattle.std.specs.Prelude.{◌%◌}
use Rattle.std.specs.List.{AllByRecursion, filter}
use Rattle.std.proofs.lemmas.Bool.Decides.{nat_tests}
use Rattle.std.proofs.lemmas.List.{length-replicate, drop-drop}
use Rattle.std.proofs.Math.Seq.{drop-append_seam}
use Rattle.net_defs.specs.Network.{Network}
use Rattle.net_defs.proofs.Distinct.{all-push}
use Rattle.gm_defs.specs.declared.frame.FrameHead.{FrameHead}
use Rattle.gm_defs.specs.declared.frame.GmBody.TheVariants.{Frame}
use Rattle.gm_defs.specs.declared.token.Took.{Took}
use Rattle.gm_defs.specs.declared.token.Took.TheVariants.{NotNext, NoToken, Part, Whole}
use Rattle.gm_defs.specs.Body.{piece, message_limit, number_limit, is_prio, is_offset, is_last, is_head, begins_with, frame_length, head_in, part_in, decode}
use Rattle.gm_defs.specs.declared.token.Filling.{Filling}
use Rattle.gm_defs.specs.Token.{Sending, Provided, PortState, sends_out, recvs_out, sent_tokens, received_tokens, room, is_size, size_for_length, fits, takes_at, taker}
use Rattle.gm_defs.specs.Port.{send_of, ended_by, finished, filled, filling_with, delivered, sent_with}
use Rattle.gm_defs.proofs.Bodies.{read_frame}
use Rattle.gm_defs.proofs.Choices.{both}
use Rattle.gm_defs.proofs.Found.{all-left, all-replaced, joined-front}
use Rattle.gm_defs.proofs.Numbers.{length-take, length-drop}
use Rattle.gm_defs.proofs.Sizes.{size-least}
use Rattle.gm_defs.proofs.Takers.{IsFound, found, IsTaker, passes-taker, Delivery, delivery}
use Rattle.world_defs.specs.declared.client.ClientCause.{ClientCause}
use Rattle.world_defs.specs.declared.event.Event.TheVariants.{Close}
use Rattle.world_defs.specs.declared.effect.Effect.TheVariants.{Said as Saying}
use Rattle.world_defs.specs.declared.effect.Said.{Said}
use Rattle.world_defs.specs.declared.effect.Said.TheVariants.{Count}
use Rattle.world_defs.specs.Lane.{Ticket, lane_acknowledged, tickets_finished, lane_after}
use Rattle.world_defs.specs.Node.{NodeState, Outgoing, Probe, TablePart, Reply, PartAnswer, FrameAnswer, Fragment, lane_at, with_lane, port_at, with_port, after_sending, new_node, port_count}
use Rattle.world_defs.specs.Hearing.{frame_lane, ack_lane, message_of, delivered_after, frame_took, all_finished}
use Rattle.world_defs.specs.Client.{ClientState, Called, Wanted, client_bytes, empty_buffer, close_refusal, close_unless, close_open, closed, send_accepted}
use Rattle.world_defs.specs.World.{WorldState, host_count, new_world, node_at, client_at}
use Rattle.world_defs.specs.Sound.{IsEachOnce, HasOwners, AreOwned}
use Rattle.world_defs.proofs.Calls.{IsClosable, not_refused-closable}
use Rattle.world_laws.proofs.Lists.{at-set}
use Rattle.world_defs.specs.Acts.{Act, acted, IsReached}
use Rattle.owner_laws.proofs.Owners.{always-owned}
use Rattle.message_laws.proofs.Heard.{IsHeard, quietly, of_frame, of_ack, hear-is}
use Rattle.message_laws.proofs.Hosts.{Rules, Goes, acted-goes}
use Rattle.world_defs.proofs.Reaching.{reached-has}
use Rattle.message_laws.proofs.Windows.{numbers_of, reached-windowed}
use Rattle.message_laws.proofs.Taking.{taker-prio}
use Rattle.message_laws.specs.Untouched.{held_in, IsUntouched, IsAsProvided, HandsBackAll, HandsBackBy, ProvidedBuffersAreUntouched, ClosedBuffersAreUntouched}
use Rattle.message_laws.proofs.Calls.{PortCalled, stays, opens, closes, provides, polls, IsCall, CallDoes, call-does}
use Rattle.world_defs.proofs.Lists.{each-replicate}

-- an open port whose provided buffers are untouched
abbrev AreUntouched : Option PortState → Type 0
AreUntouched o = IfSome o (λ p. AllByRecursion IsUntouched p.provided)

-- a change of a port leaves them untouched
record PortStill (o r : Option PortState) : Type 0 where
  still : AreUntouched o → AreUntouched r

port-same : (o : Option PortState) → PortStill o o
port-same o = record { still = λ a. a }

called-still : (o r : Option PortState) → PortCalled o r → PortStill o r
called-still o r (stays e) = record { still = subst AreUntouched (sym e) }
called-still o r (opens sends recvs e d) = record { still = λ a. subst AreUntouched (sym d) tt }
called-still o r (closes p e none d) = record { still = λ a. subst AreUntouched (sym d) tt }
called-still o r (provides p token size prio e d) =
    let new : Provided = record { token = token; size = size; prio = prio; filling = None; buffer = empty_buffer size } in
    record { still = λ a. subst AreUntouched (sym d) (all-push IsUntouched p.provided new (subst AreUntouched e a) (record { long = length-replicate {A = ℕ} (room size) 0; others = refl; fitting = tt })) }
called-still o r (polls p e d) = record { still = λ a. subst AreUntouched (sym d) (subst AreUntouched e a) }

-- a buffer with bytes from a place on is as long as before, and the same after them
written-long : (buffer part : List ℕ) (offset : ℕ) → offset + length part ≤ length buffer → length (filled buffer offset part) ≡ length buffer
written-long buffer part offset low =
    let front : List ℕ = take offset buffer ++ part in
    let rest : List ℕ = drop (offset + length part) buffer in
    let a = length-append front rest in
    let b = length-append (take offset buffer) part in
    let c = length-take offset buffer in
    let d = length-drop (offset + length part) buffer in
    ap length (joined-front (take offset buffer) part rest) ∙ omega (arith, a, b, c, d, low)

pub written-behind : (buffer part : List ℕ) (offset : ℕ) → offset ≤ length buffer → drop (offset + length part) (filled buffer offset part) ≡ drop (offset + length part) buffer
written-behind buffer part offset low =
    let front : List ℕ = take offset buffer ++ part in
    let rest : List ℕ = drop (offset + length part) buffer in
    let a = length-append (take offset buffer) part in
    let c = length-take offset buffer in
    let long : offset + length part ≡ length front = omega (arith, a, c, low) in
    ap (drop (offset + length part)) (joined-front (take offset buffer) part rest) ∙ ap (λ k. drop k (front ++ rest)) long ∙ drop-append_seam front rest

-- a size that passes the test is the one for the length
pub least-size : (size : ℕ) (o : Option ℕ) → is_size size o ≡ true → o ≡ Some size
least-size size None e = cc
least-size size (Some least) e = ap Some (same e)
  where
    same : nat_eq size least ≡ true → least ≡ size
    same t = grind (arith, nat_tests)

-- the room of a token that fits
fits-room : (size prio len other : ℕ) → fits size prio len other ≡ true → len ≤ room size
fits-room size prio len other e =
    let least = least-size size (size_for_length len) (both (is_size size (size_for_length len)) (nat_eq prio other) e).0 in
    (size-least len size least).has_room

-- a token that takes a fragment holds what comes before it, and fits
pub record HoldsFront (h : FrameHead) (r : Provided) : Type 0 where
  pub held : held_in r.filling ≡ h.offset
  pub fitting : fits r.size r.prio h.total h.prio ≡ true

pub taker-holds : (p : PortState) (h : FrameHead) (r : Provided) → IsTaker p h r → IsUntouched r → HoldsFront h r
taker-holds p h r (IsTaker.opens a b c d) is = record { held = ap held_in c ∙ sym a; fitting = d }
taker-holds p h r (IsTaker.goes_on f a b c d e g) is = record {
  held = ap held_in b ∙ e;
  fitting = ap (fits r.size r.prio h.total) (sym g) ∙ ap (λ n. fits r.size r.prio n r.prio) (sym d) ∙ subst (λ o. IfSome o (λ x. fits r.size r.prio x.total r.prio ≡ true)) b is.fitting;
}

filling-still : (p : PortState) (h : FrameHead) (part : List ℕ) (r : Provided) → h.offset + length part ≤ h.total → taker p h ≡ Some r → IsUntouched r → IsUntouched (filling_with h part r)
filling-still p h part r low e is =
    let t : IsTaker p h r = passes-taker p h r (IsFound.passes (found (takes_at p h) p.provided r e)) in
    let k : HoldsFront h r = taker-holds p h r t is in
    let prio : r.prio ≡ h.prio = taker-prio p h r t in
    let long = is.long in
    let roomy = fits-room r.size r.prio h.total h.prio k.fitting in
    record {
      long = written-long r.buffer part h.offset (omega (arith, low, long, roomy)) ∙ is.long;
      others = written-behind r.buffer part h.offset (omega (arith, low, long, roomy)) ∙ behind h.offset (length part) r.buffer (empty_buffer r.size) (ap (λ n. drop n r.buffer) (sym k.held) ∙ is.others ∙ ap (λ n. drop n (empty_buffer r.size)) k.held);
      fitting = ap (fits r.size r.prio h.total) prio ∙ k.fitting;
    }
  where
    -- what is the same from a place on is the same from a later one on
    behind : (n k : ℕ) (xs ys : List ℕ) → drop n xs ≡ drop n ys → drop (n + k) xs ≡ drop (n + k) ys
    behind n k xs ys e =
        sym (drop-drop k n xs) ∙ ap (drop k) e ∙ drop-drop k n ys

delivered-still : (h : FrameHead) (part : List ℕ) (o : Option PortState) → h.offset + length part ≤ h.total → PortStill o (option_map (λ p. delivered p h part) o)
delivered-still h part None low = port-same None
delivered-still h part (Some p) low = record { still = by (delivery p h part) }
  where
    by : {q : PortState} → Delivery p h part q → AllByRecursion IsUntouched p.provided → AllByRecursion IsUntouched q.provided
    by (Delivery.missed e) a = a
    by (Delivery.ends r e d) a = all-left IsUntouched (takes_at p h) p.provided a
    by (Delivery.goes_on r e d) a = all-replaced IsUntouched (takes_at p h) p.provided r (filling_with h part r) e (filling-still p h part r low e) a

finished-still : (t : ℕ) (o : Option PortState) → PortStill o (option_map (λ p. finished p t) o)
finished-still t None = port-same None
finished-still t (Some p) = record { still = by (send_of p t) }
  where
    by : (s : Option Sending) → AllByRecursion IsUntouched p.provided → AllByRecursion IsUntouched (ended_by p t s).provided
    by None a = a
    by (Some s) a = a

-- a change of a host leaves those of each port untouched
record HostStill (n m : NodeState) : Type 0 where
  each : (port : ℕ) → PortStill (port_at n port) (port_at m port)

host-same : (n m : NodeState) → m.ports ≡ n.ports → HostStill n m
host-same n m e = record { each = λ port. subst (λ ps. PortStill (port_at n port) (get_or ps port None)) (sym e) (port-same (port_at n port)) }

host-set : (n m : NodeState) (port : ℕ) (o : Option PortState) → m.ports ≡ set n.ports port o → PortStill (port_at n port) o → HostStill n m
host-set n m port o e k = record {
  each = λ j.
      let now : PortStill (port_at n j) (get_or (set n.ports port o) j None) = at-set PortStill port-same n.ports port j o None k in
      subst (λ ps. PortStill (port_at n j) (get_or ps j None)) (sym e) now;
}

host-then : (n m o : NodeState) → HostStill n m → HostStill m o → HostStill n o
host-then n m o k l = record { each = λ port. record { still = λ a. (l.each port).still ((k.each port).still a) } }

all_finished-still : (n : NodeState) (ts : List Ticket) → HostStill n (all_finished n ts)
all_finished-still n [] = host-same n n refl
all_finished-still n (t ∷ ts) =
    let o : Option PortState = option_map (λ p. finished p t.token) (port_at n t.port) in
    host-then n (with_port n t.port o) (all_finished n (t ∷ ts)) (host-set n (with_port n t.port o) t.port o refl (finished-still t.token (port_at n t.port))) (all_finished-still (with_port n t.port o) ts)

delivered_after-still : (n : NodeState) (h : FrameHead) (part : List ℕ) (t : Took) → h.offset + length part ≤ h.total → HostStill n (delivered_after n h part t)
delivered_after-still n h part NotNext low = host-same n n refl
delivered_after-still n h part NoToken low = host-same n n refl
delivered_after-still n h part Part low = host-set n (delivered_after n h part Part) h.dport (option_map (λ p. delivered p h part) (port_at n h.dport)) refl (delivered-still h part (port_at n h.dport) low)
delivered_after-still n h part Whole low = host-set n (delivered_after n h part Whole) h.dport (option_map (λ p. delivered p h part) (port_at n h.dport)) refl (delivered-still h part (port_at n h.dport) low)

-- a frame that is read carries bytes of its message
within-total : (total offset : ℕ) → is_offset total offset ≡ true → offset ≤ total
within-total total offset e = by (nat_eq total 0) (both (nat_eq (offset % piece) 0) (if nat_eq total 0 then nat_eq offset 0 else nat_lt offset total) e).1
  where
    by : (b : Bool) → (if b then nat_eq offset 0 else nat_lt offset total) ≡ true → offset ≤ total
    by true d = grind (arith, nat_tests)
    by false d = grind (arith, nat_tests)

record IsRead (h : FrameHead) (part : List ℕ) : Type 0 where
  inside : h.offset ≤ h.total
  long : length part ≡ min piece (h.total - h.offset)

read-so : (body : List ℕ) (h : FrameHead) → decode body ≡ Ok (Frame h) → IsRead h (part_in body)
read-so body h e =
    let r = read_frame body h e in
    let last = both (nat_le frame_length (length body) && begins_with 1 body && is_head (head_in body)) (nat_eq (length (part_in body)) (head_in body).len) r.0 in
    let head = both (nat_le frame_length (length body) && begins_with 1 body) (is_head (head_in body)) last.0 in
    bound (ap is_head (sym r.1) ∙ head.1) (ap (λ (x : FrameHead). nat_eq (length (part_in body)) x.len) (sym r.1) ∙ last.1)
  where
    bound : is_head h ≡ true → nat_eq (length (part_in body)) h.len ≡ true → IsRead h (part_in body)
    bound t long =
        let ports : Bool = nat_lt h.sport 8 && nat_lt h.dport 8 && is_prio h.prio in
        let a = both (ports && nat_lt h.seq number_limit && nat_le h.total message_limit && is_offset h.total h.offset) (nat_eq h.len (min piece (h.total - h.offset))) t in
        let b = both (ports && nat_lt h.seq number_limit && nat_le h.total message_limit) (is_offset h.total h.offset) a.0 in
        let inside : h.offset ≤ h.total = within-total h.total h.offset b.1 in
        let len : h.len ≡ min piece (h.total - h.offset) = let k = a.1 in grind (arith, nat_tests) in
        let same : length (part_in body) ≡ h.len = grind (arith, nat_tests) in
        record { inside = inside; long = same ∙ len }

pub read-within : (body : List ℕ) (h : FrameHead) → decode body ≡ Ok (Frame h) → h.offset + length (part_in body) ≤ h.total
read-within body h e = let r = read-so body h e in let a = r.inside in let b = r.long in omega (arith, a, b)

-- the last fragment has all bytes up to its message's end
pub read-last : (body : List ℕ) (h : FrameHead) → decode body ≡ Ok (Frame h) → is_last h.total h.offset ≡ true → h.offset + length (part_in body) ≡ h.total
read-last body h e t =
    let r = read-so body h e in
    let a = r.inside in
    let b = r.long in
    let few : h.total - h.offset ≤ piece = grind (arith, nat_tests) in
    omega (arith, a, b, few)

heard-still : (host hosts : ℕ) (n : NodeState) (wire : List ℕ) (m : NodeState) → IsHeard host hosts n wire m → HostStill n m
heard-still host hosts n wire m (quietly e f) = host-same n m f
heard-still host hosts n wire m (of_frame body h e d mine there now) =
    let v : NodeState = with_lane n (frame_lane h) (lane_after (lane_at n (frame_lane h)) (frame_took n h) (message_of h (part_in body))) in
    let after : NodeState = delivered_after v h (part_in body) (frame_took n h) in
    subst (HostStill n) (sym now) (host-then n v after (host-same n v refl) (delivered_after-still v h (part_in body) (frame_took n h) (read-within body h d)))
heard-still host hosts n wire m (of_ack body a e d mine there now) =
    let v : NodeState = with_lane n (ack_lane a) (lane_acknowledged (lane_at n (ack_lane a)) a.next) in
    let gone : List Ticket = tickets_finished (lane_at n (ack_lane a)) a.next in
    subst (HostStill n) (sym now) (host-then n v (all_finished v gone) (host-same n v refl) (all_finished-still v gone))

sending-still : (n : NodeState) (out : Outgoing) → HostStill n (after_sending n out)
unfolding after_sending
sending-still n (Probe walk looped) = host-same n (record n { staged = None }) refl
sending-still n (TablePart part by) = host-same n (record n { staged = None }) refl
sending-still n (Reply r) = host-same n (record n { reply = None }) refl
sending-still n (PartAnswer a) = host-same n (record n { part_ack = None }) refl
sending-still n (FrameAnswer lane next by) = host-same n (with_lane n lane _) refl
sending-still n (Fragment lane head part by) = host-same n (with_lane n lane _) refl

send-still : (n : NodeState) (s : Wanted) (p : PortState) (c : ClientState) (t : ℕ) (ts : List ℕ) → port_at n s.port ≡ Some p → HostStill n (send_accepted n s p c t ts).node
send-still n s p c t ts e =
    host-set n (send_accepted n s p c t ts).node s.port (Some (sent_with p t (client_bytes s.len s.seed))) refl (record { still = λ a. subst AreUntouched e a })

call-still : (n : NodeState) (port : ℕ) (call : Called) → IsCall n port call → HostStill n call.node
call-still n port call is = host-set n call.node port is.after is.ports (called-still (port_at n port) is.after is.change)

does-still : {n : NodeState} {c : Option ClientState} {port : ℕ} {call : Called} → CallDoes n c port call → HostStill n call.node
does-still {n = n} (CallDoes.at_port {port = port} {call = call} i e) = call-still n port call i
does-still {n = n} (CallDoes.accepts s p d t ts e f g k) = send-still n s p d t ts e

abbrev Still : ℕ → NodeState → NodeState → Type 0
Still h n m = HostStill n m

buffer-rules : (w : WorldState) → Rules w (numbers_of w) Still
buffer-rules w = record {
  quiet = λ h m e f. host-same (node_at w h) m f;
  hears = λ h wire good. heard-still h (host_count w) (node_at w h) wire _ (hear-is h (host_count w) (node_at w h) wire);
  sends = λ h out e. sending-still (node_at w h) out;
  expires = λ h peer. host-same (node_at w h) _ refl;
  calls = λ h port call k. does-still (call-does k);
}

-- the invariant
record IsUntouchedWorld (n : Network) (w : WorldState) : Type 0 where
  ports : (h port : ℕ) → AreUntouched (port_at (node_at w h) port)

acted-untouched : (n : Network) (w : WorldState) (a : Act) → IsReached n w → IsUntouchedWorld n w → IsUntouchedWorld n (acted w a)
acted-untouched n w a r is =
    let g : Goes Still w (acted w a) = acted-goes w (numbers_of w) Still (buffer-rules w) a (reached-windowed n w r).links in
    record { ports = λ h port. ((g.nodes h).each port).still (is.ports h port) }

new-untouched : (n : Network) (h port : ℕ) → AreUntouched (port_at (node_at (new_world n) h) port)
new-untouched n h port =
    let k : ℕ = length n.hosts in
    let none : AreUntouched (get_or (replicate {A = Option PortState} port_count None) port None) = each-replicate AreUntouched port_count port None None tt tt in
    each-replicate (λ m. AreUntouched (port_at m port)) k h (new_node k) (new_node 0) none none

pub provided-untouched : ProvidedBuffersAreUntouched
provided-untouched n w is h port p e =
    let all : IsUntouchedWorld n w = reached-has (IsUntouchedWorld n) n (record { ports = new-untouched n }) (λ w a r may. acted-untouched n w a r) w is in
    subst AreUntouched e (all.ports h port)

-- a close that hands buffers back was of an open port, of which no token was filling
closed-back : (n : NodeState) (port count : ℕ) (c : Option ClientState) (o : Option PortState) → (close_open n port c o).said ≡ Count count → (p : PortState) × ((o ≡ Some p) × ((length p.provided ≡ count) × IsClosable p))
closed-back n port count c None e = cc
closed-back n port count c (Some p) e = by (close_refusal p) refl e
  where
    by : (r : Option ClientCause) → close_refusal p ≡ r → (close_unless n port c p r).said ≡ Count count → (q : PortState) × ((Some p ≡ Some q) × ((length q.provided ≡ count) × IsClosable q))
    by (Some cause) f d = cc
    by None f d = (p, (refl, (cc, not_refused-closable p f)))

said-back : (n : NodeState) (port count : ℕ) (c : Option ClientState) → (closed n port c).said ≡ Count count → (p : PortState) × ((port_at n port ≡ Some p) × ((length p.provided ≡ count) × IsClosable p))
unfolding closed
said-back n port count c e = closed-back n port count c (port_at n port) e

-- buffers that hold nothing of a message
all-empty : (rs : List Provided) → length (filter (λ r. is_some r.filling) rs) ≡ 0 → AllByRecursion IsUntouched rs → AllByRecursion IsAsProvided rs
all-empty [] none all = tt
all-empty (r ∷ rs) none all = by r.filling refl none all.0 (λ d. all-empty rs d all.1)
  where
    by : (o : Option Filling) → r.filling ≡ o → length (if is_some o then r ∷ filter (λ r. is_some r.filling) rs else filter (λ r. is_some r.filling) rs) ≡ 0 → IsUntouched r
        → (length (filter (λ r. is_some r.filling) rs) ≡ 0 → AllByRecursion IsAsProvided rs) → AllByRecursion IsAsProvided (r ∷ rs)
    by (Some f) e d is rest = absurd (omega (arith, d))
    by None e d is rest = (record { holds_none = e; zeros = subst (λ o. drop (held_in o) r.buffer ≡ drop (held_in o) (empty_buffer r.size)) e is.others }, rest d)

-- the client of an open port, and whose its tokens are
record IsHeldBy (p : PortState) (c : Option ClientState) : Type 0 where
  client : ClientState
  there : c ≡ Some client
  owners : HasOwners p client

held-by : (p : PortState) (o : Option PortState) (c : Option ClientState) → o ≡ Some p → AreOwned o c → IsHeldBy p c
held-by p o c e is = by c refl (subst (λ q. AreOwned q c) e is)
  where
    by : (d : Option ClientState) → c ≡ d → AreOwned (Some p) d → IsHeldBy p c
    by (Some d) there k = record { client = d; there = there; owners = k }
    by None there k = absurd k

reached-held : (n : Network) (w : WorldState) → IsReached n w → (h port : ℕ) (p : PortState) → port_at (node_at w h) port ≡ Some p → IsHeldBy p (client_at w h port)
reached-held n w is h port p e =
    held-by p (port_at (node_at w h) port) (client_at w h port) e
    (subst (λ v. AreOwned (port_at (node_at v h) port) (client_at v h port)) (sym is.leads) (always-owned n is.acts h port))

-- no send is left and no event waits, so the tokens are with the client and with the provided buffers
no-length : {A : Type 0} (xs : List A) → length xs ≡ 0 → xs ≡ []
no-length [] e = refl
no-length (x ∷ xs) e = absurd (omega (arith, e))

closable-sends : (p : PortState) (c : ClientState) → IsClosable p → HasOwners p c → IsEachOnce p.sends c.sends
closable-sends p c k is =
    let none : sends_out p ≡ [] = ap (λ q. map (λ (s : Sending). s.token) q ++ sent_tokens p.events) (no-length p.queue k.finished) ∙ ap sent_tokens (no-length p.events k.read) in
    subst (IsEachOnce p.sends) (ap (λ l. c.sends ++ l) none ∙ append-nil c.sends) is.sends

closable-recvs : (p : PortState) (c : ClientState) → IsClosable p → HasOwners p c → IsEachOnce p.recvs (c.recvs ++ map (λ r. r.token) p.provided)
closable-recvs p c k is =
    let tokens : List ℕ = map (λ (r : Provided). r.token) p.provided in
    let same : recvs_out p ≡ tokens = ap (λ es. tokens ++ received_tokens es) (no-length p.events k.read) ∙ append-nil tokens in
    subst (IsEachOnce p.recvs) (ap (λ l. c.recvs ++ l) same) is.recvs

closed-back_untouched : (n : Network) (w : WorldState) → IsReached n w → (h port count : ℕ) → (closed (node_at w h) port (client_at w h port)).said ≡ Count count → HandsBackAll w h port count
closed-back_untouched n w is h port count e =
    let back = said-back (node_at w h) port count (client_at w h port) e in
    let p : PortState = back.0 in
    let k : IsClosable p = back.1.1.1 in
    let held : IsHeldBy p (client_at w h port) = reached-held n w is h port p back.1.0 in
    record {
      port_state = p;
      was_open = back.1.0;
      client = held.client;
      was_held = held.there;
      as_many = back.1.1.0;
      untouched = all-empty p.provided k.whole (provided-untouched n w is h port p back.1.0);
      recvs = closable-recvs p held.client k held.owners;
      sends = closable-sends p held.client k held.owners;
    }

pub closed-untouched : ClosedBuffersAreUntouched
closed-untouched n w is (Close h port) = by (closed (node_at w h) port (client_at w h port)).said refl
  where
    by : (s : Said) → (closed (node_at w h) port (client_at w h port)).said ≡ s → HandsBackBy w (Close h port) (Saying s)
    by (Count count) e = closed-back_untouched n w is h port count e
    by _ e = tt
closed-untouched n w is _ = tt
