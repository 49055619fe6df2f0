-- A pair is sound after every event, so its messages arrive in order.
use Rattle.std.proofs.Common.{◌≡◌, ◌≤◌, ◌+◌, ℕ, Bool, true, false, ◌&&◌, nat_eq, nat_le, List, [], ◌∷◌, ◌++◌, length, take, drop, Option, Some, None, option_map, refl, sym, ap, ◌∙◌, subst, arith, if◌then◌else◌}
use Rattle.std.specs.Prelude.{slice_get}
use Rattle.std.specs.List.{AllByRecursion}
use Rattle.std.proofs.lemmas.Bool.Decides.{nat_tests}
use Rattle.std.proofs.lemmas.List.{length-map, length-replicate, append-nil, map-append, take-append-drop, take-append-le}
use Rattle.std.proofs.lemmas.Option.{slice_get-map}
use Rattle.net_defs.proofs.Distinct.{all-push, all-weaker}
use Rattle.gm_defs.specs.declared.message.Message.{Message}
use Rattle.gm_defs.specs.declared.frame.FrameHead.{FrameHead}
use Rattle.gm_defs.specs.declared.frame.ConnectionKey.{ConnectionKey}
use Rattle.gm_defs.specs.declared.frame.GmBody.{GmBody}
use Rattle.gm_defs.specs.declared.frame.GmBody.TheVariants.{Frame, Ack as Acknowledges}
use Rattle.gm_defs.specs.declared.token.Took.{Took}
use Rattle.gm_defs.specs.declared.token.Took.TheVariants.{NotNext, NoToken}
use Rattle.gm_defs.specs.Body.{message_limit, is_prio, is_head, is_offset, is_last}
use Rattle.gm_defs.specs.Fragment.{Fragment, piece_count, whole_below, head_of, frame_of}
use Rattle.gm_defs.specs.Connection.{SenderState, ack_on, due, sent_one, acknowledged, expired, unacknowledged, is_spent, offered, took, taken_as, taken_after}
use Rattle.gm_defs.specs.Laws.{ComesNext}
use Rattle.gm_defs.proofs.Choices.{map-some}
use Rattle.gm_defs.proofs.Numbers.{next-fragment, more-below, below-few}
use Rattle.gm_conn.specs.declared.desc.Desc.{Desc}
use Rattle.gm_conn.specs.declared.event.PairMsg.{PairMsg}
use Rattle.gm_conn.specs.declared.event.PairEvent.{PairEvent}
use Rattle.gm_conn.specs.declared.event.PairEvent.TheVariants.{Offer, Emit, EmitAck, Deliver, Expire}
use Rattle.gm_conn.specs.Halves.{message_of, is_desc, head_for}
use Rattle.gm_conn.specs.Pair.{PairState, desc_of, messages_of, new_pair, offer, frame_packet, emit, emit_ack, whole_message, hear_frame, deliver, expire, step, after_all, IsFair, IsReached, IsInOrder}
use Rattle.gm_conn.specs.Laws.{PairInOrder}
use Rattle.gm_conn.proofs.Messages.{all-at, take-next, long-of}
use Rattle.gm_conn.proofs.Waiting.{head-is, head-by_rules}
use Rattle.gm_conn.proofs.Connections.{Conn, IsSound, Grows, Kept, IsSentFrame, frame-grows, ack-grows, offer-keeps, due-some, send-keeps, frame-at, due-sent, hear-keeps, expire-keeps, take-keeps, frame-fragment, received-within}

-- the connection of a pair
abbrev pub conn_of : PairState → Conn
conn_of p = record { key = p.key; numbers = p.numbers; received = p.received; sent = messages_of p.key p.offered }

-- a packet that was emitted on a connection
abbrev pub IsCarried : Conn → GmBody → Type 0
IsCarried c (Frame h) = (part : List ℕ) × IsSentFrame c h part
IsCarried c (Acknowledges a) = a.next ≤ c.received

carried-grows : (c d : Conn) (b : GmBody) → Grows c d → IsCarried c b → IsCarried d b
carried-grows c d (Frame h) g k = (k.0, frame-grows c d h k.0 g k.1)
carried-grows c d (Acknowledges a) g k = ack-grows c d a g k

abbrev pub AreByRules : ConnectionKey → List PairMsg → Type 0
AreByRules c ms = AllByRecursion (λ m. is_desc c (desc_of c m) ≡ true) ms

-- What each event keeps.
pub record IsSoundPair (p : PairState) : Type 0 where
  pub conn : IsSound (conn_of p)
  pub prio : is_prio p.key.prio ≡ true
  pub by_rules : AreByRules p.key p.offered
  pub carried : AllByRecursion (IsCarried (conn_of p)) p.packets
  pub taken : p.taken ≡ take (whole_below (messages_of p.key p.offered) p.received) p.offered

carried-later : (c d : Conn) (bs : List GmBody) → Grows c d → AllByRecursion (IsCarried c) bs → AllByRecursion (IsCarried d) bs
carried-later c d bs g all = all-weaker (IsCarried c) (IsCarried d) bs (λ b k. carried-grows c d b g k) all

pub fair-desc : (c : ConnectionKey) (m : PairMsg) → m.total ≤ message_limit → is_prio c.prio ≡ true → is_desc c (desc_of c m) ≡ true
fair-desc c m t q =
    let same : nat_eq c.prio c.prio ≡ true = grind (arith, nat_tests) in
    let total : nat_le m.total message_limit ≡ true = grind (arith, nat_tests) in
    λ i. q i && same i && total i

length-messages : (c : ConnectionKey) (ms : List PairMsg) → length (messages_of c ms) ≡ length ms
length-messages c ms = length-map ms (λ m. message_of (desc_of c m))

new-sound : (c : ConnectionKey) → is_prio c.prio ≡ true → IsSoundPair (new_pair c)
new-sound c prio = record {
  conn = record {
    sender = record { base_below = omega arith; cursor_below = omega arith; top_below = omega arith; in_range = omega arith };
    base_below = omega arith;
    received_below = omega arith;
    counted = refl;
  };
  prio = prio;
  by_rules = tt;
  carried = tt;
  taken = refl;
}

-- a message is offered
abbrev with_message : PairState → PairMsg → PairState
with_message p m = record p { numbers = offered p.numbers (piece_count m.total); offered = p.offered ++ m ∷ [] }

message-kept : (p : PairState) (m : PairMsg) → IsSoundPair p → is_spent p.numbers (piece_count m.total) ≡ false → Kept (conn_of p) (conn_of (with_message p m))
message-kept p m s e =
    let c : Conn = conn_of p in
    let message : Message = message_of (desc_of p.key m) in
    let long : length message.body ≡ m.total = length-replicate {A = ℕ} m.total 0 in
    let kept : Kept c (record c { numbers = offered c.numbers (piece_count (length message.body)); sent = c.sent ++ message ∷ [] }) =
    offer-keeps c message s.conn (ap (λ n. is_spent p.numbers (piece_count n)) long ∙ e) in
    let sent : c.sent ++ message ∷ [] ≡ messages_of p.key (p.offered ++ m ∷ []) = sym (map-append (λ x. message_of (desc_of p.key x)) p.offered (m ∷ [])) in
    let P : SenderState × List Message → Type 0 = λ x. Kept c (record c { numbers = x.0; sent = x.1 }) in
    subst P (λ i. (offered c.numbers (piece_count (long i)), sent i)) kept

-- as many are whole below what was taken where one more is offered, and no more than were
whole-more : (p : PairState) (m : PairMsg) → IsSoundPair p → whole_below (messages_of p.key (p.offered ++ m ∷ [])) p.received ≡ whole_below (messages_of p.key p.offered) p.received
whole-more p m s =
    ap (λ l. whole_below l p.received) (map-append (λ x. message_of (desc_of p.key x)) p.offered (m ∷ []))
    ∙ (more-below (messages_of p.key p.offered) (message_of (desc_of p.key m) ∷ []) p.received (received-within (conn_of p) s.conn)).0

whole-few : (p : PairState) → whole_below (messages_of p.key p.offered) p.received ≤ length p.offered
whole-few p = let few = below-few (messages_of p.key p.offered) p.received in let many = length-messages p.key p.offered in omega (arith, few, many)

message-sound : (p : PairState) (m : PairMsg) → IsSoundPair p → m.total ≤ message_limit → is_spent p.numbers (piece_count m.total) ≡ false → IsSoundPair (with_message p m)
message-sound p m s t e =
    let kept = message-kept p m s e in
    record {
      conn = kept.sound;
      prio = s.prio;
      by_rules = all-push (λ x. is_desc p.key (desc_of p.key x) ≡ true) p.offered m s.by_rules (fair-desc p.key m t s.prio);
      carried = carried-later (conn_of p) (conn_of (with_message p m)) p.packets kept.grows s.carried;
      taken = s.taken ∙ sym (take-append-le (whole_below (messages_of p.key p.offered) p.received) p.offered (m ∷ []) (whole-few p))
          ∙ ap (λ n. take n (p.offered ++ m ∷ [])) (sym (whole-more p m s));
    }

-- one of two outcomes
abbrev outcome : Bool → Bool × PairState → Bool × PairState → Bool × PairState
outcome b x y = if b then x else y

offer-sound : (p : PairState) (m : PairMsg) → IsSoundPair p → m.total ≤ message_limit → IsSoundPair (offer p m).1
offer-sound p m s t = by (is_spent p.numbers (piece_count m.total)) refl
  where
    by : (b : Bool) → is_spent p.numbers (piece_count m.total) ≡ b → IsSoundPair (outcome b (false, p) (true, with_message p m)).1
    by true e = s
    by false e = message-sound p m s t e

-- the due frame is emitted
emit-sound : (p : PairState) (n : ℕ) → IsSoundPair p → due p.numbers ≡ Some n → IsSoundPair (emit p (Some n)).1
emit-sound p n s e =
    let c : Conn = conn_of p in
    let d : Conn = record c { numbers = sent_one c.numbers } in
    let kept : Kept c d = send-keeps c n s.conn e in
    let after = due-some p.numbers n e in
    let at = after.number in
    let more = after.offered_already in
    let f = frame-at c n s.conn (omega (arith, at, more)) in
    let packet : frame_packet (frame_of p.key (messages_of p.key p.offered) n) ≡ Frame (head_of p.key n f.0) ∷ [] = ap frame_packet f.1.frame in
    let here : IsCarried d (Frame (head_of p.key n f.0)) = (f.0.part, due-sent c n f.0 s.conn e f.1) in
    let all : AllByRecursion (IsCarried d) (p.packets ++ Frame (head_of p.key n f.0) ∷ []) =
    all-push (IsCarried d) p.packets (Frame (head_of p.key n f.0)) (carried-later c d p.packets kept.grows s.carried) here in
    record {
      conn = kept.sound;
      prio = s.prio;
      by_rules = s.by_rules;
      carried = subst (λ l. AllByRecursion (IsCarried d) (p.packets ++ l)) (sym packet) all;
      taken = s.taken;
    }

due-sound : (p : PairState) → IsSoundPair p → IsSoundPair (emit p (due p.numbers)).1
due-sound p s = by (due p.numbers) refl
  where
    by : (o : Option ℕ) → due p.numbers ≡ o → IsSoundPair (emit p o).1
    by None e = s
    by (Some n) e = emit-sound p n s e

-- an acknowledgement is emitted
ack-sound : (p : PairState) → IsSoundPair p → IsSoundPair (emit_ack p)
ack-sound p s = record {
  conn = s.conn;
  prio = s.prio;
  by_rules = s.by_rules;
  carried = all-push (IsCarried (conn_of p)) p.packets (Acknowledges (ack_on p.key p.received)) s.carried (let r : p.received ≤ p.received = omega arith in r);
  taken = s.taken;
}

-- The fragment of a frame that was emitted, and the message that was offered of which it is.
record IsOfOffered (p : PairState) (h : FrameHead) : Type 0 where
  fragment : Fragment
  message : PairMsg
  comes : ComesNext (messages_of p.key p.offered) h.seq fragment
  there : slice_get p.offered (whole_below (messages_of p.key p.offered) h.seq) ≡ Some message
  same : message_of (desc_of p.key message) ≡ fragment.message
  head : h ≡ head_of p.key h.seq fragment

frame-offered : (p : PairState) (h : FrameHead) (part : List ℕ) → IsSoundPair p → IsSentFrame (conn_of p) h part → IsOfOffered p h
frame-offered p h part s f =
    let w = frame-fragment (conn_of p) h part s.conn f in
    let sent : List Message = messages_of p.key p.offered in
    let c : ComesNext sent h.seq w.0 = next-fragment sent h.seq w.0 w.1.0.fragment in
    let there : option_map (λ m. message_of (desc_of p.key m)) (slice_get p.offered (whole_below sent h.seq)) ≡ Some w.0.message =
    sym (slice_get-map (λ m. message_of (desc_of p.key m)) p.offered (whole_below sent h.seq)) ∙ c.there in
    let m = map-some (λ m. message_of (desc_of p.key m)) (slice_get p.offered (whole_below sent h.seq)) w.0.message there in
    record { fragment = w.0; message = m.0; comes = c; there = m.1.0; same = m.1.1; head = w.1.1 }

-- it says how long the message is, and whether it is its last
offered-long : (p : PairState) (h : FrameHead) (o : IsOfOffered p h) → h.total ≡ o.message.total
offered-long p h o = ap (λ x. x.total) o.head ∙ ap (λ m. length m.body) (sym o.same) ∙ long-of (desc_of p.key o.message)

offered-last : (p : PairState) (h : FrameHead) (o : IsOfOffered p h) (last : Bool) → is_last h.total h.offset ≡ last → is_last (length o.fragment.message.body) o.fragment.offset ≡ last
offered-last p h o last e = sym (ap (λ x. is_last x.total x.offset) o.head) ∙ e

-- a frame arrives
hear-sound : (p : PairState) (h : FrameHead) (part : List ℕ) (fits : Bool) → IsSoundPair p → IsSentFrame (conn_of p) h part
    → IsSoundPair (hear_frame p h (took p.received h.seq fits (is_last h.total h.offset)))
hear-sound p h part fits s f = by (nat_eq h.seq p.received) refl fits (is_last h.total h.offset) refl (take-keeps (conn_of p) h part fits (is_last h.total h.offset) s.conn f)
  where
    same : (t : Took) → whole_message h t ≡ [] → taken_after p.received t ≡ p.received → IsSoundPair (hear_frame p h t)
    same t none number = record {
      conn = subst (λ n. IsSound (record (conn_of p) { received = n })) (sym number) s.conn;
      prio = s.prio;
      by_rules = s.by_rules;
      carried = subst (λ n. AllByRecursion (IsCarried (record (conn_of p) { received = n })) p.packets) (sym number) s.carried;
      taken = ap (λ l. p.taken ++ l) none ∙ append-nil p.taken ∙ s.taken ∙ ap (λ n. take (whole_below (messages_of p.key p.offered) n) p.offered) (sym number);
    }

    by : (t : Bool) → nat_eq h.seq p.received ≡ t → (fits last : Bool) → is_last h.total h.offset ≡ last
        → Kept (conn_of p) (record (conn_of p) { received = taken_after p.received (if t then if fits then taken_as last else NoToken else NotNext) })
        → IsSoundPair (hear_frame p h (if t then if fits then taken_as last else NoToken else NotNext))
    by true e true true l kept =
        let o = frame-offered p h part s f in
        let here : h.seq ≡ p.received = grind (arith, nat_tests) in
        let sent : List Message = messages_of p.key p.offered in
        let rose : whole_below sent (p.received + 1) ≡ whole_below sent p.received + 1 = subst (λ n. whole_below sent (n + 1) ≡ whole_below sent n + 1) here (o.comes.last (offered-last p h o true l)).0 in
        let there : slice_get p.offered (whole_below sent p.received) ≡ Some o.message = ap (λ n. slice_get p.offered (whole_below sent n)) (sym here) ∙ o.there in
        let whole : record { total = h.total } ≡ o.message = ap (λ n. record { total = n }) (offered-long p h o) in
        record {
          conn = kept.sound;
          prio = s.prio;
          by_rules = s.by_rules;
          carried = carried-later (conn_of p) (record (conn_of p) { received = p.received + 1 }) p.packets kept.grows s.carried;
          taken = (λ i. s.taken i ++ whole i ∷ []) ∙ sym (take-next p.offered (whole_below sent p.received) o.message there) ∙ ap (λ n. take n p.offered) (sym rose);
        }
    by true e true false l kept =
        let o = frame-offered p h part s f in
        let here : h.seq ≡ p.received = grind (arith, nat_tests) in
        let sent : List Message = messages_of p.key p.offered in
        let stays : whole_below sent (p.received + 1) ≡ whole_below sent p.received = subst (λ n. whole_below sent (n + 1) ≡ whole_below sent n) here (o.comes.earlier (offered-last p h o false l)).0 in
        record {
          conn = kept.sound;
          prio = s.prio;
          by_rules = s.by_rules;
          carried = carried-later (conn_of p) (record (conn_of p) { received = p.received + 1 }) p.packets kept.grows s.carried;
          taken = append-nil p.taken ∙ s.taken ∙ ap (λ n. take n p.offered) (sym stays);
        }
    by true e false last l kept = same NoToken refl refl
    by false e fits last l kept = same NotNext refl refl

deliver-sound : (p : PairState) (packet : ℕ) (fits : Bool) → IsSoundPair p → IsSoundPair (deliver p fits (slice_get p.packets packet)).1
deliver-sound p packet fits s = by (slice_get p.packets packet) refl
  where
    by : (o : Option GmBody) → slice_get p.packets packet ≡ o → IsSoundPair (deliver p fits o).1
    by None e = s
    by (Some (Frame h)) e =
        let k : IsCarried (conn_of p) (Frame h) = all-at (IsCarried (conn_of p)) p.packets packet (Frame h) s.carried e in
        hear-sound p h k.0 fits s k.1
    by (Some (Acknowledges a)) e =
        let c : Conn = conn_of p in
        let k : IsCarried c (Acknowledges a) = all-at (IsCarried c) p.packets packet (Acknowledges a) s.carried e in
        let kept = hear-keeps c a.next s.conn k in
        record {
          conn = kept.sound;
          prio = s.prio;
          by_rules = s.by_rules;
          carried = carried-later c (record c { numbers = acknowledged c.numbers a.next }) p.packets kept.grows s.carried;
          taken = s.taken;
        }

expire-sound : (p : PairState) → IsSoundPair p → IsSoundPair (expire p).1
expire-sound p s = by (nat_eq (unacknowledged p.numbers) 0)
  where
    by : (t : Bool) → IsSoundPair (outcome t (false, p) (true, record p { numbers = expired p.numbers })).1
    by true = s
    by false =
        let kept = expire-keeps (conn_of p) s.conn in
        record {
          conn = kept.sound;
          prio = s.prio;
          by_rules = s.by_rules;
          carried = carried-later (conn_of p) (record (conn_of p) { numbers = expired p.numbers }) p.packets kept.grows s.carried;
          taken = s.taken;
        }

pub step-sound : (p : PairState) (e : PairEvent) → IsSoundPair p → IsFair e → IsSoundPair (step p e).1
step-sound p (Offer total) s f = offer-sound p (record { total = total }) s f
step-sound p Emit s f = due-sound p s
step-sound p EmitAck s f = ack-sound p s
step-sound p (Deliver packet fits) s f = deliver-sound p packet fits s
step-sound p Expire s f = expire-sound p s

pub after_all-sound : (p : PairState) (events : List PairEvent) → IsSoundPair p → AllByRecursion IsFair events → IsSoundPair (after_all p events)
after_all-sound p [] s f = s
after_all-sound p (e ∷ es) s f = after_all-sound (step p e).1 es (step-sound p e s f.0) f.1

pub reached-sound : (p : PairState) → IsReached p → IsSoundPair p
reached-sound p r = subst IsSoundPair (sym r.leads) (after_all-sound (new_pair r.key) r.events (new-sound r.key r.prio) r.fair)

pub sound-in_order : (p : PairState) → IsSoundPair p → IsInOrder p
sound-in_order p s =
    let o = s.conn.sender in
    record {
      base_below_received = s.conn.base_below;
      received_below = s.conn.received_below;
      top_below = o.top_below;
      base_below_cursor = o.base_below;
      cursor_below = o.cursor_below;
      prefix =
          let n : ℕ = whole_below (messages_of p.key p.offered) p.received in
          (drop n p.offered, sym (take-append-drop n p.offered) ∙ ap (λ l. l ++ drop n p.offered) (sym s.taken));
      whole = s.taken;
    }

pub pair-in_order : PairInOrder
pair-in_order c events prio fair = sound-in_order (after_all (new_pair c) events) (after_all-sound (new_pair c) events (new-sound c prio) fair)

-- the head of a packet is by the rules
pub packet-by_rules : (p : PairState) (packet : ℕ) (h : FrameHead) → IsSoundPair p → slice_get p.packets packet ≡ Some (Frame h) → is_head h ≡ true
packet-by_rules p packet h s e =
    let k : IsCarried (conn_of p) (Frame h) = all-at (IsCarried (conn_of p)) p.packets packet (Frame h) s.carried e in
    let o = frame-offered p h k.0 s k.1 in
    let d : Desc = desc_of p.key o.message in
    let rules : is_desc p.key d ≡ true =
    all-at (λ x. is_desc p.key (desc_of p.key x) ≡ true) p.offered (whole_below (messages_of p.key p.offered) h.seq) o.message s.by_rules o.there in
    let sent = k.1.sent in
    let t = s.conn.sender.top_below in
    let r = s.conn.sender.in_range in
    let total : length o.fragment.message.body ≡ o.message.total = ap (λ m. length m.body) (sym o.same) ∙ long-of d in
    let begins = subst (λ n. is_offset n o.fragment.offset ≡ true) total o.comes.begins in
    let head : h ≡ head_for p.key h.seq d o.fragment.offset = o.head ∙ head-is p.key h.seq o.fragment d o.fragment.offset o.same refl o.comes.long in
    subst (λ x. is_head x ≡ true) (sym head) (head-by_rules p.key h.seq d o.fragment.offset rules begins (omega (arith, sent, t, r)))

-- one event more
after_all-push : (p : PairState) (events : List PairEvent) (e : PairEvent) → after_all p (events ++ e ∷ []) ≡ (step (after_all p events) e).1
after_all-push p [] e = refl
after_all-push p (d ∷ es) e = after_all-push (step p d).1 es e

pub reached-step : (p : PairState) (e : PairEvent) → IsReached p → IsFair e → IsReached (step p e).1
reached-step p e r f = record {
  key = r.key;
  prio = r.prio;
  events = r.events ++ e ∷ [];
  fair = all-push IsFair r.events e r.fair f;
  leads = ap (λ q. (step q e).1) r.leads ∙ sym (after_all-push (new_pair r.key) r.events e);
}
