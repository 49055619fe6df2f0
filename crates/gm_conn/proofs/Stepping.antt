-- What the code of a pair does is the step of that name, and keeps what a pair keeps.
use Rattle.std.proofs.Common.{◌≡◌, ◌<◌, ◌-◌, ℕ, Bool, true, false, nat_eq, nat_lt, List, [], ◌∷◌, ◌++◌, map, length, Option, Some, None, option_map, refl, sym, ap, ◌∙◌, subst, arith, if◌then◌else◌}
use Rattle.std.specs.Prelude.{slice_get, option_and_then}
use Rattle.std.proofs.lemmas.Bool.Decides.{nat_tests}
use Rattle.std.proofs.lemmas.List.{length-map, map-append}
use Rattle.std.proofs.lemmas.Option.{same_Some, none-some, slice_get_within}
use Rattle.gm_defs.specs.declared.message.Message.{Message}
use Rattle.gm_defs.specs.declared.frame.FrameHead.{FrameHead}
use Rattle.gm_defs.specs.declared.frame.Ack.{Ack}
use Rattle.gm_defs.specs.declared.frame.ConnectionKey.{ConnectionKey}
use Rattle.gm_defs.specs.declared.frame.GmBody.{GmBody}
use Rattle.gm_defs.specs.declared.frame.GmBody.TheVariants.{Frame, Ack as Acknowledges}
use Rattle.gm_defs.specs.declared.token.Took.{Took}
use Rattle.gm_defs.specs.Body.{is_prio, is_head, is_last}
use Rattle.gm_defs.specs.Fragment.{fragments, piece_count, whole_below, head_of, frame_of}
use Rattle.gm_defs.specs.Connection.{IsSender, ack_on, due, sent_one, expired, unacknowledged, is_spent, offered, took, taken_after}
use Rattle.gm_defs.specs.Laws.{ComesNext}
use Rattle.gm_defs.proofs.Numbers.{next-fragment}
use Rattle.gm_conn.specs.declared.desc.Due.{Due}
use Rattle.gm_conn.specs.declared.refusal.OfferRefusal.TheVariants.{Spent}
use Rattle.gm_conn.specs.declared.event.PairMsg.{PairMsg}
use Rattle.gm_conn.specs.declared.event.PairEvent.{PairEvent}
use Rattle.gm_conn.specs.declared.event.PairEvent.TheVariants.{Offer, Emit, EmitAck, Deliver, Expire}
use Rattle.gm_conn.specs.Halves.{Outgoing, Incoming, is_desc, message_of, messages, first, due_at, due_frame, heard_ack, offer_refusal, with_offer}
use Rattle.gm_conn.specs.Pair.{PairState, desc_of, messages_of, new_pair, pair_of, frame_packet, emit, whole_message, deliver, expire, step, IsFair, IsReached, IsPair, IsInOrder}
use Rattle.gm_conn.proofs.Messages.{within}
use Rattle.gm_conn.proofs.Connections.{due-some, frame-at}
use Rattle.gm_conn.proofs.Pairs.{IsSoundPair, conn_of, fair-desc, reached-sound, reached-step, sound-in_order, packet-by_rules}

-- a pair after an event
kept : (w v : Outgoing) (r q : Incoming) (ps bs : List GmBody) (os ms ts ns : List PairMsg) (e : PairEvent) → IsPair w r ps os ts → IsFair e
    → (step (pair_of w r ps os ts) e).1 ≡ pair_of v q bs ms ns → v.waiting ≡ map (desc_of v.key) ms → q.key ≡ v.key → IsPair v q bs ms ns
kept w v r q ps bs os ms ts ns e k fair same waiting key = record {
  waiting = waiting;
  key = key;
  reached = subst IsReached same (reached-step (pair_of w r ps os ts) e k.reached fair);
}

-- the descriptors that wait are still those of the messages that were offered
waiting-kept : (w v : Outgoing) (os : List PairMsg) → v.waiting ≡ w.waiting → v.key ≡ w.key → w.waiting ≡ map (desc_of w.key) os → v.waiting ≡ map (desc_of v.key) os
waiting-kept w v os same key e = same ∙ e ∙ ap (λ c. map (desc_of c) os) (sym key)

pub pair-in_order : (w : Outgoing) (r : Incoming) (ps : List GmBody) (os ts : List PairMsg) (p : PairState) → pair_of w r ps os ts ≡ p → IsPair w r ps os ts → IsInOrder p
pair-in_order w r ps os ts p same k = subst IsInOrder same (sound-in_order (pair_of w r ps os ts) (reached-sound (pair_of w r ps os ts) k.reached))

pub packet-head : (w : Outgoing) (r : Incoming) (ps : List GmBody) (os ts : List PairMsg) (packet : ℕ) (h : FrameHead) → IsPair w r ps os ts → slice_get ps packet ≡ Some (Frame h) → is_head h ≡ true
packet-head w r ps os ts packet h k e = packet-by_rules (pair_of w r ps os ts) packet h (reached-sound (pair_of w r ps os ts) k.reached) e

-- ---- the time runs out

abbrev outcome : Bool → Bool × PairState → Bool × PairState → Bool × PairState
outcome b x y = if b then x else y

expired-pair : (p : PairState) → IsSender p.numbers → expire p ≡ (nat_lt 0 (unacknowledged p.numbers), record p { numbers = expired p.numbers })
expired-pair p o = by (nat_eq (unacknowledged p.numbers) 0) refl
  where
    by : (t : Bool) → nat_eq (unacknowledged p.numbers) 0 ≡ t → outcome t (false, p) (true, record p { numbers = expired p.numbers }) ≡ (nat_lt 0 (unacknowledged p.numbers), record p { numbers = expired p.numbers })
    by true e =
        let none : unacknowledged p.numbers ≡ 0 = grind (arith, nat_tests) in
        let a = o.base_below in
        let b = o.cursor_below in
        let c = o.top_below in
        let same : p.numbers.cursor ≡ p.numbers.base = omega (arith, none) in
        let answer : nat_lt 0 (unacknowledged p.numbers) ≡ false = grind (arith, nat_tests) in
        λ i. (sym answer i, record p { numbers = record p.numbers { cursor = same i } })
    by false e =
        let some : 0 < unacknowledged p.numbers = grind (arith, nat_tests) in
        let answer : nat_lt 0 (unacknowledged p.numbers) ≡ true = grind (arith, nat_tests) in
        λ i. (sym answer i, record p { numbers = expired p.numbers })

pub expire-done : (w v : Outgoing) (r : Incoming) (ps : List GmBody) (os ts : List PairMsg) (p : PairState) (b : Bool) → pair_of w r ps os ts ≡ p → IsPair w r ps os ts
    → v ≡ record w { numbers = expired w.numbers } → b ≡ nat_lt 0 (unacknowledged w.numbers) → expire p ≡ (b, pair_of v r ps os ts)
expire-done w v r ps os ts p b same k e answer =
    let before : PairState = pair_of w r ps os ts in
    let o = (reached-sound before k.reached).conn.sender in
    ap expire (sym same) ∙ expired-pair before o ∙ (λ i. (sym answer i, pair_of (sym e i) r ps os ts))

pub expire-kept : (w v : Outgoing) (r : Incoming) (ps : List GmBody) (os ts : List PairMsg) → IsPair w r ps os ts → v ≡ record w { numbers = expired w.numbers } → IsPair v r ps os ts
expire-kept w v r ps os ts k e =
    let before : PairState = pair_of w r ps os ts in
    let o = (reached-sound before k.reached).conn.sender in
    kept w v r r ps ps os os ts ts Expire k tt (ap (λ x. x.1) (expired-pair before o) ∙ (λ i. pair_of (sym e i) r ps os ts))
    (waiting-kept w v os (ap (λ x. x.waiting) e) (ap (λ x. x.key) e) k.waiting) (k.key ∙ sym (ap (λ x. x.key) e))

-- ---- a message is offered

none-spent : (w : Outgoing) (total : ℕ) → offer_refusal w total ≡ None → is_spent w.numbers (piece_count total) ≡ false
none-spent w total e = by (is_spent w.numbers (piece_count total)) e
  where
    by : (b : Bool) → (if b then Some Spent else None) ≡ None → b ≡ false
    by true e = absurd (none-some Spent (sym e))
    by false e = refl

pub offer-kept : (w u v : Outgoing) (r : Incoming) (ps : List GmBody) (os ms ts : List PairMsg) (m : PairMsg) (spare : ℕ) → IsPair w r ps os ts → IsFair (Offer m.total)
    → u ≡ record w { spare = spare } → offer_refusal w m.total ≡ None → v ≡ with_offer u (desc_of w.key m) → ms ≡ os ++ m ∷ [] → IsPair v r ps ms ts
offer-kept w u v r ps os ms ts m spare k fair room refusal e longer =
    let before : PairState = pair_of w r ps os ts in
    let after : Outgoing = with_offer (record w { spare = spare }) (desc_of w.key m) in
    let grown : v ≡ after = e ∙ ap (λ x. with_offer x (desc_of w.key m)) room in
    let spent : is_spent w.numbers (piece_count m.total) ≡ false = none-spent w m.total refusal in
    let stepped : (step before (Offer m.total)).1 ≡ pair_of after r ps (os ++ m ∷ []) ts =
    λ i. (outcome (spent i) (false, before) (true, record before { numbers = offered w.numbers (piece_count m.total); offered = os ++ m ∷ [] })).1 in
    let waiting : after.waiting ≡ map (desc_of w.key) (os ++ m ∷ []) = ap (λ l. l ++ desc_of w.key m ∷ []) k.waiting ∙ sym (map-append (desc_of w.key) os (m ∷ [])) in
    let key : v.key ≡ w.key = ap (λ x. x.key) grown in
    kept w v r r ps ps os ms ts ts (Offer m.total) k fair (stepped ∙ (λ i. pair_of (sym grown i) r ps (sym longer i) ts))
    (ap (λ x. x.waiting) grown ∙ waiting ∙ (λ i. map (desc_of (sym key i)) (sym longer i))) (k.key ∙ sym key)

-- the descriptor of a message that may be offered is by the rules
pub offered-desc : (w : Outgoing) (r : Incoming) (ps : List GmBody) (os ts : List PairMsg) (m : PairMsg) (c : ConnectionKey) → IsPair w r ps os ts → IsFair (Offer m.total) → c ≡ w.key → is_desc c (desc_of w.key m) ≡ true
offered-desc w r ps os ts m c k fair same =
    let rules : is_desc w.key (desc_of w.key m) ≡ true = fair-desc w.key m fair (reached-sound (pair_of w r ps os ts) k.reached).prio in
    subst (λ x. is_desc x (desc_of w.key m) ≡ true) (sym same) rules

-- ---- the due frame is emitted

-- the frame that the sender's descriptors give is that of the messages that were offered
record IsDueFrame (w : Outgoing) (os : List PairMsg) (n : ℕ) : Type 0 where
  ticket : ℕ
  head : FrameHead
  stated : due_at w n ≡ Some (record { head = head; ticket = ticket })
  packet : frame_packet (frame_of w.key (messages_of w.key os) n) ≡ Frame head ∷ []

map-map : {A B C : Type 0} (f : A → B) (g : B → C) (xs : List A) → map g (map f xs) ≡ map (λ x. g (f x)) xs
map-map f g [] = refl
map-map f g (x ∷ xs) = ap (λ l. g (f x) ∷ l) (map-map f g xs)

due-frame : (w : Outgoing) (r : Incoming) (ps : List GmBody) (os ts : List PairMsg) (n : ℕ) → IsPair w r ps os ts → due w.numbers ≡ Some n → IsDueFrame w os n
due-frame w r ps os ts n k e =
    let p : PairState = pair_of w r ps os ts in
    let s : IsSoundPair p = reached-sound p k.reached in
    let sent : List Message = messages_of w.key os in
    let same : messages w ≡ sent = ap (map message_of) k.waiting ∙ map-map (desc_of w.key) message_of os in
    let d = due-some w.numbers n e in
    let number = d.number in
    let more = d.offered_already in
    let below : n < w.numbers.next = omega (arith, number, more) in
    let f = frame-at (conn_of p) n s.conn below in
    let counted : w.numbers.next ≡ length (fragments sent) = s.conn.counted in
    let zero_first : first w ≡ 0 = let x : length (fragments (messages w)) ≡ length (fragments sent) = ap (λ l. length (fragments l)) same in omega (arith, x, counted) in
    let at : n - first w ≡ n = omega (arith, zero_first) in
    let many : length sent ≡ length os = length-map os (λ m. message_of (desc_of w.key m)) in
    let held : length w.waiting ≡ length os = ap length k.waiting ∙ length-map os (desc_of w.key) in
    let comes : ComesNext sent n f.0 = next-fragment sent n f.0 f.1.fragment in
    let inside = slice_get_within sent (whole_below sent n) f.0.message comes.there in
    let holder = within w.waiting (whole_below sent n) (omega (arith, inside, many, held)) in
    let by_messages : due_at w n
    ≡ option_and_then
    (λ g. option_map (λ x. record { head = head_of w.key n g; ticket = x.ticket }) (slice_get w.waiting (whole_below sent n)))
    (slice_get (fragments sent) n) =
    λ i. option_and_then (λ g. option_map (λ x. record { head = head_of w.key n g; ticket = x.ticket }) (slice_get w.waiting (whole_below (same i) (at i)))) (slice_get (fragments (same i)) (at i)) in
    let by_fragment : option_and_then
    (λ g. option_map (λ x. record { head = head_of w.key n g; ticket = x.ticket }) (slice_get w.waiting (whole_below sent n)))
    (slice_get (fragments sent) n) ≡ option_map (λ x. record { head = head_of w.key n f.0; ticket = x.ticket }) (slice_get w.waiting (whole_below sent n)) =
    ap (option_and_then (λ g. option_map (λ x. record { head = head_of w.key n g; ticket = x.ticket }) (slice_get w.waiting (whole_below sent n)))) f.1.fragment in
    let by_holder : option_map (λ x. record { head = head_of w.key n f.0; ticket = x.ticket }) (slice_get w.waiting (whole_below sent n)) ≡ Some (record { head = head_of w.key n f.0; ticket = holder.0.ticket }) =
    ap (option_map (λ x. record { head = head_of w.key n f.0; ticket = x.ticket })) holder.1 in
    record {
      ticket = holder.0.ticket;
      head = head_of w.key n f.0;
      stated = by_messages ∙ by_fragment ∙ by_holder;
      packet = ap frame_packet f.1.frame;
    }

-- what was due
record IsEmitted (w : Outgoing) (os : List PairMsg) (h : FrameHead) : Type 0 where
  number : ℕ
  is_due : due w.numbers ≡ Some number
  packet : frame_packet (frame_of w.key (messages_of w.key os) number) ≡ Frame h ∷ []

emitted : (w : Outgoing) (r : Incoming) (ps : List GmBody) (os ts : List PairMsg) (d : Due) → IsPair w r ps os ts → Some d ≡ due_frame w → IsEmitted w os d.head
emitted w r ps os ts d k e = by (due w.numbers) refl e
  where
    by : (o : Option ℕ) → due w.numbers ≡ o → Some d ≡ option_and_then (λ n. due_at w n) o → IsEmitted w os d.head
    by None q e = absurd (none-some d (sym e))
    by (Some n) q e =
        let f = due-frame w r ps os ts n k q in
        let same : d ≡ record { head = f.head; ticket = f.ticket } = same_Some d (record { head = f.head; ticket = f.ticket }) (e ∙ f.stated) in
        record { number = n; is_due = q; packet = f.packet ∙ ap (λ x. Frame x.head ∷ []) (sym same) }

emitted-pair : (w v : Outgoing) (r : Incoming) (ps bs : List GmBody) (os ts : List PairMsg) (d : Due) → IsPair w r ps os ts → Some d ≡ due_frame w
    → v ≡ record w { numbers = sent_one w.numbers } → bs ≡ ps ++ Frame d.head ∷ [] → emit (pair_of w r ps os ts) (due w.numbers) ≡ (true, pair_of v r bs os ts)
emitted-pair w v r ps bs os ts d k e later more =
    let f = emitted w r ps os ts d k e in
    let packets : ps ++ frame_packet (frame_of w.key (messages_of w.key os) f.number) ≡ bs = ap (λ l. ps ++ l) f.packet ∙ sym more in
    ap (emit (pair_of w r ps os ts)) f.is_due ∙ (λ i. (true, pair_of (sym later i) r (packets i) os ts))

pub emit-done : (w v : Outgoing) (r : Incoming) (ps bs : List GmBody) (os ts : List PairMsg) (d : Due) (p : PairState) → pair_of w r ps os ts ≡ p → IsPair w r ps os ts → Some d ≡ due_frame w
    → v ≡ record w { numbers = sent_one w.numbers } → bs ≡ ps ++ Frame d.head ∷ [] → emit p (due p.numbers) ≡ (true, pair_of v r bs os ts)
emit-done w v r ps bs os ts d p same k e later more = ap (λ x. emit x (due x.numbers)) (sym same) ∙ emitted-pair w v r ps bs os ts d k e later more

pub emit-kept : (w v : Outgoing) (r : Incoming) (ps bs : List GmBody) (os ts : List PairMsg) (d : Due) → IsPair w r ps os ts → Some d ≡ due_frame w
    → v ≡ record w { numbers = sent_one w.numbers } → bs ≡ ps ++ Frame d.head ∷ [] → IsPair v r bs os ts
emit-kept w v r ps bs os ts d k e later more =
    kept w v r r ps bs os os ts ts Emit k tt (ap (λ x. x.1) (emitted-pair w v r ps bs os ts d k e later more))
    (waiting-kept w v os (ap (λ x. x.waiting) later) (ap (λ x. x.key) later) k.waiting) (k.key ∙ sym (ap (λ x. x.key) later))

-- nothing is due
not_due : (w : Outgoing) (r : Incoming) (ps : List GmBody) (os ts : List PairMsg) → IsPair w r ps os ts → None ≡ due_frame w → due w.numbers ≡ None
not_due w r ps os ts k e = by (due w.numbers) refl e
  where
    by : (o : Option ℕ) → due w.numbers ≡ o → None ≡ option_and_then (λ n. due_at w n) o → o ≡ None
    by None q e = refl
    by (Some n) q e = let f = due-frame w r ps os ts n k q in absurd (none-some (record { head = f.head; ticket = f.ticket }) (e ∙ f.stated))

pub emit-none : (w : Outgoing) (r : Incoming) (ps bs : List GmBody) (os ts : List PairMsg) (p : PairState) → pair_of w r ps os ts ≡ p → IsPair w r ps os ts → None ≡ due_frame w → bs ≡ ps
    → emit p (due p.numbers) ≡ (false, pair_of w r bs os ts)
emit-none w r ps bs os ts p same k e more =
    ap (λ x. emit x (due x.numbers)) (sym same) ∙ ap (emit (pair_of w r ps os ts)) (not_due w r ps os ts k e) ∙ (λ i. (false, pair_of w r (sym more i) os ts))

-- an acknowledgement is emitted
pub ack-kept : (w : Outgoing) (r : Incoming) (ps bs : List GmBody) (os ts : List PairMsg) → IsPair w r ps os ts
    → bs ≡ ps ++ Acknowledges (ack_on r.key r.taken) ∷ [] → IsPair w r bs os ts
ack-kept w r ps bs os ts k more =
    let same : ps ++ Acknowledges (ack_on w.key r.taken) ∷ [] ≡ bs = (λ i. ps ++ Acknowledges (ack_on (sym k.key i) r.taken) ∷ []) ∙ sym more in
    kept w w r r ps bs os os ts ts EmitAck k tt (λ i. pair_of w r (same i) os ts) k.waiting k.key

-- ---- a packet arrives

pub hear-kept : (w : Outgoing) (r q : Incoming) (ps : List GmBody) (os ts ns : List PairMsg) (packet : ℕ) (h : FrameHead) (fits : Bool) (t : Took) → IsPair w r ps os ts
    → slice_get ps packet ≡ Some (Frame h) → t ≡ took r.taken h.seq fits (is_last h.total h.offset) → q ≡ record r { taken = taken_after r.taken t } → ns ≡ ts ++ whole_message h t → IsPair w q ps os ns
hear-kept w r q ps os ts ns packet h fits t k e made later more =
    let before : PairState = pair_of w r ps os ts in
    let taken : ts ++ whole_message h (took r.taken h.seq fits (is_last h.total h.offset)) ≡ ns = ap (λ x. ts ++ whole_message h x) (sym made) ∙ sym more in
    let number : record r { taken = taken_after r.taken (took r.taken h.seq fits (is_last h.total h.offset)) } ≡ q = ap (λ x. record r { taken = taken_after r.taken x }) (sym made) ∙ sym later in
    kept w w r q ps ps os os ts ns (Deliver packet fits) k tt
    (ap (λ o. (deliver before fits o).1) e ∙ (λ i. pair_of w (number i) ps os (taken i)))
    k.waiting (ap (λ x. x.key) later ∙ k.key)

pub heard-kept : (w v : Outgoing) (r : Incoming) (ps : List GmBody) (os ts : List PairMsg) (packet : ℕ) (a : Ack) → IsPair w r ps os ts
    → slice_get ps packet ≡ Some (Acknowledges a) → v ≡ heard_ack w a.next → IsPair v r ps os ts
heard-kept w v r ps os ts packet a k e later =
    let before : PairState = pair_of w r ps os ts in
    kept w v r r ps ps os os ts ts (Deliver packet true) k tt
    (ap (λ o. (deliver before true o).1) e ∙ (λ i. pair_of (sym later i) r ps os ts))
    (waiting-kept w v os (ap (λ x. x.waiting) later) (ap (λ x. x.key) later) k.waiting) (k.key ∙ sym (ap (λ x. x.key) later))

-- ---- a new pair
pub new-kept : (w : Outgoing) (r : Incoming) (ps : List GmBody) (os ts : List PairMsg) (c : ConnectionKey) → is_prio c.prio ≡ true → w.waiting ≡ [] → r.key ≡ w.key → os ≡ []
    → pair_of w r ps os ts ≡ new_pair c → IsPair w r ps os ts
new-kept w r ps os ts c prio waiting key none same = record {
  waiting = waiting ∙ sym (ap (map (desc_of w.key)) none);
  key = key;
  reached = record { key = c; prio = prio; events = []; fair = tt; leads = same };
}
