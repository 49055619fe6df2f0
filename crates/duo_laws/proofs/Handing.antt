-- What each event hands to the client of an end, takes from it, and brings it.
use Rattle.std.proofs.Common.{◌≡◌, ◌<◌, ◌≤◌, ◌+◌, ◌⊎◌, inl, inr, ℕ, zero, suc, Bool, true, false, ◌&&◌, nat_eq, nat_lt, nat_le, List, [], ◌∷◌, ◌++◌, length, map, take, drop, Option, Some, None, option_map, Ok, refl, sym, ap, ◌∙◌, subst, arith, true≢false, if◌then◌else◌}
use Rattle.std.specs.Prelude.{slice_get, is_some}
use Rattle.std.proofs.Math.Seq.{take-append_seam}
use Rattle.std.proofs.lemmas.Bool.Decides.{nat_tests}
use Rattle.std.proofs.lemmas.List.{append_assoc, append-nil, map-append}
use Rattle.gm_defs.specs.declared.message.Message.{Message}
use Rattle.gm_defs.specs.declared.frame.FrameHead.{FrameHead}
use Rattle.gm_defs.specs.declared.frame.GmBody.TheVariants.{Frame, Ack as Acknowledges}
use Rattle.gm_defs.specs.declared.token.Took.TheVariants.{NotNext as TookNotNext, NoToken as TookNoToken, Whole}
use Rattle.gm_defs.specs.Body.{piece, is_last, decode, part_in}
use Rattle.gm_defs.specs.Fragment.{piece_count}
use Rattle.gm_defs.specs.Connection.{took, taken_as, is_spent, unacknowledged}
use Rattle.gm_defs.specs.Token.{Sending, PortState, PortEvent, Sent as SentEvent, Received as ReceivedEvent, can_take}
use Rattle.gm_defs.specs.Port.{is_bad_size, send_of, ended_by, finished, filled, delivered}
use Rattle.gm_defs.proofs.Choices.{both}
use Rattle.gm_defs.proofs.Takers.{Delivery, delivery}
use Rattle.world_defs.specs.Lane.{LaneState, Ticket, ending, lane_after, lane_acknowledged, lane_answered, lane_expired, lane_sent_one, tickets_finished}
use Rattle.world_defs.specs.Client.{client_bytes}
use Rattle.duo_defs.specs.declared.packet.Packet.{Packet}
use Rattle.duo_defs.specs.declared.effect.DuoEffect.{DuoEffect}
use Rattle.duo_defs.specs.declared.effect.DuoEffect.TheVariants.{Token, Refused, Idle, Expired, Restarted, Stale, Sent, Unsure, Hello as HeardHello}
use Rattle.duo_defs.specs.declared.effect.DuoCause.TheVariants.{TooLong, Spent, BadSize}
use Rattle.duo_defs.specs.Duo.{plain_message, Returned, EndState, with_lane, beginning, periods, period_in, is_of, got_in}
use Rattle.duo_defs.specs.Emitting.{says_hello, hello_of, ack_emission, frame_emission, due_frame, emission}
use Rattle.duo_defs.specs.Hearing.{finished_all, introduced, renewed, answering, heard_hello, heard_frame, heard_ack, heard_body, heard_data}
use Rattle.duo_defs.specs.Step.{last_incarnation, accepted, sending, with_buffer, providing, expiring, told, polling, restarting}
use Rattle.duo_defs.specs.Theorem.{IsShort}
use Rattle.duo_laws.specs.Polled.{in_effect, named_by, in_event, in_events, waiting_of, taken_by}
use Rattle.duo_laws.proofs.Periods.{SameGot, same-all, same-present, same-new, absent}
use Rattle.duo_laws.proofs.Bodies.{frame_head, answer, last-short, frame-is_read, ack-is_read}
use Rattle.duo_laws.proofs.Ends.{IsEnd, IsBody, IsFrameBody, IsAckBody}
use Rattle.duo_laws.proofs.Changes.{new-before, introduced-same}

-- ---- lists

left-nil : {X : Type 0} (xs ys : List X) → xs ++ ys ≡ [] → xs ≡ []
left-nil [] ys e = refl
left-nil (x ∷ xs) ys e = cc

not-nil : {X : Type 0} (xs : List X) (x : X) → xs ++ x ∷ [] ≡ [] → ⊥
not-nil [] x e = cc
not-nil (y ∷ xs) x e = cc

take-none : (xs : List ℕ) → take 0 xs ≡ []
take-none [] = refl
take-none (x ∷ xs) = refl

same-number : (t : ℕ) → nat_eq t t ≡ true
same-number t = grind (arith, nat_tests)

-- nothing either way
nothing-if : (b : Bool) (xs : List (List ℕ)) → xs ≡ [] → (if b then xs else []) ≡ []
nothing-if true xs e = e
nothing-if false xs e = refl

-- lists one after another, from the first to the n-th
abbrev pub upto : (ℕ → List Message) → ℕ → List Message
upto f zero = []
upto f (suc n) = upto f n ++ f (suc n)

pub upto-same : (f g : ℕ → List Message) → ((i : ℕ) → g i ≡ f i) → (n : ℕ) → upto g n ≡ upto f n
upto-same f g same zero = refl
upto-same f g same (suc n) = (λ i. upto-same f g same n i ++ same (suc n) i)

-- the k-th has grown, and those behind it are empty
upto-grown : (f g : ℕ → List Message) (k : ℕ) (new : List Message) → 0 < k → ((i : ℕ) → g i ≡ f i ++ (if nat_eq k i then new else [])) → ((i : ℕ) → k < i → f i ≡ []) → (n : ℕ) → upto g n ≡ upto f n ++ (if nat_le k n then new else [])
upto-grown f g k new low at past zero = let e : nat_le k 0 ≡ false = grind (arith, nat_tests) in rw e refl
upto-grown f g k new low at past (suc n) = by (nat_le k n) (nat_eq k (suc n)) refl refl (upto-grown f g k new low at past n) (at (suc n))
  where
    by : (p q : Bool) → nat_le k n ≡ p → nat_eq k (suc n) ≡ q → upto g n ≡ upto f n ++ (if nat_le k n then new else []) → g (suc n) ≡ f (suc n) ++ (if nat_eq k (suc n) then new else [])
        → upto g n ++ g (suc n) ≡ (upto f n ++ f (suc n)) ++ (if nat_le k (suc n) then new else [])
    by true true e d before here = absurd (grind (arith, nat_tests))
    by true false e d before here =
        let above : nat_le k (suc n) ≡ true = grind (arith, nat_tests) in
        let none : f (suc n) ≡ [] = past (suc n) (grind (arith, nat_tests)) in
        let now : upto g n ≡ upto f n ++ new = before ∙ ap (λ b. upto f n ++ (if b then new else [])) e in
        let last : g (suc n) ≡ [] = here ∙ ap (λ b. f (suc n) ++ (if b then new else [])) d ∙ append-nil (f (suc n)) ∙ none in
        let left : upto f n ≡ upto f n ++ f (suc n) = sym (append-nil (upto f n)) ∙ ap (λ l. upto f n ++ l) (sym none) in
        (λ i. now i ++ last i) ∙ append-nil (upto f n ++ new) ∙ ap (λ l. l ++ new) left ∙ ap (λ b. (upto f n ++ f (suc n)) ++ (if b then new else [])) (sym above)
    by false true e d before here =
        let above : nat_le k (suc n) ≡ true = grind (arith, nat_tests) in
        let now : upto g n ≡ upto f n = before ∙ ap (λ b. upto f n ++ (if b then new else [])) e ∙ append-nil (upto f n) in
        let last : g (suc n) ≡ f (suc n) ++ new = here ∙ ap (λ b. f (suc n) ++ (if b then new else [])) d in
        (λ i. now i ++ last i) ∙ sym (append_assoc (upto f n) (f (suc n)) new) ∙ ap (λ b. (upto f n ++ f (suc n)) ++ (if b then new else [])) (sym above)
    by false false e d before here =
        let above : nat_le k (suc n) ≡ false = grind (arith, nat_tests) in
        let now : upto g n ≡ upto f n = before ∙ ap (λ b. upto f n ++ (if b then new else [])) e ∙ append-nil (upto f n) in
        let last : g (suc n) ≡ f (suc n) = here ∙ ap (λ b. f (suc n) ++ (if b then new else [])) d ∙ append-nil (f (suc n)) in
        (λ i. now i ++ last i) ∙ sym (append-nil (upto f n ++ f (suc n))) ∙ ap (λ b. (upto f n ++ f (suc n)) ++ (if b then new else [])) (sym above)

-- ---- what an event makes of an end

-- what an incarnation of an end got from the incarnations 1 to n of its peer
abbrev pub got_upto : EndState → ℕ → ℕ → List Message
got_upto e j n = upto (λ i. got_in e j i) n

-- An incarnation of an end got nothing from an incarnation of its peer above n.
pub record IsPast (e : EndState) (j n : ℕ) : Type 0 where
  pub each : (i : ℕ) → n < i → got_in e j i ≡ []

-- An incarnation got more, and what was handed out and taken away and waits is what waited before and this.
pub record Grows (a e : EndState) (out gone : List (List ℕ)) (j n : ℕ) : Type 0 where
  pub past : IsPast a j n
  pub new : List Message
  pub got : got_upto e j n ≡ got_upto a j n ++ new
  pub seen : map plain_message ((if nat_eq a.present.inc j then out else []) ++ (gone ++ waiting_of e j)) ≡ map plain_message (waiting_of a j) ++ new

-- An end becomes another: it is this incarnation then, this is handed to its client, and this is taken from it.
pub record Goes (a e : EndState) (next : ℕ) (out : List (List ℕ)) (gone : ℕ → List (List ℕ)) : Type 0 where
  pub named : next ≡ e.present.inc
  pub rises : a.present.inc ≤ e.present.inc
  pub kept : (j : ℕ) → e.present.inc ≤ j → gone j ≡ []
  pub each : (j n : ℕ) → IsPast e j n → Grows a e out (gone j) j n

-- nothing is handed out, and nothing is taken
abbrev pub none : ℕ → List (List ℕ)
none j = []

abbrev pub GoesOn : EndState → EndState → Type 0
GoesOn a e = Goes a e a.present.inc [] none

-- An end stays the same incarnation, with what it got and what waits.
record Still (a e : EndState) : Type 0 where
  inc : e.present.inc ≡ a.present.inc
  got : SameGot (periods a) (periods e)
  waits : in_events e.port.events ≡ in_events a.port.events

still-goes : (a e : EndState) → Still a e → GoesOn a e
still-goes a e s = record {
  named = sym s.inc;
  rises = let i = s.inc in omega (arith, i);
  kept = λ j h. refl;
  each = λ j n p. record {
    past = record { each = λ i h. sym (s.got.each j i) ∙ p.each i h };
    new = [];
    got = upto-same (λ i. got_in a j i) (λ i. got_in e j i) (λ i. s.got.each j i) n ∙ sym (append-nil (got_upto a j n));
    seen = seen j;
  };
}
  where
    seen : (j : ℕ) → map plain_message ((if nat_eq a.present.inc j then [] else []) ++ waiting_of e j) ≡ map plain_message (waiting_of a j) ++ []
    seen j =
        ap (λ l. map plain_message (l ++ waiting_of e j)) (nothing-if (nat_eq a.present.inc j) [] refl)
        ∙ (λ i. map plain_message (if nat_eq (s.inc i) j then s.waits i else []))
        ∙ sym (append-nil (map plain_message (waiting_of a j)))

pub goes-same : (a : EndState) → GoesOn a a
goes-same a = still-goes a a (record { inc = refl; got = same-all (periods a); waits = refl })

-- the lane of the present period is another with the same messages, and the same messages wait
relaned : (a : EndState) (l : LaneState) (owes_hello : Bool) (returned : List Returned) (port : PortState) → l.got ≡ a.present.lane.got → in_events port.events ≡ in_events a.port.events
    → GoesOn a (record (with_lane a l) { owes_hello = owes_hello; returned = returned; port = port })
relaned a l owes_hello returned port e f = still-goes a (record (with_lane a l) { owes_hello = owes_hello; returned = returned; port = port }) (record { inc = refl; got = same-present a.present a.past l e; waits = f })

-- ---- the client's calls, the timer

abbrev GoesAfter : EndState → DuoEffect × EndState → Type 0
GoesAfter a o = GoesOn a o.1

accepted-goes : (a : EndState) (t : ℕ) (ts : List ℕ) (bytes : List ℕ) → GoesOn a (accepted a t ts bytes)
accepted-goes a t ts bytes = still-goes a (accepted a t ts bytes) (record { inc = refl; got = same-present a.present a.past (accepted a t ts bytes).present.lane refl; waits = refl })

pub sending-goes : (a : EndState) (len seed : ℕ) (ts : List ℕ) → GoesAfter a (sending a len seed ts)
sending-goes a len seed [] = goes-same a
sending-goes a len seed (t ∷ ts) = by (nat_lt piece len) (is_spent a.present.lane.sender (piece_count len))
  where
    by : (p q : Bool) → GoesAfter a (if p then (Refused TooLong, a) else if q then (Refused Spent, a) else (Token t, accepted a t ts (client_bytes len seed)))
    by true q = goes-same a
    by false true = goes-same a
    by false false = accepted-goes a t ts (client_bytes len seed)

pub providing-goes : (a : EndState) (size : ℕ) (ts : List ℕ) → GoesAfter a (providing a size ts)
providing-goes a size [] = goes-same a
providing-goes a size (t ∷ ts) = by (is_bad_size size 0)
  where
    by : (p : Bool) → GoesAfter a (if p then (Refused BadSize, a) else (Token t, with_buffer a t ts size))
    by true = goes-same a
    by false = still-goes a (with_buffer a t ts size) (record { inc = refl; got = same-all (periods a); waits = refl })

pub expiring-goes : (a : EndState) → GoesAfter a (expiring a)
expiring-goes a = by (nat_eq (unacknowledged a.present.lane.sender) 0)
  where
    by : (p : Bool) → GoesAfter a (if p then (Idle, a) else (Expired, with_lane a (lane_expired a.present.lane)))
    by true = goes-same a
    by false = relaned a (lane_expired a.present.lane) a.owes_hello a.returned a.port refl refl

-- ---- a poll

told-nothing : (t : ℕ) (o : Option Returned) → in_effect (told t o) ≡ []
told-nothing t None = refl
told-nothing t (Some r) = by r.unsure
  where
    by : (b : Bool) → in_effect (if b then Unsure t else Sent t) ≡ []
    by true = refl
    by false = refl

-- what a poll leaves, and what it hands out
abbrev GoesPolled : EndState → DuoEffect × EndState → Type 0
GoesPolled a o = Goes a o.1 a.present.inc (in_effect o.0) none

pub polling-goes : (a : EndState) (es : List PortEvent) → a.port.events ≡ es → GoesPolled a (polling a (slice_get es 0))
polling-goes a [] e = goes-same a
polling-goes a (SentEvent t b ∷ es) e =
    let after : EndState = (polling a (Some (SentEvent t b))).1 in
    subst (λ out. Goes a after a.present.inc out none) (sym (told-nothing t (slice_get a.returned 0)))
    (still-goes a after (record { inc = refl; got = same-all (periods a); waits = ap (λ l. in_events (drop 1 l)) e ∙ sym (ap in_events e) }))
polling-goes a (ReceivedEvent t b from sport prio len ∷ es) e =
    let after : EndState = (polling a (Some (ReceivedEvent t b from sport prio len))).1 in
    record {
      named = refl;
      rises = omega arith;
      kept = λ j h. refl;
      each = λ j n p. record {
        past = record { each = λ i h. p.each i h };
        new = [];
        got = sym (append-nil (got_upto a j n));
        seen = seen j (nat_eq a.present.inc j);
      };
    }
  where
    out : List (List ℕ)
    out = take len b ∷ []

    seen : (j : ℕ) (c : Bool) → map plain_message ((if c then out else []) ++ (if c then in_events (drop 1 a.port.events) else [])) ≡ map plain_message (if c then in_events a.port.events else []) ++ []
    seen j true =
        ap (λ l. map plain_message (out ++ in_events (drop 1 l))) e ∙ sym (ap (λ l. map plain_message (in_events l)) e) ∙ sym (append-nil (map plain_message (in_events a.port.events)))
    seen j false = refl

-- ---- a restart

abbrev GoesRestarted : EndState → DuoEffect × EndState → Type 0
GoesRestarted a o = Goes a o.1 (named_by a.present.inc o.0) [] (λ j. taken_by o.0 (waiting_of a j))

pub restarting-goes : (a : EndState) → IsEnd a → GoesRestarted a (restarting a)
restarting-goes a is = by (nat_eq a.present.inc last_incarnation)
  where
    next : ℕ
    next = a.present.inc + 1

    same : SameGot (periods a) (periods (beginning next (periods a)))
    same = same-new next 0 (periods a) (new-before a next 0 is (inl (omega arith)))

    none-above : (j : ℕ) → next ≤ j → (c : Bool) → nat_eq a.present.inc j ≡ c → (if c then in_events a.port.events else []) ≡ []
    none-above j h true d = absurd (grind (arith, nat_tests))
    none-above j h false d = refl

    by : (p : Bool) → GoesRestarted a (if p then (Refused Spent, a) else (Restarted next, beginning next (periods a)))
    by true = goes-same a
    by false = record {
      named = refl;
      rises = omega arith;
      kept = λ j h. none-above j h (nat_eq a.present.inc j) refl;
      each = λ j n p. record {
        past = record { each = λ i h. sym (same.each j i) ∙ p.each i h };
        new = [];
        got = upto-same (λ i. got_in a j i) (λ i. got_in (beginning next (periods a)) j i) (λ i. same.each j i) n ∙ sym (append-nil (got_upto a j n));
        seen = ap (λ l. map plain_message (l ++ (waiting_of a j ++ waiting_of (beginning next (periods a)) j))) (nothing-if (nat_eq a.present.inc j) [] refl)
            ∙ ap (λ l. map plain_message (waiting_of a j ++ l)) (nothing-if (nat_eq next j) [] refl)
            ∙ map-append plain_message (waiting_of a j) [];
      };
    }

-- ---- sends come back

pub events-append : (es fs : List PortEvent) → in_events (es ++ fs) ≡ in_events es ++ in_events fs
events-append [] fs = refl
events-append (e ∷ es) fs = ap (λ l. in_event e ++ l) (events-append es fs) ∙ sym (append_assoc (in_event e) (in_events es) (in_events fs))

finished-waits : (p : PortState) (t : ℕ) → in_events (finished p t).events ≡ in_events p.events
finished-waits p t = by (send_of p t)
  where
    by : (o : Option Sending) → in_events (ended_by p t o).events ≡ in_events p.events
    by None = refl
    by (Some s) = events-append p.events (SentEvent t s.buffer ∷ []) ∙ append-nil (in_events p.events)

all-finished-waits : (p : PortState) (ts : List Ticket) → in_events (finished_all p ts).events ≡ in_events p.events
all-finished-waits p [] = refl
all-finished-waits p (t ∷ ts) = all-finished-waits (finished p t.token) ts ∙ finished-waits p t.token

-- ---- a hello

renewed-goes : (a : EndState) (inc knows : ℕ) → IsEnd a → a.present.known < inc → GoesOn a (answering knows (renewed inc a))
renewed-goes a inc knows is lower = still-goes a (answering knows (renewed inc a)) (record {
  inc = refl;
  got = same-new a.present.inc inc (periods a) (new-before a a.present.inc inc is (inr (refl, lower)));
  waits = all-finished-waits a.port a.present.lane.pending;
})

introduced-goes : (a : EndState) (inc knows : ℕ) → IsEnd a → a.present.known ≡ 0 → GoesOn a (answering knows (introduced inc a))
introduced-goes a inc knows is unknown = still-goes a (answering knows (introduced inc a)) (record { inc = refl; got = introduced-same a inc is unknown; waits = refl })

pub heard_hello-goes : (a : EndState) (inc knows : ℕ) → IsEnd a → GoesAfter a (heard_hello inc knows a)
heard_hello-goes a inc knows is = by (nat_lt inc a.present.known) (nat_lt a.present.known inc) (nat_eq a.present.known 0) refl refl
  where
    by : (p q r : Bool) → nat_lt a.present.known inc ≡ q → nat_eq a.present.known 0 ≡ r
        → GoesAfter a (if p then (Stale, a) else (HeardHello, answering knows (if q then if r then introduced inc a else renewed inc a else a)))
    by true q r e f = goes-same a
    by false true true e f = introduced-goes a inc knows is (grind (arith, nat_tests))
    by false true false e f = renewed-goes a inc knows is (grind (arith, nat_tests))
    by false false r e f = still-goes a (answering knows a) (record { inc = refl; got = same-all (periods a); waits = refl })

-- ---- a message

-- a port that takes a fragment which is a whole message: it waits behind the others
delivered-waits : (p : PortState) (h : FrameHead) (part : List ℕ) → can_take p h ≡ true → is_last h.total h.offset ≡ true → h.offset ≡ 0 → h.total ≡ length part
    → in_events (delivered p h part).events ≡ in_events p.events ++ part ∷ []
delivered-waits p h part can last first whole = by (delivery p h part)
  where
    bytes : (buffer : List ℕ) → take h.total (filled buffer h.offset part) ≡ part
    bytes buffer =
        let behind : 0 + length part ≡ length part = omega arith in
        (λ i. take (whole i) (filled buffer (first i) part)) ∙ (λ i. take (length part) (take-none buffer i ++ part ++ drop (behind i) buffer)) ∙ take-append_seam part (drop (length part) buffer)

    by : {q : PortState} → Delivery p h part q → in_events q.events ≡ in_events p.events ++ part ∷ []
    by (Delivery.missed e) = absurd (true≢false (sym can ∙ ap is_some e))
    by (Delivery.ends r e t) =
        events-append p.events (ReceivedEvent r.token (filled r.buffer h.offset part) h.src h.sport h.prio h.total ∷ []) ∙ ap (λ b. in_events p.events ++ b ∷ []) (bytes r.buffer)
    by (Delivery.goes_on r e t) = absurd (true≢false (sym last ∙ t))

plain-is : (m : Message) → IsShort m → plain_message m.body ≡ m
plain-is m is = (λ i. record { sport = sym is.sport i; dport = sym is.dport i; prio = sym is.prio i; body = m.body })

-- what a period got, where the present one got more
got-at : (a : EndState) (l : LaneState) (new : List Message) → l.got ≡ a.present.lane.got ++ new → (j i : ℕ)
    → (period_in (record a.present { lane = l } ∷ a.past) j i).lane.got ≡ got_in a j i ++ (if is_of j i a.present then new else [])
got-at a l new more j i = by (is_of j i a.present)
  where
    by : (b : Bool) → (if b then record a.present { lane = l } else period_in a.past j i).lane.got ≡ (if b then a.present else period_in a.past j i).lane.got ++ (if b then new else [])
    by true = more
    by false = sym (append-nil (period_in a.past j i).lane.got)

-- An end takes a message from the incarnation of its peer that it knows.
record Takes (a e : EndState) (m : Message) : Type 0 where
  inc : e.present.inc ≡ a.present.inc
  got : (j i : ℕ) → got_in e j i ≡ got_in a j i ++ (if is_of j i a.present then m ∷ [] else [])
  waits : in_events e.port.events ≡ in_events a.port.events ++ m.body ∷ []

module _ (a e : EndState) (m : Message) (is : IsEnd a) (knows : 0 < a.present.known) (short : IsShort m) (k : Takes a e m) where
  here-got : (i : ℕ) → got_in e a.present.inc i ≡ got_in a a.present.inc i ++ (if nat_eq a.present.known i then m ∷ [] else [])
  here-got i = k.got a.present.inc i ∙ ap (λ b. got_in a a.present.inc i ++ (if b && nat_eq a.present.known i then m ∷ [] else [])) (same-number a.present.inc)

  behind : (i : ℕ) → a.present.known < i → got_in a a.present.inc i ≡ []
  behind i above = ap (λ p. p.lane.got) (absent (periods a) a.present.inc i (new-before a a.present.inc i is (inr (refl, above))))

  known-within : (n : ℕ) → IsPast e a.present.inc n → a.present.known ≤ n
  known-within n p = by (nat_le a.present.known n) refl
    where
      by : (b : Bool) → nat_le a.present.known n ≡ b → a.present.known ≤ n
      by true d = grind (arith, nat_tests)
      by false d =
          let nothing : got_in e a.present.inc a.present.known ≡ [] = p.each a.present.known (grind (arith, nat_tests)) in
          let more : got_in e a.present.inc a.present.known ≡ got_in a a.present.inc a.present.known ++ m ∷ [] = here-got a.present.known ∙ ap (λ b. got_in a a.present.inc a.present.known ++ (if b then m ∷ [] else [])) (same-number a.present.known) in
          absurd (not-nil (got_in a a.present.inc a.present.known) m (sym more ∙ nothing))

  here-goes : (n : ℕ) → IsPast e a.present.inc n → Grows a e [] [] a.present.inc n
  here-goes n p =
      let within : nat_le a.present.known n ≡ true = let w = known-within n p in grind (arith, nat_tests) in
      record {
        past = record { each = λ i h. left-nil (got_in a a.present.inc i) (if nat_eq a.present.known i then m ∷ [] else []) (sym (here-got i) ∙ p.each i h) };
        new = m ∷ [];
        got = upto-grown (λ i. got_in a a.present.inc i) (λ i. got_in e a.present.inc i) a.present.known (m ∷ []) knows here-got behind n ∙ ap (λ b. got_upto a a.present.inc n ++ (if b then m ∷ [] else [])) within;
        seen = ap (λ l. map plain_message (l ++ waiting_of e a.present.inc)) (nothing-if (nat_eq a.present.inc a.present.inc) [] refl)
            ∙ (λ i. map plain_message (if nat_eq (k.inc i) a.present.inc then k.waits i else []))
            ∙ ap (λ b. map plain_message (if b then in_events a.port.events ++ m.body ∷ [] else [])) (same-number a.present.inc)
            ∙ map-append plain_message (in_events a.port.events) (m.body ∷ [])
            ∙ ap (λ x. map plain_message (in_events a.port.events) ++ x ∷ []) (plain-is m short)
            ∙ ap (λ b. map plain_message (if b then in_events a.port.events else []) ++ m ∷ []) (sym (same-number a.present.inc));
      }

  other-goes : (j n : ℕ) → nat_eq a.present.inc j ≡ false → IsPast e j n → Grows a e [] [] j n
  other-goes j n other p =
      let same : (i : ℕ) → got_in e j i ≡ got_in a j i = λ i.
      k.got j i ∙ ap (λ b. got_in a j i ++ (if b && nat_eq a.present.known i then m ∷ [] else [])) other ∙ append-nil (got_in a j i) in
      record {
        past = record { each = λ i h. sym (same i) ∙ p.each i h };
        new = [];
        got = upto-same (λ i. got_in a j i) (λ i. got_in e j i) same n ∙ sym (append-nil (got_upto a j n));
        seen = ap (λ l. map plain_message (l ++ waiting_of e j)) (nothing-if (nat_eq a.present.inc j) [] refl)
            ∙ (λ i. map plain_message (if nat_eq (k.inc i) j then in_events e.port.events else []))
            ∙ ap (λ b. map plain_message (if b then in_events e.port.events else [])) other
            ∙ ap (λ b. map plain_message (if b then in_events a.port.events else []) ++ []) (sym other);
      }

  takes-goes : GoesOn a e
  takes-goes = record { named = sym k.inc; rises = let i = k.inc in omega (arith, i); kept = λ j h. refl; each = λ j n p. by j n (nat_eq a.present.inc j) refl p }
    where
      by : (j n : ℕ) (b : Bool) → nat_eq a.present.inc j ≡ b → IsPast e j n → Grows a e [] [] j n
      by j n true d p =
          let same : a.present.inc ≡ j = grind (arith, nat_tests) in
          subst (λ i. IsPast e i n → Grows a e [] [] i n) same (here-goes n) p
      by j n false d p = other-goes j n d p

next-goes : (a : EndState) (x : ℕ) (m : Message) (n : ℕ) → IsEnd a → 0 < a.present.known → IsShort m → (p q : Bool) → can_take a.port (frame_head x n m) ≡ q
    → GoesAfter a (heard_frame (frame_head x n m) m.body a (if p then if q then taken_as true else TookNoToken else TookNotNext))
next-goes a x m n is knows short true true can =
    let l : LaneState = lane_after a.present.lane Whole m in
    let more : l.got ≡ a.present.lane.got ++ m ∷ [] = ap (λ (c : List ℕ). a.present.lane.got ++ ending c m ∷ []) is.lane.none_begun in
    takes-goes a (heard_frame (frame_head x n m) m.body a Whole).1 m is knows short (record {
      inc = refl;
      got = λ j i. got-at a l (m ∷ []) more j i;
      waits = delivered-waits a.port (frame_head x n m) m.body can (last-short m short) refl refl;
    })
next-goes a x m n is knows short true false can = relaned a (lane_after a.present.lane TookNoToken m) a.owes_hello a.returned a.port refl refl
next-goes a x m n is knows short false q can = relaned a (lane_after a.present.lane TookNotNext m) a.owes_hello a.returned a.port refl refl

-- ---- data

heard_ack-goes : (a : EndState) (n : ℕ) → GoesOn a (heard_ack n a)
heard_ack-goes a n = still-goes a (heard_ack n a) (record {
  inc = refl;
  got = same-present a.present a.past (lane_acknowledged a.present.lane n) refl;
  waits = all-finished-waits a.port (tickets_finished a.present.lane n);
})

body-goes : (a b : EndState) (x : ℕ) (body : List ℕ) → IsEnd a → IsBody b x a.present.known a.present.inc body → GoesAfter a (heard_body body a (decode body))
body-goes a b x body is h = by h.says
  where
    by : IsFrameBody b x a.present.known a.present.inc body ⊎ IsAckBody b x a.present.known a.present.inc body → GoesAfter a (heard_body body a (decode body))
    by (inl f) =
        let r = frame-is_read x f.number f.message h.side f.low f.short in
        let head : FrameHead = frame_head x f.number f.message in
        let read : decode body ≡ Ok (Frame head) = ap decode f.bytes ∙ r.head in
        let part : part_in body ≡ f.message.body = ap part_in f.bytes ∙ r.part in
        let last : is_last head.total head.offset ≡ true = last-short f.message f.short in
        let k : GoesAfter a (heard_frame head f.message.body a (took a.present.lane.taken f.number (can_take a.port head) true)) =
        next-goes a x f.message f.number is h.src f.short (nat_eq f.number a.present.lane.taken) (can_take a.port head) refl in
        subst (λ d. GoesAfter a (heard_body body a d)) (sym read)
        (subst (λ l. GoesAfter a (heard_frame head l a (took a.present.lane.taken f.number (can_take a.port head) (is_last head.total head.offset)))) (sym part)
        (subst (λ t. GoesAfter a (heard_frame head f.message.body a (took a.present.lane.taken f.number (can_take a.port head) t))) (sym last) k))
    by (inr f) =
        let read : decode body ≡ Ok (Acknowledges (answer x f.taken)) = ap decode f.bytes ∙ ack-is_read x f.taken h.side f.low in
        subst (λ d. GoesAfter a (heard_body body a d)) (sym read) (heard_ack-goes a f.taken)

pub heard_data-goes : (a b : EndState) (x i j : ℕ) (body : List ℕ) → IsEnd a → IsBody b x i j body → GoesAfter a (heard_data i j body a)
heard_data-goes a b x i j body is h = by (nat_eq i a.present.known && nat_eq j a.present.inc) refl
  where
    by : (t : Bool) → (nat_eq i a.present.known && nat_eq j a.present.inc) ≡ t → GoesAfter a (if t then heard_body body a (decode body) else (Stale, a))
    by true e =
        let p = both (nat_eq i a.present.known) (nat_eq j a.present.inc) e in
        let m : i ≡ a.present.known = let q = p.0 in grind (arith, nat_tests) in
        let n : j ≡ a.present.inc = let q = p.1 in grind (arith, nat_tests) in
        body-goes a b x body is (subst (λ k. IsBody b x a.present.known k body) n (subst (λ k. IsBody b x k j body) m h))
    by false e = goes-same a

-- ---- what is emitted

abbrev pub GoesEmitting : EndState → Option (Packet × EndState) → Type 0
GoesEmitting a None = Unit {0}
GoesEmitting a (Some o) = GoesOn a o.1

frames-goes : (a : EndState) (x : ℕ) (o : Option (FrameHead × List ℕ)) → GoesEmitting a (option_map (frame_emission x a) o)
frames-goes a x None = tt
frames-goes a x (Some f) = relaned a (lane_sent_one a.present.lane) a.owes_hello a.returned a.port refl refl

pub emission-goes : (a : EndState) (x : ℕ) → GoesEmitting a (emission x a)
emission-goes a x = by (says_hello a) a.present.lane.owes
  where
    by : (p q : Bool) → GoesEmitting a (if p then Some (hello_of x a, record a { owes_hello = false }) else if q then Some (ack_emission x a) else option_map (frame_emission x a) (due_frame x a))
    by true q = still-goes a (record a { owes_hello = false }) (record { inc = refl; got = same-all (periods a); waits = refl })
    by false true = relaned a (lane_answered a.present.lane) a.owes_hello a.returned a.port refl refl
    by false false = frames-goes a x (due_frame x a)
