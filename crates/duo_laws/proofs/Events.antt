-- What each event makes of the end at which it happens.
use Rattle.std.proofs.Common.{◌≡◌, ◌<◌, ◌≤◌, ◌+◌, ◌-◌, ◌^◌, ◌%◌, ◌⊎◌, inl, inr, ℕ, zero, suc, Bool, true, false, ◌&&◌, ◌||◌, nat_eq, nat_lt, nat_le, max, List, [], ◌∷◌, ◌++◌, length, take, drop, Option, Some, None, option_map, Ok, refl, sym, ap, ◌∙◌, subst, arith, true≢false, if◌then◌else◌}
use Rattle.std.specs.Prelude.{slice_get, option_and_then}
use Rattle.std.specs.List.{AllByRecursion, range_with_len}
use Rattle.std.proofs.lemmas.Bool.Decides.{nat_tests}
use Rattle.std.proofs.lemmas.List.{length-append, length-map}
use Rattle.std.proofs.lemmas.List.FromFn.{length-range_with_len}
use Rattle.std.proofs.lemmas.Option.{same_Some}
use Rattle.net_defs.proofs.Distinct.{all-weaker}
use Rattle.gm_defs.specs.declared.message.Message.{Message}
use Rattle.gm_defs.specs.declared.frame.FrameHead.{FrameHead}
use Rattle.gm_defs.specs.declared.frame.GmBody.TheVariants.{Frame, Ack as Acknowledges}
use Rattle.gm_defs.specs.declared.token.Took.TheVariants.{NotNext as TookNotNext, NoToken as TookNoToken, Whole}
use Rattle.gm_defs.specs.Body.{piece, number_limit, is_last, decode, part_in}
use Rattle.gm_defs.specs.Port.{is_bad_size}
use Rattle.gm_defs.specs.Fragment.{piece_count, frame_of}
use Rattle.gm_defs.specs.Connection.{SenderState, IsSender, window, due, sent_one, is_taken, acknowledged, expired, unacknowledged, is_spent, took, taken_as}
use Rattle.gm_defs.specs.Token.{PortState, PortEvent, Sent as SentEvent, Received as ReceivedEvent, can_take}
use Rattle.gm_defs.proofs.Choices.{both, if-some}
use Rattle.gm_defs.proofs.Numbers.{length-drop}
use Rattle.world_defs.specs.Lane.{LaneState, Ticket, new_lane, with_message, finished_by, lane_expired, lane_sent_one, got_after, lane_after}
use Rattle.world_defs.specs.Client.{ClientState, client_bytes}
use Rattle.duo_defs.specs.declared.packet.Packet.{Packet}
use Rattle.duo_defs.specs.declared.packet.Packet.TheVariants.{Hello, Data}
use Rattle.duo_defs.specs.declared.effect.DuoEffect.{DuoEffect}
use Rattle.duo_defs.specs.declared.effect.DuoEffect.TheVariants.{Token, Refused, Idle, Expired, Restarted, Stale, Hello as HeardHello}
use Rattle.duo_defs.specs.declared.effect.DuoCause.TheVariants.{TooLong, Spent, BadSize}
use Rattle.duo_defs.specs.Duo.{plain_message, EndState, new_period, periods, with_lane, sent_in, got_in, beginning}
use Rattle.duo_defs.specs.Emitting.{sends_on, says_hello, hello_of, ack_emission, frame_emission, due_frame, emission}
use Rattle.duo_defs.specs.Hearing.{first_pending, returned_from, with_returned, introduced, renewed, answering, heard_hello, heard_frame, heard_ack, heard_body, heard_data}
use Rattle.duo_defs.specs.Step.{last_incarnation, accepted, sending, with_buffer, providing, expiring, polling, restarting}
use Rattle.duo_defs.specs.Theorem.{IsShort}
use Rattle.duo_laws.proofs.Lists.{all-both, all-at}
use Rattle.duo_laws.proofs.Periods.{at-present, looked-up, same-present, same-new}
use Rattle.duo_laws.proofs.Bodies.{one-piece, framed, frame-short, whole-short, frame_head, answer, last-short, frame-is_read, ack-is_read}
use Rattle.duo_laws.proofs.Ends.{IsPeriod, IsLane, IsEnd, IsReturnedRight, IsBody, IsFrameBody, IsAckBody, Change}
use Rattle.duo_laws.proofs.Changes.{Sides, rest_of, steady, follows, fits-numbers, same-lane, accept-follow, new-follow, new-before, introduced-follow, introduced-same, taken}

-- an event leaves an end so
abbrev pub Keeps : EndState → EndState → DuoEffect × EndState → Type 0
Keeps a b o = Change a o.1 b

unchanged : (a b : EndState) → Sides a b → Change a a b
unchanged a b s = same-lane a b a.present.lane.owes (rest_of a) s s.out.returned

-- ---- the client's calls

accepted-keeps : (a b : EndState) (t : ℕ) (ts : List ℕ) (bytes : List ℕ) → Sides a b → length bytes ≤ piece → is_spent a.present.lane.sender (piece_count (length bytes)) ≡ false → Change a (accepted a t ts bytes) b
accepted-keeps a b t ts bytes s short free =
    let is = s.mine in
    let m : Message = plain_message bytes in
    let o = is.lane.sender in
    let one : piece_count (length bytes) ≡ 1 = one-piece m short in
    let room : a.present.lane.sender.next + piece_count (length bytes) ≤ number_limit = grind (arith, nat_tests) in
    let l : LaneState = with_message a.present.lane m (record { port = 0; token = t }) in
    let k = is.lane.counted in
    let v = is.lane.waiting in
    let longer : length (a.present.lane.sent ++ m ∷ []) ≡ length a.present.lane.sent + 1 = length-append a.present.lane.sent (m ∷ []) in
    let ticket : Ticket = record { port = 0; token = t } in
    let more : length (a.present.lane.pending ++ ticket ∷ []) ≡ length a.present.lane.pending + 1 = length-append a.present.lane.pending (ticket ∷ []) in
    follows a b (record a.present { lane = l }) a.past (rest_of (accepted a t ts bytes)) s
    (accept-follow a m l is (record { sport = refl; dport = refl; prio = refl; short = short }) (omega (arith, room, one)) refl refl) (same-present a.present a.past l refl) (record {
      lane = record {
        sender = record { base_below = o.base_below; cursor_below = o.cursor_below; top_below = let x = o.top_below in omega (arith, x); in_range = room };
        counted = omega (arith, k, longer, one);
        waiting = omega (arith, v, more, one);
        taken = is.lane.taken;
        none_begun = is.lane.none_begun;
      };
      idle = is.idle;
      base = s.out.base;
      known = s.out.known;
      returned = s.out.returned;
    })

client-length : (len seed : ℕ) → length (client_bytes len seed) ≡ len
client-length len seed = length-map (range_with_len 0 len) (λ i. (seed + i) % 256) ∙ length-range_with_len 0 len

pub sending-keeps : (a b : EndState) (len seed : ℕ) (ts : List ℕ) → Sides a b → Keeps a b (sending a len seed ts)
sending-keeps a b len seed [] s = unchanged a b s
sending-keeps a b len seed (t ∷ ts) s = by (nat_lt piece len) (is_spent a.present.lane.sender (piece_count len)) refl refl
  where
    by : (p q : Bool) → nat_lt piece len ≡ p → is_spent a.present.lane.sender (piece_count len) ≡ q
        → Keeps a b (if p then (Refused TooLong, a) else if q then (Refused Spent, a) else (Token t, accepted a t ts (client_bytes len seed)))
    by true q e f = unchanged a b s
    by false true e f = unchanged a b s
    by false false e f =
        let l = client-length len seed in
        accepted-keeps a b t ts (client_bytes len seed) s (let low : len ≤ piece = grind (arith, nat_tests) in omega (arith, l, low))
        (ap (λ k. is_spent a.present.lane.sender (piece_count k)) l ∙ f)

-- only the port and the client change
port-keeps : (a b : EndState) (port : PortState) (client : ClientState) → Sides a b → Change a (record a { port = port; client = client }) b
port-keeps a b port client s = same-lane a b a.present.lane.owes (rest_of (record a { port = port; client = client })) s s.out.returned

pub providing-keeps : (a b : EndState) (size : ℕ) (ts : List ℕ) → Sides a b → Keeps a b (providing a size ts)
providing-keeps a b size [] s = unchanged a b s
providing-keeps a b size (t ∷ ts) s = by (is_bad_size size 0)
  where
    by : (p : Bool) → Keeps a b (if p then (Refused BadSize, a) else (Token t, with_buffer a t ts size))
    by true = unchanged a b s
    by false = port-keeps a b (with_buffer a t ts size).port (with_buffer a t ts size).client s

all-rest : {X : Type 0} (P : X → Type 0) (xs : List X) → AllByRecursion P xs → AllByRecursion P (drop 1 xs)
all-rest P [] all = tt
all-rest P (x ∷ xs) all = all.1

pub polling-keeps : (a b : EndState) (o : Option PortEvent) → Sides a b → Keeps a b (polling a o)
polling-keeps a b None s = unchanged a b s
polling-keeps a b (Some (SentEvent t buffer)) s =
    let e : EndState = (polling a (Some (SentEvent t buffer))).1 in
    same-lane a b a.present.lane.owes (rest_of e) s (all-rest (IsReturnedRight a.present.inc b) a.returned s.out.returned)
polling-keeps a b (Some (ReceivedEvent t buffer from sport prio len)) s =
    let e : EndState = (polling a (Some (ReceivedEvent t buffer from sport prio len))).1 in
    port-keeps a b e.port e.client s

-- ---- the timer

pub expiring-keeps : (a b : EndState) → Sides a b → Keeps a b (expiring a)
expiring-keeps a b s = by (nat_eq (unacknowledged a.present.lane.sender) 0)
  where
    by : (p : Bool) → Keeps a b (if p then (Idle, a) else (Expired, with_lane a (lane_expired a.present.lane)))
    by true = unchanged a b s
    by false =
        let o = s.mine.lane.sender in
        let x = o.base_below in
        let y = o.cursor_below in
        steady a b (lane_expired a.present.lane) (rest_of a) s refl refl
        (fits-numbers a b (expired a.present.lane.sender) a.present.lane.owes a.returned s
        (record { base_below = omega arith; cursor_below = omega (arith, x, y); top_below = o.top_below; in_range = o.in_range }) refl refl s.out.returned)

-- ---- a restart

pub new-is : IsLane new_lane
new-is = record {
  sender = record { base_below = omega arith; cursor_below = omega arith; top_below = omega arith; in_range = omega arith };
  counted = refl;
  waiting = refl;
  taken = refl;
  none_begun = refl;
}

pub restarting-keeps : (a b : EndState) → Sides a b → Keeps a b (restarting a)
restarting-keeps a b s = by (nat_eq a.present.inc last_incarnation)
  where
    by : (p : Bool) → Keeps a b (if p then (Refused Spent, a) else (Restarted (a.present.inc + 1), beginning (a.present.inc + 1) (periods a)))
    by true = unchanged a b s
    by false =
        let above : (a.present.inc < a.present.inc + 1) ⊎ ((a.present.inc ≡ a.present.inc + 1) × (a.present.known < 0)) = inl (omega arith) in
        follows a b (new_period (a.present.inc + 1) 0) (periods a) (rest_of (beginning (a.present.inc + 1) (periods a))) s (new-follow a (a.present.inc + 1) 0 s.mine above)
        (same-new (a.present.inc + 1) 0 (periods a) (new-before a (a.present.inc + 1) 0 s.mine above)) (record {
          lane = new-is;
          idle = λ h. refl;
          base = λ h. omega arith;
          known = omega arith;
          returned = tt;
        })

-- ---- a hello

renewed-keeps : (a b : EndState) (inc knows : ℕ) → Sides a b → a.present.known < inc → inc ≤ b.present.inc → Change a (answering knows (renewed inc a)) b
renewed-keeps a b inc knows s lower low =
    let above : (a.present.inc < a.present.inc) ⊎ ((a.present.inc ≡ a.present.inc) × (a.present.known < inc)) = inr (refl, lower) in
    follows a b (new_period a.present.inc inc) (periods a) (rest_of (answering knows (renewed inc a))) s (new-follow a a.present.inc inc s.mine above)
    (same-new a.present.inc inc (periods a) (new-before a a.present.inc inc s.mine above)) (record {
      lane = new-is;
      idle = λ h. refl;
      base = λ h. omega arith;
      known = low;
      returned = all-both (IsReturnedRight a.present.inc b) a.returned (returned_from a.present.known true (first_pending a.present.lane) a.present.lane.pending) s.out.returned
          (unsure (first_pending a.present.lane) a.present.lane.pending);
    })
  where
    unsure : (n : ℕ) (ts : List Ticket) → AllByRecursion (IsReturnedRight a.present.inc b) (returned_from a.present.known true n ts)
    unsure n [] = tt
    unsure n (t ∷ ts) = (inr (record { not_sure = refl; above = omega (arith, lower, low) }), unsure (suc n) ts)

introduced-keeps : (a b : EndState) (inc knows : ℕ) → Sides a b → a.present.known ≡ 0 → 0 < inc → inc ≤ b.present.inc → Change a (answering knows (introduced inc a)) b
introduced-keeps a b inc knows s none positive low =
    let is = s.mine in
    follows a b (record a.present { known = inc }) a.past (rest_of (answering knows a)) s (introduced-follow a inc is none positive) (introduced-same a inc is none) (record {
      lane = is.lane;
      idle = λ h. is.idle none;
      base = λ h. let z = is.idle none in omega (arith, z);
      known = low;
      returned = s.out.returned;
    })

pub heard_hello-keeps : (a b : EndState) (inc knows : ℕ) → Sides a b → inc ≤ b.present.inc → Keeps a b (heard_hello inc knows a)
heard_hello-keeps a b inc knows s low = by (nat_lt inc a.present.known) (nat_lt a.present.known inc) (nat_eq a.present.known 0) refl refl
  where
    by : (p q r : Bool) → nat_lt a.present.known inc ≡ q → nat_eq a.present.known 0 ≡ r
        → Keeps a b (if p then (Stale, a) else (HeardHello, answering knows (if q then if r then introduced inc a else renewed inc a else a)))
    by true q r e f = unchanged a b s
    by false true true e f = introduced-keeps a b inc knows s (grind (arith, nat_tests)) (grind (arith, nat_tests)) low
    by false true false e f = renewed-keeps a b inc knows s (grind (arith, nat_tests)) low
    by false false r e f =
        same-lane a b a.present.lane.owes (rest_of (answering knows a)) s s.out.returned

-- ---- an acknowledgement

acked : (a b : EndState) (known : ℕ) (n k limit : ℕ) (ts : List Ticket) → 0 < known → limit ≤ length (got_in b known a.present.inc) → n + k ≤ limit
    → AllByRecursion (IsReturnedRight a.present.inc b) (returned_from known false n (take k ts))
acked a b known n zero limit ts positive low fits = tt
acked a b known n (suc k) limit [] positive low fits = tt
acked a b known n (suc k) limit (t ∷ ts) positive low fits =
    (inl (record { sure = refl; counted = positive; there = omega (arith, low, fits) }), acked a b known (suc n) k limit ts positive low (omega (arith, fits)))

-- the place of the first message that isn't finished is the number that isn't acknowledged
pub first-is_base : (l : LaneState) → IsLane l → first_pending l ≡ l.sender.base
first-is_base l is = let w = is.waiting in let c = is.counted in omega (arith, w, c)

-- the first of the sends that wait come back
abbrev acked-by : EndState → SenderState → ℕ → EndState
acked-by a numbers k = with_lane (with_returned a false (take k a.present.lane.pending)) (record a.present.lane { sender = numbers; pending = drop k a.present.lane.pending })

acked-keeps : (a b : EndState) (numbers : SenderState) (k : ℕ) → Sides a b → 0 < a.present.known → IsSender numbers → numbers.next ≡ a.present.lane.sender.next → numbers.base ≡ a.present.lane.sender.base + k
    → numbers.base ≤ length (got_in b a.present.known a.present.inc) → Change a (acked-by a numbers k) b
acked-keeps a b numbers k s knows sender next base low =
    let is = s.mine in
    let w = is.lane.waiting in
    let x = sender.base_below in
    let y = sender.cursor_below in
    let z = sender.top_below in
    let first = first-is_base a.present.lane is.lane in
    let left : length (drop k a.present.lane.pending) ≡ length a.present.lane.pending - k = length-drop k a.present.lane.pending in
    steady a b (record a.present.lane { sender = numbers; pending = drop k a.present.lane.pending }) (rest_of (acked-by a numbers k)) s refl refl (record {
      lane = record {
        sender = sender;
        counted = next ∙ is.lane.counted;
        waiting = omega (arith, w, left, next, base, x, y, z);
        taken = is.lane.taken;
        none_begun = is.lane.none_begun;
      };
      idle = λ h. absurd (omega (arith, h, knows));
      base = λ h. low;
      known = s.out.known;
      returned = all-both (IsReturnedRight a.present.inc b) a.returned (returned_from a.present.known false (first_pending a.present.lane) (take k a.present.lane.pending)) s.out.returned
          (acked a b a.present.known (first_pending a.present.lane) k (length (got_in b a.present.known a.present.inc)) a.present.lane.pending knows (omega arith) (omega (arith, base, low, first)));
    })

-- how many messages an acknowledgement finishes
finishes : (a : EndState) (n : ℕ) → IsEnd a → a.present.lane.sender.base ≤ (acknowledged a.present.lane.sender n).base → (acknowledged a.present.lane.sender n).base ≤ a.present.lane.sender.next
    → finished_by a.present.lane n ≡ (acknowledged a.present.lane.sender n).base - a.present.lane.sender.base
finishes a n is low high =
    let l : LaneState = a.present.lane in
    let c = is.lane.counted in
    let p = whole-short l.sent (acknowledged l.sender n).base is.each.0.short in
    let q = whole-short l.sent l.sender.base is.each.0.short in
    omega (arith, p, q, c, low, high)

pub heard_ack-keeps : (a b : EndState) (n : ℕ) → Sides a b → 0 < a.present.known → n ≤ length (got_in b a.present.known a.present.inc) → Change a (heard_ack n a) b
heard_ack-keeps a b n s knows low =
    let bounds = base-rises (is_taken a.present.lane.sender n) refl in
    let same : finished_by a.present.lane n ≡ (acknowledged a.present.lane.sender n).base - a.present.lane.sender.base = finishes a n s.mine bounds.0 bounds.1 in
    subst (λ k. Change a (acked-by a (acknowledged a.present.lane.sender n) k) b) (sym same) (by (is_taken a.present.lane.sender n) refl)
  where
    after : Bool → SenderState
    after t = if t then record a.present.lane.sender { base = n; cursor = max a.present.lane.sender.cursor n } else a.present.lane.sender

    base-rises : (t : Bool) → is_taken a.present.lane.sender n ≡ t → (a.present.lane.sender.base ≤ (after t).base) × ((after t).base ≤ a.present.lane.sender.next)
    base-rises true e =
        let o = s.mine.lane.sender in
        let top = o.top_below in
        let p = both (nat_lt a.present.lane.sender.base n) (nat_le n a.present.lane.sender.top) e in
        let lower : a.present.lane.sender.base < n = let q = p.0 in grind (arith, nat_tests) in
        let upper : n ≤ a.present.lane.sender.top = let q = p.1 in grind (arith, nat_tests) in
        (omega (arith, lower), omega (arith, upper, top))
    base-rises false e =
        let o = s.mine.lane.sender in
        let x = o.base_below in
        let y = o.cursor_below in
        let z = o.top_below in
        (omega arith, omega (arith, x, y, z))

    by : (t : Bool) → is_taken a.present.lane.sender n ≡ t → Change a (acked-by a (after t) ((after t).base - a.present.lane.sender.base)) b
    by true e =
        let o = s.mine.lane.sender in
        let k = o.cursor_below in
        let p = both (nat_lt a.present.lane.sender.base n) (nat_le n a.present.lane.sender.top) e in
        let lower : a.present.lane.sender.base < n = let q = p.0 in grind (arith, nat_tests) in
        let upper : n ≤ a.present.lane.sender.top = let q = p.1 in grind (arith, nat_tests) in
        acked-keeps a b (record a.present.lane.sender { base = n; cursor = max a.present.lane.sender.cursor n }) (n - a.present.lane.sender.base) s knows
        (record { base_below = omega arith; cursor_below = omega (arith, k, upper); top_below = o.top_below; in_range = o.in_range }) refl (omega (arith, lower)) low
    by false e = acked-keeps a b a.present.lane.sender (a.present.lane.sender.base - a.present.lane.sender.base) s knows s.mine.lane.sender refl (omega arith) (s.out.base knows)

-- ---- a frame

-- a message that is taken whole, where nothing was begun
whole-got : (got : List Message) (coming : List ℕ) (m : Message) → coming ≡ [] → got_after got coming Whole m ≡ got ++ m ∷ []
whole-got got coming m e = ap (λ (l : List ℕ). got ++ record m { body = l ++ m.body } ∷ []) e

next-taken : (a b : EndState) (x : ℕ) (m : Message) (n : ℕ) → Sides a b → 0 < a.present.known → slice_get (sent_in b a.present.known a.present.inc) n ≡ Some m
    → (p q : Bool) → nat_eq n a.present.lane.taken ≡ p
    → Keeps a b (heard_frame (frame_head x n m) m.body a (if p then if q then taken_as true else TookNoToken else TookNotNext))
next-taken a b x m n s knows there true true e =
    let is = s.mine in
    let t = is.lane.taken in
    let same : n ≡ length a.present.lane.got = let k : n ≡ a.present.lane.taken = grind (arith, nat_tests) in k ∙ t in
    let l : LaneState = lane_after a.present.lane Whole m in
    let o : EndState = (heard_frame (frame_head x n m) m.body a Whole).1 in
    let more : l.got ≡ a.present.lane.got ++ m ∷ [] = whole-got a.present.lane.got a.present.lane.coming m is.lane.none_begun in
    let long : length l.got ≡ length a.present.lane.got + 1 = ap length more ∙ length-append a.present.lane.got (m ∷ []) in
    taken a b m l (rest_of o) s (subst (λ k. slice_get (sent_in b a.present.known a.present.inc) k ≡ Some m) same there) knows refl more (record {
      lane = record {
        sender = is.lane.sender;
        counted = is.lane.counted;
        waiting = is.lane.waiting;
        taken = omega (arith, t, long);
        none_begun = refl;
      };
      idle = is.idle;
      base = s.out.base;
      known = s.out.known;
      returned = s.out.returned;
    })
next-taken a b x m n s knows there true false e = same-lane a b true (rest_of a) s s.out.returned
next-taken a b x m n s knows there false q e = same-lane a b true (rest_of a) s s.out.returned

-- ---- data

body-keeps : (a b : EndState) (x : ℕ) (body : List ℕ) → Sides a b → IsBody b x a.present.known a.present.inc body → Keeps a b (heard_body body a (decode body))
body-keeps a b x body s h = by h.says
  where
    by : IsFrameBody b x a.present.known a.present.inc body ⊎ IsAckBody b x a.present.known a.present.inc body → Keeps a b (heard_body body a (decode body))
    by (inl f) =
        let r = frame-is_read x f.number f.message h.side f.low f.short in
        let head : FrameHead = frame_head x f.number f.message in
        let read : decode body ≡ Ok (Frame head) = ap decode f.bytes ∙ r.head in
        let part : part_in body ≡ f.message.body = ap part_in f.bytes ∙ r.part in
        let last : is_last head.total head.offset ≡ true = last-short f.message f.short in
        let k : Keeps a b (heard_frame head f.message.body a (took a.present.lane.taken f.number (can_take a.port head) true)) =
        next-taken a b x f.message f.number s h.src f.there (nat_eq f.number a.present.lane.taken) (can_take a.port head) refl in
        subst (λ d. Keeps a b (heard_body body a d)) (sym read)
        (subst (λ l. Keeps a b (heard_frame head l a (took a.present.lane.taken f.number (can_take a.port head) (is_last head.total head.offset)))) (sym part)
        (subst (λ t. Keeps a b (heard_frame head f.message.body a (took a.present.lane.taken f.number (can_take a.port head) t))) (sym last) k))
    by (inr f) =
        let read : decode body ≡ Ok (Acknowledges (answer x f.taken)) = ap decode f.bytes ∙ ack-is_read x f.taken h.side f.low in
        subst (λ d. Keeps a b (heard_body body a d)) (sym read) (heard_ack-keeps a b f.taken s h.src f.within)

pub heard_data-keeps : (a b : EndState) (x i j : ℕ) (body : List ℕ) → Sides a b → IsBody b x i j body → Keeps a b (heard_data i j body a)
heard_data-keeps a b x i j body s h = by (nat_eq i a.present.known && nat_eq j a.present.inc) refl
  where
    by : (t : Bool) → (nat_eq i a.present.known && nat_eq j a.present.inc) ≡ t → Keeps a b (if t then heard_body body a (decode body) else (Stale, a))
    by true e =
        let p = both (nat_eq i a.present.known) (nat_eq j a.present.inc) e in
        let m : i ≡ a.present.known = let q = p.0 in grind (arith, nat_tests) in
        let n : j ≡ a.present.inc = let q = p.1 in grind (arith, nat_tests) in
        body-keeps a b x body s (subst (λ k. IsBody b x a.present.known k body) n (subst (λ k. IsBody b x k j body) m h))
    by false e = unchanged a b s

-- ---- what is emitted

-- a due number is the cursor, and was offered
record IsDue (s : SenderState) (n : ℕ) : Type 0 where
  number : n ≡ s.cursor
  offered_already : s.cursor < s.next
  in_window : s.cursor < s.base + window

due-some : (s : SenderState) (n : ℕ) → due s ≡ Some n → IsDue s n
due-some s n e =
    let p = if-some (nat_lt s.cursor s.next && nat_lt s.cursor (s.base + window)) (Some s.cursor) n e in
    let b = both (nat_lt s.cursor s.next) (nat_lt s.cursor (s.base + window)) p.0 in
    record {
      number = sym (same_Some s.cursor n p.1);
      offered_already = let t = b.0 in grind (arith, nat_tests);
      in_window = let t = b.1 in grind (arith, nat_tests);
    }

-- a packet that an end emits
abbrev pub IsFrom : EndState → ℕ → Packet → Type 0
IsFrom e x (Hello src inc knows) = (src ≡ x) × (inc ≤ e.present.inc)
IsFrom e x (Data src i j body) = (src ≡ x) × IsBody e src i j body

-- an emission leaves an end so, and its packet is honest
abbrev pub IsEmitted : EndState → EndState → ℕ → Option (Packet × EndState) → Type 0
IsEmitted a b x None = Unit {0}
IsEmitted a b x (Some o) = Change a o.1 b × IsFrom o.1 x o.0

-- an end has no more messages than numbers
got-few : (a b : EndState) → Sides a b → a.present.lane.taken < 2 ^ 32
got-few a b s =
    let p = s.into.prefix a.present.known a.present.inc s.mine.living in
    let few : length (sent_in b a.present.known a.present.inc) ≤ number_limit =
    looked-up (λ q. length q.lane.sent ≤ number_limit) (periods b) a.present.known a.present.inc (omega arith) (all-weaker IsPeriod (λ q. length q.lane.sent ≤ number_limit) (periods b) (λ q i. i.few) s.theirs.each) in
    let long : length (sent_in b a.present.known a.present.inc) ≡ length (got_in a a.present.inc a.present.known) + length p.rest = ap length p.both ∙ length-append (got_in a a.present.inc a.present.known) p.rest in
    let here : length (got_in a a.present.inc a.present.known) ≡ length a.present.lane.got = ap (λ q. length q.lane.got) (at-present a.present a.past) in
    let t = s.mine.lane.taken in
    omega (arith, few, long, here, t)

-- an end that says no hello knows an incarnation of its peer
knows-one : (a : EndState) → says_hello a ≡ false → 0 < a.present.known
knows-one a e = by (nat_eq a.present.known 0) refl e
  where
    by : (t : Bool) → nat_eq a.present.known 0 ≡ t → (t || a.owes_hello) ≡ false → 0 < a.present.known
    by true f g = absurd (true≢false g)
    by false f g = grind (arith, nat_tests)

-- the fragment that is due
frame-emitted : (a b : EndState) (x n : ℕ) → Sides a b → x < 2 → 0 < a.present.known → due a.present.lane.sender ≡ Some n → (o : Option Message) → slice_get a.present.lane.sent n ≡ o
    → IsEmitted a b x (option_map (frame_emission x a) (option_map (framed x n) o))
frame-emitted a b x n s side knows e None f = tt
frame-emitted a b x n s side knows e (Some m) f =
    let d = due-some a.present.lane.sender n e in
    let q = d.number in
    let r = d.offered_already in
    let o = s.mine.lane.sender in
    let u = o.base_below in
    let v = o.cursor_below in
    let w = o.top_below in
    let i = o.in_range in
    let after : EndState = with_lane a (lane_sent_one a.present.lane) in
    let here : slice_get (sent_in after a.present.inc a.present.known) n ≡ Some m = ap (λ p. slice_get p.lane.sent n) (at-present after.present after.past) ∙ f in (
      steady a b (lane_sent_one a.present.lane) (rest_of a) s refl refl (fits-numbers a b (sent_one a.present.lane.sender) a.present.lane.owes a.returned s
          (record { base_below = omega (arith, u); cursor_below = omega (arith, v); top_below = omega (arith, w, r); in_range = i }) refl refl s.out.returned),
      (
        refl,
        record {
          side = side;
          src = s.mine.living;
          dst = knows;
          says = inl (record {
            number = n;
            message = m;
            there = here;
            short = all-at IsShort a.present.lane.sent n m s.mine.each.0.short f;
            low = omega (arith, q, r, i);
            bytes = refl;
          });
        },
      ),
    )

due-emitted : (a b : EndState) (x : ℕ) → Sides a b → x < 2 → 0 < a.present.known → (o : Option ℕ) → due a.present.lane.sender ≡ o
    → IsEmitted a b x (option_map (frame_emission x a) (option_and_then (λ seq. frame_of (sends_on x) a.present.lane.sent seq) o))
due-emitted a b x s side knows None e = tt
due-emitted a b x s side knows (Some n) e =
    subst (λ f. IsEmitted a b x (option_map (frame_emission x a) f)) (sym (frame-short x n a.present.lane.sent s.mine.each.0.short))
    (frame-emitted a b x n s side knows e (slice_get a.present.lane.sent n) refl)

ack-emitted : (a b : EndState) (x : ℕ) → Sides a b → x < 2 → 0 < a.present.known → IsEmitted a b x (Some (ack_emission x a))
ack-emitted a b x s side knows =
    let after : EndState = (ack_emission x a).1 in
    let there : length (got_in after a.present.inc a.present.known) ≡ length a.present.lane.got = ap (λ p. length p.lane.got) (at-present after.present after.past) in
    let t = s.mine.lane.taken in (
      same-lane a b false (rest_of a) s s.out.returned,
      (
        refl,
        record {
          side = side;
          src = s.mine.living;
          dst = knows;
          says = inr (record { taken = a.present.lane.taken; within = omega (arith, there, t); low = got-few a b s; bytes = refl });
        },
      ),
    )

pub emission-keeps : (a b : EndState) (x : ℕ) → Sides a b → x < 2 → IsEmitted a b x (emission x a)
emission-keeps a b x s side = by (says_hello a) a.present.lane.owes refl
  where
    by : (p q : Bool) → says_hello a ≡ p
        → IsEmitted a b x (if p then Some (hello_of x a, record a { owes_hello = false }) else if q then Some (ack_emission x a) else option_map (frame_emission x a) (due_frame x a))
    by true q e = (same-lane a b a.present.lane.owes (rest_of (record a { owes_hello = false })) s s.out.returned, (refl, omega arith))
    by false true e = ack-emitted a b x s side (knows-one a e)
    by false false e = due-emitted a b x s side (knows-one a e) (due a.present.lane.sender) refl
