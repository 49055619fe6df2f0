-- What ties the sends of an end to its port's queue and events, after every event.
use Rattle.std.proofs.Common.{◌≡◌, ◌≢◌, ◌<◌, ◌+◌, ◌-◌, ℕ, suc, Bool, true, false, ◌&&◌, nat_eq, nat_lt, List, [], ◌∷◌, ◌++◌, length, take, drop, find, Option, Some, None, option_map, Result, Ok, Err, refl, sym, ap, ◌∙◌, subst, arith, if◌then◌else◌}
use Rattle.std.specs.Prelude.{slice_get}
use Rattle.std.specs.List.{AllByRecursion}
use Rattle.std.proofs.lemmas.Bool.Decides.{nat_tests}
use Rattle.std.proofs.lemmas.List.{append-nil, map-append, take-append-drop, length-append}
use Rattle.net_defs.specs.Network.{Apart}
use Rattle.net_defs.proofs.Distinct.{apart-push}
use Rattle.gm_defs.specs.declared.frame.FrameHead.{FrameHead}
use Rattle.gm_defs.specs.declared.frame.GmBody.{GmBody}
use Rattle.gm_defs.specs.declared.frame.GmBody.TheVariants.{Frame, Ack as Acknowledges}
use Rattle.gm_defs.specs.declared.frame.Malformed.{Malformed}
use Rattle.gm_defs.specs.declared.token.Took.{Took}
use Rattle.gm_defs.specs.declared.token.Took.TheVariants.{NotNext as TookNotNext, NoToken as TookNoToken, Part as TookPart, Whole}
use Rattle.gm_defs.specs.Body.{piece, is_last, decode, part_in}
use Rattle.gm_defs.specs.Connection.{took, is_spent, unacknowledged}
use Rattle.gm_defs.specs.Token.{PortState, PortEvent, Sent as SentEvent, Received as ReceivedEvent, can_take, sent_tokens}
use Rattle.gm_defs.specs.Port.{is_bad_size, sent_with, filled, delivered}
use Rattle.gm_defs.proofs.Choices.{both}
use Rattle.gm_defs.proofs.Takers.{Delivery, delivery}
use Rattle.duo_defs.specs.declared.packet.Packet.{Packet}
use Rattle.duo_defs.specs.declared.effect.DuoEffect.{DuoEffect}
use Rattle.duo_defs.specs.declared.effect.DuoEffect.TheVariants.{Token, Refused, Idle, Expired, Restarted, Stale, Hello as HeardHello}
use Rattle.duo_defs.specs.declared.effect.DuoCause.TheVariants.{TooLong, Spent, BadSize}
use Rattle.gm_defs.specs.declared.message.Message.{Message}
use Rattle.gm_defs.specs.Fragment.{piece_count}
use Rattle.world_defs.specs.Lane.{LaneState, Ticket, finished_by, lane_expired, lane_sent_one, lane_answered, lane_after}
use Rattle.world_defs.specs.Hearing.{message_of as message_heard}
use Rattle.world_defs.specs.Client.{client_bytes}
use Rattle.world_defs.specs.Sound.{HasOwners}
use Rattle.duo_defs.specs.Duo.{plain_message, Period, EndState, with_lane, beginning, periods, sent_in}
use Rattle.duo_defs.specs.Emitting.{says_hello, hello_of, ack_emission, frame_emission, due_frame, emission}
use Rattle.duo_defs.specs.Hearing.{first_pending, finished_all, introduced, renewed, answering, heard_hello, heard_frame, heard_ack, heard_body, heard_data}
use Rattle.duo_defs.specs.Step.{last_incarnation, accepted, sending, with_buffer, providing, expiring, polling, restarting}
use Rattle.duo_laws.proofs.Told.{IsTold, AreTold}
use Rattle.duo_laws.proofs.Lists.{get-append}
use Rattle.duo_laws.proofs.Periods.{Grow, grow-present, at-present}
use Rattle.duo_laws.proofs.Ends.{IsLane}
use Rattle.duo_laws.proofs.Queues.{tokens_of, find-new, find-other, none-found, IsQueued, AreQueued, waiting_tokens, told-received, Longer, told-later, came-back}

-- What ties the sends of an end to its port: each that waits stands in the queue, none twice, and the events report
-- those that came back.
pub record IsTied (e : EndState) : Type 0 where
  pub waits : AreQueued e.port e.present.lane.sent (first_pending e.present.lane) e.present.lane.pending
  pub apart : Apart (waiting_tokens e.present.lane.pending)
  pub told : AreTold (λ j. sent_in e e.present.inc j) e.returned e.port.events

longer : (ps qs : List Period) (a e : EndState) (inc : ℕ) → Grow (periods a) (periods e) → Longer (λ j. sent_in a inc j) (λ j. sent_in e inc j)
longer ps qs a e inc g = record { more = λ j h. (g.each inc j h).sent_more; both = λ j h. (g.each inc j h).sent }

-- an end without a send
pub tied-none : (inc : ℕ) (past : List Period) → IsTied (beginning inc past)
tied-none inc past = record { waits = tt; apart = tt; told = refl }

-- ---- the client's calls

get-last : {X : Type 0} (xs : List X) (x : X) → slice_get (xs ++ x ∷ []) (length xs) ≡ Some x
get-last [] x = refl
get-last (y ∷ xs) x = get-last xs x

front-of : (P : ℕ → Type 0) (xs ys : List ℕ) → AllByRecursion P (xs ++ ys) → AllByRecursion P xs
front-of P [] ys all = tt
front-of P (x ∷ xs) ys all = (all.0, front-of P xs ys all.1)

back-of : (P : ℕ → Type 0) (xs ys : List ℕ) → AllByRecursion P (xs ++ ys) → AllByRecursion P ys
back-of P [] ys all = all
back-of P (x ∷ xs) ys all = back-of P xs ys all.1

-- the sends that wait, with one more behind them in the queue
still-queued : (p : PortState) (sent : List Message) (t : ℕ) (m : List ℕ) (place : ℕ) (ws : List Ticket) → AllByRecursion (λ y. t ≢ y) (tokens_of p.queue) → AreQueued p sent place ws
    → AreQueued (sent_with p t m) (sent ++ plain_message m ∷ []) place ws
still-queued p sent t m place [] new all = tt
still-queued p sent t m place (w ∷ ws) new all =
    let k = all.0 in
    let other : t ≢ w.token = none-found t w.token p.queue (record { token = w.token; buffer = k.message }) new k.queued in (
      record {
        message = k.message;
        there = get-append sent (plain_message m ∷ []) place (plain_message k.message) k.there;
        queued = find-other (record { token = t; buffer = m }) p.queue w.token other ∙ k.queued;
      },
      still-queued p sent t m (suc place) ws new all.1,
    )

others-queued : (p : PortState) (sent : List Message) (t place : ℕ) (ws : List Ticket) → AllByRecursion (λ y. t ≢ y) (tokens_of p.queue) → AreQueued p sent place ws
    → AllByRecursion (λ y. t ≢ y) (waiting_tokens ws)
others-queued p sent t place [] new all = tt
others-queued p sent t place (w ∷ ws) new all =
    (none-found t w.token p.queue (record { token = w.token; buffer = all.0.message }) new all.0.queued, others-queued p sent t (suc place) ws new all.1)

-- one more waits behind the others
queued-push : (p : PortState) (sent : List Message) (place : ℕ) (ws : List Ticket) (w : Ticket) → AreQueued p sent place ws → IsQueued p sent (place + length ws) w → AreQueued p sent place (ws ++ w ∷ [])
queued-push p sent place [] w all k = let none : place + 0 ≡ place = omega arith in (subst (λ n. IsQueued p sent n w) none k, tt)
queued-push p sent place (v ∷ ws) w all k =
    let on : place + length (v ∷ ws) ≡ suc place + length ws = omega arith in
    (all.0, queued-push p sent (suc place) ws w all.1 (subst (λ n. IsQueued p sent n w) on k))

accepted-tied : (a : EndState) (t : ℕ) (ts : List ℕ) (m : List ℕ) → a.client.sends ≡ t ∷ ts → HasOwners a.port a.client → IsLane a.present.lane → Grow (periods a) (periods (accepted a t ts m)) → IsTied a → IsTied (accepted a t ts m)
accepted-tied a t ts m e owners is grow k =
    let l : LaneState = a.present.lane in
    let queue : List ℕ = tokens_of a.port.queue in
    let others : List ℕ = sent_tokens a.port.events in
    let once : Apart (t ∷ (ts ++ (queue ++ others))) = subst (λ l. Apart (l ++ (queue ++ others))) e owners.sends.once in
    let new : AllByRecursion (λ y. t ≢ y) queue = front-of (λ y. t ≢ y) queue others (back-of (λ y. t ≢ y) ts (queue ++ others) once.0) in
    let w : Ticket = record { port = 0; token = t } in
    let sent : List Message = l.sent ++ plain_message m ∷ [] in
    let at : length l.sent ≡ first_pending l + length l.pending = let x = is.counted in let y = is.waiting in omega (arith, x, y) in
    let newest : IsQueued (sent_with a.port t m) sent (length l.sent) w = record {
      message = m;
      there = get-last l.sent (plain_message m);
      queued = find-new (record { token = t; buffer = m }) a.port.queue new;
    } in
    let names : waiting_tokens (l.pending ++ w ∷ []) ≡ waiting_tokens l.pending ++ t ∷ [] = map-append (λ (v : Ticket). v.token) l.pending (w ∷ []) in
    let all : AreQueued (sent_with a.port t m) sent (first_pending l) (l.pending ++ w ∷ []) =
    queued-push (sent_with a.port t m) sent (first_pending l) l.pending w (still-queued a.port l.sent t m (first_pending l) l.pending new k.waits) (subst (λ n. IsQueued (sent_with a.port t m) sent n w) at newest) in
    let long : length sent ≡ length l.sent + 1 = length-append l.sent (plain_message m ∷ []) in
    let wide : length (l.pending ++ w ∷ []) ≡ length l.pending + 1 = length-append l.pending (w ∷ []) in
    let first : first_pending l ≡ length sent - length (l.pending ++ w ∷ []) = omega (arith, long, wide) in
    record {
      waits = subst (λ n. AreQueued (sent_with a.port t m) sent n (l.pending ++ w ∷ [])) first all;
      apart = subst Apart (sym names) (apart-push (waiting_tokens l.pending) t k.apart (others-queued a.port l.sent t (first_pending l) l.pending new k.waits));
      told = told-later (λ j. sent_in a a.present.inc j) (λ j. sent_in (accepted a t ts m) a.present.inc j) a.returned a.port.events (longer [] [] a (accepted a t ts m) a.present.inc grow) k.told;
    }

abbrev TiedAfter : DuoEffect × EndState → Type 0
TiedAfter o = IsTied o.1

abbrev GrownAfter : EndState → DuoEffect × EndState → Type 0
GrownAfter a o = Grow (periods a) (periods o.1)

pub sending-tied : (a : EndState) (len seed : ℕ) (ts : List ℕ) → a.client.sends ≡ ts → HasOwners a.port a.client → IsLane a.present.lane → GrownAfter a (sending a len seed ts) → IsTied a → TiedAfter (sending a len seed ts)
sending-tied a len seed [] e owners is g k = k
sending-tied a len seed (t ∷ ts) e owners is g k = by (nat_lt piece len) (is_spent a.present.lane.sender (piece_count len)) g
  where
    by : (p q : Bool) → GrownAfter a (if p then (Refused TooLong, a) else if q then (Refused Spent, a) else (Token t, accepted a t ts (client_bytes len seed)))
        → TiedAfter (if p then (Refused TooLong, a) else if q then (Refused Spent, a) else (Token t, accepted a t ts (client_bytes len seed)))
    by true q g = k
    by false true g = k
    by false false g = accepted-tied a t ts (client_bytes len seed) e owners is g k

-- a port with the same queue
requeue : (p q : PortState) (sent : List Message) → q.queue ≡ p.queue → (place : ℕ) (ws : List Ticket) → AreQueued p sent place ws → AreQueued q sent place ws
requeue p q sent e place [] all = tt
requeue p q sent e place (w ∷ ws) all =
    let k = all.0 in
    (record { message = k.message; there = k.there; queued = ap (λ l. find (λ s. nat_eq s.token w.token) l) e ∙ k.queued }, requeue p q sent e (suc place) ws all.1)

pub providing-tied : (a : EndState) (size : ℕ) (ts : List ℕ) → IsTied a → TiedAfter (providing a size ts)
providing-tied a size [] k = k
providing-tied a size (t ∷ ts) k = by (is_bad_size size 0)
  where
    by : (p : Bool) → TiedAfter (if p then (Refused BadSize, a) else (Token t, with_buffer a t ts size))
    by true = k
    by false = record { waits = requeue a.port (with_buffer a t ts size).port a.present.lane.sent refl (first_pending a.present.lane) a.present.lane.pending k.waits; apart = k.apart; told = k.told }

pub polling-tied : (a : EndState) (es : List PortEvent) → a.port.events ≡ es → IsTied a → TiedAfter (polling a (slice_get es 0))
polling-tied a [] e k = k
polling-tied a (SentEvent t b ∷ es) e k =
    let told : IsTold (λ j. sent_in a a.present.inc j) t b (λ l. AreTold (λ j. sent_in a a.present.inc j) l es) a.returned =
    subst (λ l. AreTold (λ j. sent_in a a.present.inc j) a.returned l) e k.told in
    let left : AreTold (λ j. sent_in a a.present.inc j) (drop 1 a.returned) es =
    subst (λ l. AreTold (λ j. sent_in a a.present.inc j) (drop 1 l) es) (sym told.first) told.others in
    record {
      waits = requeue a.port (polling a (Some (SentEvent t b))).1.port a.present.lane.sent refl (first_pending a.present.lane) a.present.lane.pending k.waits;
      apart = k.apart;
      told = subst (λ l. AreTold (λ j. sent_in a a.present.inc j) (drop 1 a.returned) (drop 1 l)) (sym e) left;
    }
polling-tied a (ReceivedEvent t b from sport prio len ∷ es) e k =
    let told : AreTold (λ j. sent_in a a.present.inc j) a.returned es = subst (λ l. AreTold (λ j. sent_in a a.present.inc j) a.returned l) e k.told in
    record {
      waits = requeue a.port (polling a (Some (ReceivedEvent t b from sport prio len))).1.port a.present.lane.sent refl (first_pending a.present.lane) a.present.lane.pending k.waits;
      apart = k.apart;
      told = subst (λ l. AreTold (λ j. sent_in a a.present.inc j) a.returned (drop 1 l)) (sym e) told;
    }

-- a lane with the same messages and sends
relaned : (a : EndState) (l : LaneState) (owes_hello : Bool) → l.sent ≡ a.present.lane.sent → l.pending ≡ a.present.lane.pending → l.got ≡ a.present.lane.got → IsTied a
    → IsTied (record (with_lane a l) { owes_hello = owes_hello })
relaned a l owes_hello kept still same k =
    let e : EndState = record (with_lane a l) { owes_hello = owes_hello } in
    let g : Grow (periods a) (periods e) = grow-present a.present a.past l [] [] (kept ∙ sym (append-nil a.present.lane.sent)) (same ∙ sym (append-nil a.present.lane.got)) in
    record {
      waits = subst (λ ms. AreQueued a.port ms (length ms - length l.pending) l.pending) (sym kept)
          (subst (λ ts. AreQueued a.port a.present.lane.sent (length a.present.lane.sent - length ts) ts) (sym still) k.waits);
      apart = subst (λ ts. Apart (waiting_tokens ts)) (sym still) k.apart;
      told = told-later (λ j. sent_in a a.present.inc j) (λ j. sent_in e a.present.inc j) a.returned a.port.events (longer [] [] a e a.present.inc g) k.told;
    }

-- ---- the timer, and a restart

pub expiring-tied : (a : EndState) → IsTied a → TiedAfter (expiring a)
expiring-tied a k = by (nat_eq (unacknowledged a.present.lane.sender) 0)
  where
    by : (p : Bool) → TiedAfter (if p then (Idle, a) else (Expired, with_lane a (lane_expired a.present.lane)))
    by true = k
    by false = relaned a (lane_expired a.present.lane) a.owes_hello refl refl refl k

pub restarting-tied : (a : EndState) → IsTied a → TiedAfter (restarting a)
restarting-tied a k = by (nat_eq a.present.inc last_incarnation)
  where
    by : (p : Bool) → TiedAfter (if p then (Refused Spent, a) else (Restarted (a.present.inc + 1), beginning (a.present.inc + 1) (periods a)))
    by true = k
    by false = tied-none (a.present.inc + 1) (periods a)

-- ---- a hello

-- a message of the present period stands among those of its incarnations, also in an end that has grown
in-present : (a e : EndState) → 0 < a.present.known → Grow (periods a) (periods e) → (n : ℕ) (m : Message) → slice_get a.present.lane.sent n ≡ Some m → slice_get (sent_in e a.present.inc a.present.known) n ≡ Some m
in-present a e knows g n m there =
    let k = g.each a.present.inc a.present.known knows in
    let now : slice_get (sent_in a a.present.inc a.present.known) n ≡ Some m = ap (λ p. slice_get p.lane.sent n) (at-present a.present a.past) ∙ there in
    ap (λ l. slice_get l n) k.sent ∙ get-append (sent_in a a.present.inc a.present.known) k.sent_more n m now

renewed-tied : (a : EndState) (inc knows : ℕ) → 0 < a.present.known → Grow (periods a) (periods (renewed inc a)) → IsTied a → IsTied (answering knows (renewed inc a))
renewed-tied a inc knows positive g k =
    let e : EndState = answering knows (renewed inc a) in
    let now : AreTold (λ j. sent_in e a.present.inc j) a.returned a.port.events =
    told-later (λ j. sent_in a a.present.inc j) (λ j. sent_in e a.present.inc j) a.returned a.port.events (longer [] [] a e a.present.inc g) k.told in
    let l : LaneState = a.present.lane in
    let back = came-back a.port l.sent (λ j. sent_in e a.present.inc j) a.present.known true (first_pending l) l.pending [] a.returned positive (in-present a e positive g)
    (subst (λ ts. AreQueued a.port l.sent (first_pending l) ts) (sym (append-nil l.pending)) k.waits) (subst (λ ts. Apart (waiting_tokens ts)) (sym (append-nil l.pending)) k.apart) now in
    record { waits = tt; apart = tt; told = back.told }

introduced-tied : (a : EndState) (inc knows : ℕ) → Grow (periods a) (periods (introduced inc a)) → IsTied a → IsTied (answering knows (introduced inc a))
introduced-tied a inc knows g k =
    let e : EndState = answering knows (introduced inc a) in
    record {
      waits = k.waits;
      apart = k.apart;
      told = told-later (λ j. sent_in a a.present.inc j) (λ j. sent_in e a.present.inc j) a.returned a.port.events (longer [] [] a e a.present.inc g) k.told;
    }

pub heard_hello-tied : (a : EndState) (inc knows : ℕ) → GrownAfter a (heard_hello inc knows a) → IsTied a → TiedAfter (heard_hello inc knows a)
heard_hello-tied a inc knows g k = by (nat_lt inc a.present.known) (nat_lt a.present.known inc) (nat_eq a.present.known 0) refl g
  where
    by : (p q r : Bool) → nat_eq a.present.known 0 ≡ r
        → GrownAfter a (if p then (Stale, a) else (HeardHello, answering knows (if q then if r then introduced inc a else renewed inc a else a)))
        → TiedAfter (if p then (Stale, a) else (HeardHello, answering knows (if q then if r then introduced inc a else renewed inc a else a)))
    by true q r e g = k
    by false true true e g = introduced-tied a inc knows g k
    by false true false e g = renewed-tied a inc knows (grind (arith, nat_tests)) g k
    by false false r e g = record { waits = k.waits; apart = k.apart; told = k.told }

-- ---- an acknowledgement

pub heard_ack-tied : (a : EndState) (n : ℕ) → 0 < a.present.known → IsLane a.present.lane → Grow (periods a) (periods (heard_ack n a)) → IsTied a → IsTied (heard_ack n a)
heard_ack-tied a n positive is g k =
    let l : LaneState = a.present.lane in
    let e : EndState = heard_ack n a in
    let c : ℕ = finished_by l n in
    let front : List Ticket = take c l.pending in
    let rest : List Ticket = drop c l.pending in
    let both : front ++ rest ≡ l.pending = take-append-drop c l.pending in
    let now : AreTold (λ j. sent_in e a.present.inc j) a.returned a.port.events =
    told-later (λ j. sent_in a a.present.inc j) (λ j. sent_in e a.present.inc j) a.returned a.port.events (longer [] [] a e a.present.inc g) k.told in
    let back = came-back a.port l.sent (λ j. sent_in e a.present.inc j) a.present.known false (first_pending l) front rest a.returned positive (in-present a e positive g)
    (subst (λ ts. AreQueued a.port l.sent (first_pending l) ts) (sym both) k.waits) (subst (λ ts. Apart (waiting_tokens ts)) (sym both) k.apart) now in
    let long : length l.pending ≡ length front + length rest = ap length (sym both) ∙ length-append front rest in
    let at : first_pending l + length front ≡ length l.sent - length rest = let x = is.counted in let y = is.waiting in omega (arith, x, y, long) in
    record {
      waits = subst (λ n. AreQueued (finished_all a.port front) l.sent n rest) at back.wait;
      apart = back-apart front rest (subst (λ ts. Apart (waiting_tokens ts)) (sym both) k.apart);
      told = back.told;
    }
  where
    back-apart : (ws vs : List Ticket) → Apart (waiting_tokens (ws ++ vs)) → Apart (waiting_tokens vs)
    back-apart [] vs apart = apart
    back-apart (w ∷ ws) vs apart = back-apart ws vs apart.1

-- ---- a frame

message-tied : (a : EndState) (h : FrameHead) (part : List ℕ) (l : LaneState) → l.sent ≡ a.present.lane.sent → l.pending ≡ a.present.lane.pending → Grow (periods a) (periods (with_lane a l)) → IsTied a
    → IsTied (record (with_lane a l) { port = delivered a.port h part })
message-tied a h part l kept still g k =
    let e : EndState = record (with_lane a l) { port = delivered a.port h part } in
    let now : AreTold (λ j. sent_in e a.present.inc j) a.returned a.port.events =
    told-later (λ j. sent_in a a.present.inc j) (λ j. sent_in e a.present.inc j) a.returned a.port.events (longer [] [] a e a.present.inc g) k.told in
    let waits : AreQueued (delivered a.port h part) a.present.lane.sent (first_pending a.present.lane) a.present.lane.pending =
    requeue a.port (delivered a.port h part) a.present.lane.sent (queue (delivery a.port h part)) (first_pending a.present.lane) a.present.lane.pending k.waits in
    record {
      waits = subst (λ ms. AreQueued (delivered a.port h part) ms (length ms - length l.pending) l.pending) (sym kept)
          (subst (λ ts. AreQueued (delivered a.port h part) a.present.lane.sent (length a.present.lane.sent - length ts) ts) (sym still) waits);
      apart = subst (λ ts. Apart (waiting_tokens ts)) (sym still) k.apart;
      told = told (λ j. sent_in e a.present.inc j) (delivery a.port h part) now;
    }
  where
    queue : {q : PortState} → Delivery a.port h part q → q.queue ≡ a.port.queue
    queue (Delivery.missed x) = refl
    queue (Delivery.ends r x y) = refl
    queue (Delivery.goes_on r x y) = refl

    told : (f : ℕ → List Message) {q : PortState} → Delivery a.port h part q → AreTold f a.returned a.port.events → AreTold f a.returned q.events
    told f (Delivery.missed x) t = t
    told f (Delivery.ends r x y) t = told-received f a.returned a.port.events r.token (filled r.buffer h.offset part) h.src h.sport h.prio h.total t
    told f (Delivery.goes_on r x y) t = t

heard_frame-tied : (a : EndState) (h : FrameHead) (part : List ℕ) (t : Took) → GrownAfter a (heard_frame h part a t) → IsTied a → TiedAfter (heard_frame h part a t)
heard_frame-tied a h part Whole g k = message-tied a h part (lane_after a.present.lane Whole (message_heard h part)) refl refl g k
heard_frame-tied a h part TookPart g k = message-tied a h part (lane_after a.present.lane TookPart (message_heard h part)) refl refl g k
heard_frame-tied a h part TookNoToken g k = record { waits = k.waits; apart = k.apart; told = told-later (λ j. sent_in a a.present.inc j) (λ j. sent_in (heard_frame h part a TookNoToken).1 a.present.inc j) a.returned a.port.events (longer [] [] a (heard_frame h part a TookNoToken).1 a.present.inc g) k.told }
heard_frame-tied a h part TookNotNext g k = record { waits = k.waits; apart = k.apart; told = told-later (λ j. sent_in a a.present.inc j) (λ j. sent_in (heard_frame h part a TookNotNext).1 a.present.inc j) a.returned a.port.events (longer [] [] a (heard_frame h part a TookNotNext).1 a.present.inc g) k.told }

heard_body-tied : (a : EndState) (body : List ℕ) (o : Result GmBody Malformed) → 0 < a.present.known → IsLane a.present.lane → GrownAfter a (heard_body body a o) → IsTied a → TiedAfter (heard_body body a o)
heard_body-tied a body (Err m) positive is g k = k
heard_body-tied a body (Ok (Frame h)) positive is g k = heard_frame-tied a h (part_in body) (took a.present.lane.taken h.seq (can_take a.port h) (is_last h.total h.offset)) g k
heard_body-tied a body (Ok (Acknowledges n)) positive is g k = heard_ack-tied a n.next positive is g k

pub heard_data-tied : (a : EndState) (i j : ℕ) (body : List ℕ) → 0 < i → IsLane a.present.lane → GrownAfter a (heard_data i j body a) → IsTied a → TiedAfter (heard_data i j body a)
heard_data-tied a i j body positive is g k = by (nat_eq i a.present.known && nat_eq j a.present.inc) refl g
  where
    by : (t : Bool) → (nat_eq i a.present.known && nat_eq j a.present.inc) ≡ t → GrownAfter a (if t then heard_body body a (decode body) else (Stale, a))
        → TiedAfter (if t then heard_body body a (decode body) else (Stale, a))
    by true e g =
        let p = (both (nat_eq i a.present.known) (nat_eq j a.present.inc) e).0 in
        heard_body-tied a body (decode body) (grind (arith, nat_tests)) is g k
    by false e g = k

-- ---- what is emitted

abbrev pub TiedEmission : Option (Packet × EndState) → Type 0
TiedEmission None = Unit {0}
TiedEmission (Some o) = IsTied o.1

frames-tied : (a : EndState) (x : ℕ) (o : Option (FrameHead × List ℕ)) → IsTied a → TiedEmission (option_map (frame_emission x a) o)
frames-tied a x None k = tt
frames-tied a x (Some f) k = relaned a (lane_sent_one a.present.lane) a.owes_hello refl refl refl k

pub emission-tied : (a : EndState) (x : ℕ) → IsTied a → TiedEmission (emission x a)
emission-tied a x k = by (says_hello a) a.present.lane.owes
  where
    by : (p q : Bool) → TiedEmission (if p then Some (hello_of x a, record a { owes_hello = false }) else if q then Some (ack_emission x a) else option_map (frame_emission x a) (due_frame x a))
    by true q = record { waits = k.waits; apart = k.apart; told = k.told }
    by false true = relaned a (lane_answered a.present.lane) a.owes_hello refl refl refl k
    by false false = frames-tied a x (due_frame x a) k
