-- Each token of an end has one owner after every event.
use Rattle.std.proofs.Common.{◌≡◌, ◌+◌, ℕ, zero, suc, Bool, true, false, ◌&&◌, nat_eq, nat_lt, List, [], ◌∷◌, Option, Some, None, option_map, Result, Ok, Err, refl, sym, ap, ◌∙◌, subst, if◌then◌else◌}
use Rattle.std.specs.Prelude.{slice_get}
use Rattle.gm_defs.specs.declared.frame.FrameHead.{FrameHead}
use Rattle.gm_defs.specs.declared.frame.GmBody.{GmBody}
use Rattle.gm_defs.specs.declared.frame.GmBody.TheVariants.{Frame, Ack as Acknowledges}
use Rattle.gm_defs.specs.declared.frame.Malformed.{Malformed}
use Rattle.gm_defs.specs.declared.token.Took.{Took}
use Rattle.gm_defs.specs.declared.token.Took.TheVariants.{NotNext as TookNotNext, NoToken as TookNoToken, Part as TookPart, Whole}
use Rattle.gm_defs.specs.Body.{piece, is_last, decode, part_in}
use Rattle.gm_defs.specs.Fragment.{piece_count}
use Rattle.gm_defs.specs.Connection.{took, is_spent, unacknowledged}
use Rattle.gm_defs.specs.Token.{Sending, PortState, PortEvent, Sent as SentEvent, Received as ReceivedEvent, can_take}
use Rattle.gm_defs.specs.Port.{is_bad_size, send_of, ended_by, finished, delivered, next_event}
use Rattle.gm_defs.proofs.Takers.{Delivery, delivery}
use Rattle.duo_defs.specs.declared.packet.Packet.{Packet}
use Rattle.duo_defs.specs.declared.packet.Packet.TheVariants.{Hello, Data}
use Rattle.duo_defs.specs.declared.event.DuoEvent.{DuoEvent}
use Rattle.duo_defs.specs.declared.event.DuoEvent.TheVariants.{Send, Provide, Emit, Deliver, Expire, Poll, Restart}
use Rattle.duo_defs.specs.declared.effect.DuoEffect.{DuoEffect}
use Rattle.duo_defs.specs.declared.effect.DuoEffect.TheVariants.{Token, Refused, Idle, Expired, Restarted, Stale, Hello as HeardHello}
use Rattle.duo_defs.specs.declared.effect.DuoCause.TheVariants.{TooLong, Spent, BadSize}
use Rattle.world_defs.specs.Lane.{Ticket, tickets_finished, lane_expired}
use Rattle.world_defs.specs.Client.{ClientState, client_bytes, empty_buffer}
use Rattle.world_defs.specs.Sound.{HasOwners}
use Rattle.duo_defs.specs.Duo.{EndState, with_lane, DuoState, new_duo, beginning, periods, end_at, other, with_end, tokens_each}
use Rattle.duo_defs.specs.Emitting.{says_hello, hello_of, ack_emission, frame_emission, due_frame, emission, put}
use Rattle.duo_defs.specs.Hearing.{finished_all, introduced, renewed, answering, heard_hello, heard_frame, heard_body, heard_data}
use Rattle.duo_defs.specs.Step.{last_incarnation, accepted, sending, with_buffer, providing, expiring, polling, restarting, arrive, step, after_all}
use Rattle.duo_defs.specs.Theorem.{HasFour, IsReached, TokensHaveOneOwner}
use Rattle.token_moves.proofs.Moves.{owned-new, owned-provided, owned-sending, owned-finished, owned-delivered, owned-polled_sent, owned-polled_received}

-- ---- ports

finished-four : (p : PortState) (c : ClientState) (t : ℕ) → HasFour p c → HasFour (finished p t) c
finished-four p c t h = by (send_of p t) refl
  where
    by : (o : Option Sending) → send_of p t ≡ o → HasFour (finished p t) c
    by None e =
        let same : finished p t ≡ p = ap (ended_by p t) e in
        subst (λ q. HasFour q c) (sym same) h
    by (Some s) e =
        let same : finished p t ≡ ended_by p t (Some s) = ap (ended_by p t) e in
        let owners : HasOwners (ended_by p t (Some s)) c = subst (λ q. HasOwners q c) same (owned-finished p c t h.owners) in
        subst (λ q. HasFour q c) (sym same) (record { sends = h.sends; recvs = h.recvs; owners = owners })

all-finished-four : (p : PortState) (c : ClientState) (ws : List Ticket) → HasFour p c → HasFour (finished_all p ws) c
all-finished-four p c [] h = h
all-finished-four p c (w ∷ ws) h = all-finished-four (finished p w.token) c ws (finished-four p c w.token h)

delivered-four : (p : PortState) (c : ClientState) (h : FrameHead) (part : List ℕ) → HasFour p c → HasFour (delivered p h part) c
delivered-four p c h part k = record { sends = (counts (delivery p h part)).0 ∙ k.sends; recvs = (counts (delivery p h part)).1 ∙ k.recvs; owners = owned-delivered p c h part k.owners }
  where
    counts : {q : PortState} → Delivery p h part q → (q.sends ≡ p.sends) × (q.recvs ≡ p.recvs)
    counts (Delivery.missed e) = (refl, refl)
    counts (Delivery.ends r e t) = (refl, refl)
    counts (Delivery.goes_on r e t) = (refl, refl)

-- ---- ends

abbrev OwnedEnd : EndState → Type 0
OwnedEnd e = HasFour e.port e.client

abbrev OwnedAfter : DuoEffect × EndState → Type 0
OwnedAfter o = OwnedEnd o.1

sending-owned : (a : EndState) (len seed : ℕ) (ts : List ℕ) → a.client.sends ≡ ts → OwnedEnd a → OwnedAfter (sending a len seed ts)
sending-owned a len seed [] e h = h
sending-owned a len seed (t ∷ ts) e h = by (nat_lt piece len) (is_spent a.present.lane.sender (piece_count len))
  where
    by : (p q : Bool) → OwnedAfter (if p then (Refused TooLong, a) else if q then (Refused Spent, a) else (Token t, accepted a t ts (client_bytes len seed)))
    by true q = h
    by false true = h
    by false false = record { sends = h.sends; recvs = h.recvs; owners = owned-sending a.port a.client t (client_bytes len seed) ts e h.owners }

providing-owned : (a : EndState) (size : ℕ) (ts : List ℕ) → a.client.recvs ≡ ts → OwnedEnd a → OwnedAfter (providing a size ts)
providing-owned a size [] e h = h
providing-owned a size (t ∷ ts) e h = by (is_bad_size size 0)
  where
    by : (p : Bool) → OwnedAfter (if p then (Refused BadSize, a) else (Token t, with_buffer a t ts size))
    by true = h
    by false = record {
      sends = h.sends;
      recvs = h.recvs;
      owners = owned-provided a.port a.client (record { token = t; size = size; prio = 0; filling = None; buffer = empty_buffer size }) ts e h.owners;
    }

expiring-owned : (a : EndState) → OwnedEnd a → OwnedAfter (expiring a)
expiring-owned a h = by (nat_eq (unacknowledged a.present.lane.sender) 0)
  where
    by : (p : Bool) → OwnedAfter (if p then (Idle, a) else (Expired, with_lane a (lane_expired a.present.lane)))
    by true = h
    by false = h

restarting-owned : (a : EndState) → OwnedEnd a → OwnedAfter (restarting a)
restarting-owned a h = by (nat_eq a.present.inc last_incarnation)
  where
    by : (p : Bool) → OwnedAfter (if p then (Refused Spent, a) else (Restarted (a.present.inc + 1), beginning (a.present.inc + 1) (periods a)))
    by true = h
    by false = record { sends = refl; recvs = refl; owners = owned-new tokens_each tokens_each }

polling-owned : (a : EndState) (o : Option PortEvent) → next_event a.port ≡ o → OwnedEnd a → OwnedAfter (polling a o)
polling-owned a None e h = h
polling-owned a (Some (SentEvent t b)) e h = record { sends = h.sends; recvs = h.recvs; owners = owned-polled_sent a.port a.client t b e h.owners }
polling-owned a (Some (ReceivedEvent t b from sport prio len)) e h =
    record { sends = h.sends; recvs = h.recvs; owners = owned-polled_received a.port a.client t b from sport prio len e h.owners }

heard_hello-owned : (a : EndState) (inc knows : ℕ) → OwnedEnd a → OwnedAfter (heard_hello inc knows a)
heard_hello-owned a inc knows h = by (nat_lt inc a.present.known) (nat_lt a.present.known inc) (nat_eq a.present.known 0)
  where
    by : (p q r : Bool) → OwnedAfter (if p then (Stale, a) else (HeardHello, answering knows (if q then if r then introduced inc a else renewed inc a else a)))
    by true q r = h
    by false true true = h
    by false true false = all-finished-four a.port a.client a.present.lane.pending h
    by false false r = h

heard_frame-owned : (a : EndState) (h : FrameHead) (part : List ℕ) (t : Took) → OwnedEnd a → OwnedAfter (heard_frame h part a t)
heard_frame-owned a h part Whole k = delivered-four a.port a.client h part k
heard_frame-owned a h part TookPart k = delivered-four a.port a.client h part k
heard_frame-owned a h part TookNoToken k = k
heard_frame-owned a h part TookNotNext k = k

heard_body-owned : (a : EndState) (body : List ℕ) (o : Result GmBody Malformed) → OwnedEnd a → OwnedAfter (heard_body body a o)
heard_body-owned a body (Err m) k = k
heard_body-owned a body (Ok (Frame h)) k = heard_frame-owned a h (part_in body) (took a.present.lane.taken h.seq (can_take a.port h) (is_last h.total h.offset)) k
heard_body-owned a body (Ok (Acknowledges n)) k = all-finished-four a.port a.client (tickets_finished a.present.lane n.next) k

heard_data-owned : (a : EndState) (i j : ℕ) (body : List ℕ) → OwnedEnd a → OwnedAfter (heard_data i j body a)
heard_data-owned a i j body k = by (nat_eq i a.present.known && nat_eq j a.present.inc)
  where
    by : (t : Bool) → OwnedAfter (if t then heard_body body a (decode body) else (Stale, a))
    by true = heard_body-owned a body (decode body) k
    by false = k

-- ---- what is emitted

abbrev OwnedEmission : Option (Packet × EndState) → Type 0
OwnedEmission None = Unit {0}
OwnedEmission (Some o) = OwnedEnd o.1

frames-owned : (a : EndState) (x : ℕ) (o : Option (FrameHead × List ℕ)) → OwnedEnd a → OwnedEmission (option_map (frame_emission x a) o)
frames-owned a x None h = tt
frames-owned a x (Some f) h = h

emission-owned : (a : EndState) (x : ℕ) → OwnedEnd a → OwnedEmission (emission x a)
emission-owned a x h = by (says_hello a) a.present.lane.owes
  where
    by : (p q : Bool) → OwnedEmission (if p then Some (hello_of x a, record a { owes_hello = false }) else if q then Some (ack_emission x a) else option_map (frame_emission x a) (due_frame x a))
    by true q = h
    by false true = h
    by false false = frames-owned a x (due_frame x a) h

-- ---- both ends

pub record IsOwned (d : DuoState) : Type 0 where
  pub first : OwnedEnd d.first
  pub second : OwnedEnd d.second

pub owned-at : (d : DuoState) (x : ℕ) → IsOwned d → OwnedEnd (end_at d x)
owned-at d zero h = h.first
owned-at d (suc k) h = h.second

with : (d : DuoState) (x : ℕ) (e : EndState) → IsOwned d → OwnedEnd e → IsOwned (with_end d x e)
with d zero e h k = record { first = k; second = h.second }
with d (suc n) e h k = record { first = h.first; second = k }

put-owned : (d : DuoState) (x : ℕ) (o : Option (Packet × EndState)) → IsOwned d → OwnedEmission o → IsOwned (put d x o).1
put-owned d x None h k = h
put-owned d zero (Some o) h k = record { first = k; second = h.second }
put-owned d (suc n) (Some o) h k = record { first = h.first; second = k }

arrive-owned : (d : DuoState) (o : Option Packet) → IsOwned d → IsOwned (arrive d o).1
arrive-owned d None h = h
arrive-owned d (Some (Hello src inc knows)) h = with d (other src) (heard_hello inc knows (end_at d (other src))).1 h (heard_hello-owned (end_at d (other src)) inc knows (owned-at d (other src) h))
arrive-owned d (Some (Data src i j body)) h = with d (other src) (heard_data i j body (end_at d (other src))).1 h (heard_data-owned (end_at d (other src)) i j body (owned-at d (other src) h))

pub step-owned : (d : DuoState) (e : DuoEvent) → IsOwned d → IsOwned (step d e).1
step-owned d (Send x len seed) h = with d x (sending (end_at d x) len seed (end_at d x).client.sends).1 h (sending-owned (end_at d x) len seed (end_at d x).client.sends refl (owned-at d x h))
step-owned d (Provide x size) h = with d x (providing (end_at d x) size (end_at d x).client.recvs).1 h (providing-owned (end_at d x) size (end_at d x).client.recvs refl (owned-at d x h))
step-owned d (Emit x) h = put-owned d x (emission x (end_at d x)) h (emission-owned (end_at d x) x (owned-at d x h))
step-owned d (Deliver k) h = arrive-owned d (slice_get d.medium k) h
step-owned d (Expire x) h = with d x (expiring (end_at d x)).1 h (expiring-owned (end_at d x) (owned-at d x h))
step-owned d (Poll x) h = with d x (polling (end_at d x) (next_event (end_at d x).port)).1 h (polling-owned (end_at d x) (next_event (end_at d x).port) refl (owned-at d x h))
step-owned d (Restart x) h = with d x (restarting (end_at d x)).1 h (restarting-owned (end_at d x) (owned-at d x h))

all-owned : (d : DuoState) (events : List DuoEvent) → IsOwned d → IsOwned (after_all d events)
all-owned d [] h = h
all-owned d (e ∷ es) h = all-owned (step d e).1 es (step-owned d e h)

pub new-owned : (inc : ℕ) → IsOwned (new_duo inc)
new-owned inc = record { first = record { sends = refl; recvs = refl; owners = owned-new tokens_each tokens_each }; second = record { sends = refl; recvs = refl; owners = owned-new tokens_each tokens_each } }

pub reached-owned : (d : DuoState) → IsReached d → IsOwned d
reached-owned d r = subst IsOwned (sym r.leads) (all-owned (new_duo r.inc) r.events (new-owned r.inc))

pub one-owner : TokensHaveOneOwner
one-owner d r x = owned-at d x (reached-owned d r)
