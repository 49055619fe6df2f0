-- One event, and events in order.
use Rattle.std.specs.Prelude.{ℕ, ◌+◌, ◌<◌, List, [], ◌∷◌, ◌++◌, take, drop, nat_eq, nat_lt, slice_get}
use Rattle.std.specs.Prelude.{if◌then◌else◌, Option, Some, None}
use Rattle.gm_defs.specs.Body.{piece}
use Rattle.gm_defs.specs.Fragment.{piece_count}
use Rattle.gm_defs.specs.Connection.{unacknowledged, is_spent}
use Rattle.gm_defs.specs.Token.{PortEvent, Sent as SentEvent, Received as ReceivedEvent}
use Rattle.gm_defs.specs.Port.{is_bad_size, sent_with, provided_with, next_event, polled}
use Rattle.world_defs.specs.Lane.{with_message, lane_expired}
use Rattle.world_defs.specs.Client.{client_bytes, empty_buffer}
use Rattle.duo_defs.specs.declared.packet.Packet.{Packet}
use Rattle.duo_defs.specs.declared.packet.Packet.TheVariants.{Hello, Data}
use Rattle.duo_defs.specs.declared.event.DuoEvent.{DuoEvent}
use Rattle.duo_defs.specs.declared.event.DuoEvent.TheVariants.{Send, Provide, Emit, Deliver, Expire, Poll, Restart}
use Rattle.duo_defs.specs.declared.effect.DuoEffect.{DuoEffect}
use Rattle.duo_defs.specs.declared.effect.DuoEffect.TheVariants.{Token, Refused, Idle, Expired, Nothing, Sent, Unsure}
use Rattle.duo_defs.specs.declared.effect.DuoEffect.TheVariants.{Received, Restarted}
use Rattle.duo_defs.specs.declared.effect.DuoCause.TheVariants.{NoToken, TooLong, Spent, BadSize}
use Rattle.duo_defs.specs.Duo.{Returned, EndState, DuoState, plain_message, end_at, other, with_end, with_lane}
use Rattle.duo_defs.specs.Duo.{beginning, periods}
use Rattle.duo_defs.specs.Emitting.{emit}
use Rattle.duo_defs.specs.Hearing.{heard_hello, heard_data}

-- the greatest incarnation
abbrev pub last_incarnation : ℕ
last_incarnation = 4294967295

-- a message is accepted with the token that the client held longest
abbrev pub accepted : EndState → ℕ → List ℕ → List ℕ → EndState
accepted e t ts bytes = record (with_lane e
    (with_message e.present.lane (plain_message bytes) (record { port = 0; token = t }))) {
      port = sent_with e.port t bytes;
      client = record e.client { sends = ts };
    }

-- the client sends: refused where it holds no token, then for the length, then where the numbers are used up
abbrev pub sending : EndState → ℕ → ℕ → List ℕ → DuoEffect × EndState
sending e len seed [] = (Refused NoToken, e)
sending e len seed (t ∷ ts) =
    if nat_lt piece len then (Refused TooLong, e)
    else if is_spent e.present.lane.sender (piece_count len) then (Refused Spent, e)
    else (Token t, accepted e t ts (client_bytes len seed))

-- a buffer is provided with the token that the client held longest
abbrev pub with_buffer : EndState → ℕ → List ℕ → ℕ → EndState
with_buffer e t ts size = record e {
  port = provided_with e.port
      (record { token = t; size = size; prio = 0; filling = None; buffer = empty_buffer size });
  client = record e.client { recvs = ts };
}

-- the client provides: refused where it holds no token, then for the size
abbrev pub providing : EndState → ℕ → List ℕ → DuoEffect × EndState
providing e size [] = (Refused NoToken, e)
providing e size (t ∷ ts) = if is_bad_size size 0 then (Refused BadSize, e) else (Token t, with_buffer e t ts size)

-- the timer of an end runs out, where something is unacknowledged
abbrev pub expiring : EndState → DuoEffect × EndState
expiring e =
    if nat_eq (unacknowledged e.present.lane.sender) 0 then (Idle, e)
    else (Expired, with_lane e (lane_expired e.present.lane))

-- what a client is told of a send that came back
abbrev pub told : ℕ → Option Returned → DuoEffect
told t None = Sent t
told t (Some r) = if r.unsure then Unsure t else Sent t

-- the client takes an event, and its token
abbrev pub polling : EndState → Option PortEvent → DuoEffect × EndState
polling e None = (Nothing, e)
polling e (Some (SentEvent t b)) = (
  told t (slice_get e.returned 0),
  record e {
    returned = drop 1 e.returned;
    port = polled e.port;
    client = record e.client { sends = e.client.sends ++ t ∷ [] };
  },
)
polling e (Some (ReceivedEvent t b from sport prio len)) = (
  Received t (take len b),
  record e { port = polled e.port; client = record e.client { recvs = e.client.recvs ++ t ∷ [] } },
)

-- an end restarts with its client, unless its incarnation is the last
abbrev pub restarting : EndState → DuoEffect × EndState
restarting e =
    if nat_eq e.present.inc last_incarnation then (Refused Spent, e)
    else (Restarted (e.present.inc + 1), beginning (e.present.inc + 1) (periods e))

-- an event at an end leaves the other and the medium
abbrev pub at_end : DuoState → ℕ → DuoEffect × EndState → DuoEffect × DuoState
at_end d x o = (o.0, with_end d x o.1)

-- a packet reaches the other end, if there is one of that place
abbrev pub arrive : DuoState → Option Packet → DuoEffect × DuoState
arrive d None = (Idle, d)
arrive d (Some (Hello src inc knows)) = at_end d (other src) (heard_hello inc knows (end_at d (other src)))
arrive d (Some (Data src src_inc dst_inc body)) =
    at_end d (other src) (heard_data src_inc dst_inc body (end_at d (other src)))

-- One event: what it did, and the ends and the medium after it.
abbrev pub step : DuoState → DuoEvent → DuoEffect × DuoState
step d (Send x len seed) = at_end d x (sending (end_at d x) len seed (end_at d x).client.sends)
step d (Provide x size) = at_end d x (providing (end_at d x) size (end_at d x).client.recvs)
step d (Emit x) = emit d x
step d (Deliver k) = arrive d (slice_get d.medium k)
step d (Expire x) = at_end d x (expiring (end_at d x))
step d (Poll x) = at_end d x (polling (end_at d x) (next_event (end_at d x).port))
step d (Restart x) = at_end d x (restarting (end_at d x))

-- the ends of events are 0 and 1
abbrev pub IsFair : DuoEvent → Type 0
IsFair (Send x len seed) = x < 2
IsFair (Provide x size) = x < 2
IsFair (Emit x) = x < 2
IsFair (Deliver k) = Unit {0}
IsFair (Expire x) = x < 2
IsFair (Poll x) = x < 2
IsFair (Restart x) = x < 2

-- Events happen in order.
abbrev pub after_all : DuoState → List DuoEvent → DuoState
after_all d [] = d
after_all d (e ∷ es) = after_all (step d e).1 es
