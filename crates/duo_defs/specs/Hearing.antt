-- What an end makes of a packet that reaches it.
use Rattle.std.specs.Prelude.{ℕ, suc, ◌-◌, Bool, true, false, ◌&&◌, ◌||◌, not, List, [], ◌∷◌, ◌++◌, length}
use Rattle.std.specs.Prelude.{nat_eq, nat_lt, if◌then◌else◌, Result, Ok, Err}
use Rattle.gm_defs.specs.declared.frame.FrameHead.{FrameHead}
use Rattle.gm_defs.specs.declared.frame.GmBody.{GmBody}
use Rattle.gm_defs.specs.declared.frame.GmBody.TheVariants.{Frame, Ack as Acknowledges}
use Rattle.gm_defs.specs.declared.frame.Malformed.{Malformed}
use Rattle.gm_defs.specs.declared.token.Took.{Took}
use Rattle.gm_defs.specs.declared.token.Took.TheVariants.{Part as TookPart, Whole}
use Rattle.gm_defs.specs.declared.token.Took.TheVariants.{NotNext as TookNotNext, NoToken as TookNoToken}
use Rattle.gm_defs.specs.Body.{decode, part_in, is_last}
use Rattle.gm_defs.specs.Connection.{took}
use Rattle.gm_defs.specs.Token.{PortState, can_take}
use Rattle.gm_defs.specs.Port.{finished, delivered}
use Rattle.world_defs.specs.Lane.{LaneState, Ticket, lane_after, lane_acknowledged, tickets_finished}
use Rattle.world_defs.specs.Hearing.{message_of}
use Rattle.duo_defs.specs.declared.effect.DuoEffect.{DuoEffect}
use Rattle.duo_defs.specs.declared.effect.DuoEffect.TheVariants.{Hello, Stale, Message, NotNext, NoToken, Ack}
use Rattle.duo_defs.specs.Duo.{Returned, EndState, new_period, with_lane}

-- sends leave the port's queue for its events, one after another
abbrev pub finished_all : PortState → List Ticket → PortState
finished_all p [] = p
finished_all p (t ∷ ts) = finished_all (finished p t.token) ts

-- the place of the first message that isn't finished
abbrev pub first_pending : LaneState → ℕ
first_pending l = length l.sent - length l.pending

-- sends come back, acknowledged or not, whose messages stand one after the other from a place on
abbrev pub returned_from : ℕ → Bool → ℕ → List Ticket → List Returned
returned_from known unsure place [] = []
returned_from known unsure place (t ∷ ts) =
    record { token = t.token; known = known; place = place; unsure = unsure }
    ∷ returned_from known unsure (suc place) ts

-- the first of an end's sends come back
abbrev pub with_returned : EndState → Bool → List Ticket → EndState
with_returned e unsure ts = record e {
  returned = e.returned ++ returned_from e.present.known unsure (first_pending e.present.lane) ts;
  port = finished_all e.port ts;
}

-- an end learns the first incarnation of its peer
abbrev pub introduced : ℕ → EndState → EndState
introduced inc e = record e { present = record e.present { known = inc } }

-- an end learns that its peer restarted: both halves of the connection begin anew, and each send that isn't finished
-- comes back unsure
abbrev pub renewed : ℕ → EndState → EndState
renewed inc e = record (with_returned e true e.present.lane.pending) {
  present = new_period e.present.inc inc;
  past = e.present ∷ e.past;
}

-- an end that knows this incarnation hears of a greater one
abbrev pub learning : ℕ → ℕ → EndState → EndState
learning inc known e = if nat_eq known 0 then introduced inc e else renewed inc e

-- an incarnation is new where it is above the one that is known
abbrev pub learnt : ℕ → EndState → EndState
learnt inc e = if nat_lt e.present.known inc then learning inc e.present.known e else e

-- a hello that doesn't name the hearer's own incarnation is to be answered
abbrev pub answering : ℕ → EndState → EndState
answering knows e = record e { owes_hello = e.owes_hello || not (nat_eq knows e.present.inc) }

-- a hello
abbrev pub heard_hello : ℕ → ℕ → EndState → DuoEffect × EndState
heard_hello inc knows e =
    if nat_lt inc e.present.known then (Stale, e) else (Hello, answering knows (learnt inc e))

-- what is heard of a frame; a message here has one fragment, so none is taken in part
abbrev pub took_effect : Took → DuoEffect
took_effect Whole = Message
took_effect TookPart = Message
took_effect TookNoToken = NoToken
took_effect TookNotNext = NotNext

-- the port, once a frame came of which this was made
abbrev pub port_after : PortState → FrameHead → List ℕ → Took → PortState
port_after p h part Whole = delivered p h part
port_after p h part TookPart = delivered p h part
port_after p h part TookNoToken = p
port_after p h part TookNotNext = p

-- a frame, by what the receiver makes of it
abbrev pub heard_frame : FrameHead → List ℕ → EndState → Took → DuoEffect × EndState
heard_frame h part e t = (
  took_effect t,
  record (with_lane e (lane_after e.present.lane t (message_of h part))) { port = port_after e.port h part t },
)

-- an acknowledgement
abbrev pub heard_ack : ℕ → EndState → EndState
heard_ack n e =
    with_lane (with_returned e false (tickets_finished e.present.lane n)) (lane_acknowledged e.present.lane n)

-- a body by what it says: a frame or an acknowledgement; the medium has no other
abbrev pub heard_body : List ℕ → EndState → Result GmBody Malformed → DuoEffect × EndState
heard_body body e (Err m) = (Stale, e)
heard_body body e (Ok (Frame h)) = heard_frame h (part_in body) e
    (took e.present.lane.taken h.seq (can_take e.port h) (is_last h.total h.offset))
heard_body body e (Ok (Acknowledges a)) = (Ack, heard_ack a.next e)

-- data between incarnations; stale unless it is from the one that is known and for the hearer's own
abbrev pub heard_data : ℕ → ℕ → List ℕ → EndState → DuoEffect × EndState
heard_data src_inc dst_inc body e =
    if nat_eq src_inc e.present.known && nat_eq dst_inc e.present.inc then heard_body body e (decode body)
    else (Stale, e)
