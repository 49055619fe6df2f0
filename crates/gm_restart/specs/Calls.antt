-- Why a call of a client is refused, and what takes memory.
use Rattle.std.specs.Prelude.{ℕ, Bool, true, false, drop, slice_get, nat_lt, if◌then◌else◌, Option, Some, None}
use Rattle.gm_defs.specs.declared.token.Took.{Took}
use Rattle.gm_defs.specs.declared.token.Took.TheVariants.{NotNext, NoToken as TookNoToken, Part, Whole}
use Rattle.gm_defs.specs.Body.{piece}
use Rattle.gm_defs.specs.Fragment.{piece_count}
use Rattle.gm_defs.specs.Connection.{is_spent}
use Rattle.duo_defs.specs.declared.event.DuoEvent.{DuoEvent}
use Rattle.duo_defs.specs.declared.event.DuoEvent.TheVariants.{Expire, Poll}
use Rattle.duo_defs.specs.declared.effect.DuoEffect.{DuoEffect}
use Rattle.duo_defs.specs.declared.effect.DuoEffect.TheVariants.{Refused, Idle, Stale, Nothing, Received}
use Rattle.duo_defs.specs.declared.effect.DuoCause.{DuoCause}
use Rattle.duo_defs.specs.declared.effect.DuoCause.TheVariants.{TooLong, Spent}
use Rattle.world_defs.specs.declared.effect.Said.{Said}
use Rattle.world_defs.specs.declared.effect.Said.TheVariants.{Sent as SaidSent, Received as SaidReceived}
use Rattle.duo_defs.specs.Duo.{EndState}
use Rattle.duo_defs.specs.Step.{told}

-- why a message of so many bytes is refused at an end whose client holds a send token
abbrev pub send_refusal : EndState → ℕ → Option DuoCause
send_refusal e len =
    if nat_lt piece len then Some TooLong
    else if is_spent e.present.lane.sender (piece_count len) then Some Spent
    else None

-- an effect of an event that changes nothing: it is refused, idle, stale, or finds no event
abbrev pub is_quiet : DuoEffect → Bool
is_quiet (Refused cause) = true
is_quiet Idle = true
is_quiet Stale = true
is_quiet Nothing = true
is_quiet _ = false

-- a timer that runs out and a poll take no memory
abbrev pub takes_memory : DuoEvent → Bool
takes_memory (Expire x) = false
takes_memory (Poll x) = false
takes_memory _ = true

-- a frame's message was taken
abbrev pub is_taken : Took → Bool
is_taken Whole = true
is_taken Part = true
is_taken NotNext = false
is_taken TookNoToken = false

-- what a client is told of an event of its port: that a send came back, or of a message
abbrev pub IsOfEvent : Said → Type 0
IsOfEvent (SaidSent token) = Unit {0}
IsOfEvent (SaidReceived token from sport prio body) = Unit {0}
IsOfEvent _ = ⊥

-- the effect of a poll at an end whose port handed such an event out, and the end after it
abbrev pub told_of : EndState → Said → DuoEffect × EndState
told_of e (SaidSent token) = (told token (slice_get e.returned 0), record e { returned = drop 1 e.returned })
told_of e (SaidReceived token from sport prio body) = (Received token body, e)
told_of e _ = (Nothing, e)
