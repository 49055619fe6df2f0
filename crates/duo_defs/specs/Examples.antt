-- Events and what they do, worked out.
use Rattle.std.specs.Prelude.{◌≡◌, List, [], ◌∷◌, take, ◌++◌, reverse}
use Rattle.duo_defs.specs.declared.event.DuoEvent.{DuoEvent}
use Rattle.duo_defs.specs.declared.event.DuoEvent.TheVariants.{Send, Provide, Emit, Deliver, Poll, Restart}
use Rattle.duo_defs.specs.declared.effect.DuoEffect.{DuoEffect}
use Rattle.duo_defs.specs.declared.effect.DuoEffect.TheVariants.{Token, Refused, Emitted, Hello as Heard, Stale}
use Rattle.duo_defs.specs.declared.effect.DuoEffect.TheVariants.{Message, NotNext, Ack, Nothing, Sent}
use Rattle.duo_defs.specs.declared.effect.DuoEffect.TheVariants.{Unsure, Received, Restarted}
use Rattle.duo_defs.specs.declared.effect.DuoCause.TheVariants.{Spent}
use Rattle.duo_defs.specs.Duo.{DuoState, plain_message, new_duo, sent, got}
use Rattle.duo_defs.specs.Step.{last_incarnation, step, after_all}

-- What was done so far, latest first, and where it led.
pub record Told : Type 0 where
  pub done : List DuoEffect
  pub now : DuoState

-- one more is done
abbrev pub told_on : List DuoEffect → DuoEffect × DuoState → Told
told_on done (effect, d) = record { done = effect ∷ done; now = d }

-- events, one after another
abbrev pub told_all : Told → List DuoEvent → Told
told_all t [] = t
told_all t (e ∷ es) = told_all (told_on t.done (step t.now e)) es

-- what events do
abbrev pub effects : DuoState → List DuoEvent → List DuoEffect
effects d events = reverse (told_all (record { done = []; now = d }) events).done

-- both ends hear of each other, and one message is sent, taken and acknowledged; its frame comes a second time
abbrev pub one_message : List DuoEvent
one_message =
    Provide 1 4 ∷ Send 0 1 65 ∷ Emit 0 ∷ Deliver 0 ∷ Emit 1 ∷ Deliver 1 ∷ Emit 0 ∷ Deliver 2 ∷ Poll 1 ∷ Deliver 2
    ∷ Emit 1
    ∷ Deliver 3
    ∷ Poll 0
    ∷ []

-- what each of these does
abbrev pub MessageIsAcknowledged : Type 0
MessageIsAcknowledged = effects (new_duo 1) one_message
    ≡ Token 0 ∷ Token 0 ∷ Emitted 0 ∷ Heard ∷ Emitted 1 ∷ Heard ∷ Emitted 2 ∷ Message ∷ Received 0 (65 ∷ []) ∷ NotNext
    ∷ Emitted 3
    ∷ Ack
    ∷ Sent 0
    ∷ []

-- the receiver restarts before the frame comes: the sender hears of it, and the frame is stale
abbrev pub RestartIsTold : Type 0
RestartIsTold = effects (new_duo 1) (take 7 one_message
    ++ Restart 1 ∷ Deliver 2 ∷ Emit 1 ∷ Deliver 3 ∷ Poll 0 ∷ Emit 0 ∷ Deliver 4 ∷ Deliver 2 ∷ Poll 1 ∷ [])
    ≡ Token 0 ∷ Token 0 ∷ Emitted 0 ∷ Heard ∷ Emitted 1 ∷ Heard ∷ Emitted 2 ∷ Restarted 2 ∷ Stale ∷ Emitted 3 ∷ Heard
    ∷ Unsure 0
    ∷ Emitted 4
    ∷ Heard
    ∷ Stale
    ∷ Nothing
    ∷ []

-- the message of the first of these is got, once its frame came
abbrev pub MessageIsGot : Type 0
MessageIsGot = got (after_all (new_duo 1) one_message) 0 1 1 ≡ plain_message (65 ∷ []) ∷ []

-- it is sent, and not yet got, while its frame is on its way
abbrev pub MessageIsOnItsWay : Type 0
MessageIsOnItsWay =
    (sent (after_all (new_duo 1) (take 7 one_message)) 0 1 1 ≡ plain_message (65 ∷ []) ∷ [])
    × (got (after_all (new_duo 1) (take 7 one_message)) 0 1 1 ≡ [])

-- the greatest incarnation doesn't restart
abbrev pub LastIncarnationStays : Type 0
LastIncarnationStays = effects (new_duo last_incarnation) (Restart 0 ∷ []) ≡ Refused Spent ∷ []
