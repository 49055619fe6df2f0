-- What polls hand to the clients of two hosts that restart, and what each of their incarnations got.
use Rattle.std.specs.Prelude.{◌≡◌, ℕ, zero, suc, ◌<◌, ◌≤◌, List, [], ◌∷◌, ◌++◌, take, map, nat_eq, if◌then◌else◌}
use Rattle.gm_defs.specs.declared.message.Message.{Message}
use Rattle.gm_defs.specs.Token.{PortEvent, Sent as SentEvent, Received as ReceivedEvent}
use Rattle.duo_defs.specs.declared.event.DuoEvent.{DuoEvent}
use Rattle.duo_defs.specs.declared.event.DuoEvent.TheVariants.{Poll, Restart}
use Rattle.duo_defs.specs.declared.effect.DuoEffect.{DuoEffect}
use Rattle.duo_defs.specs.declared.effect.DuoEffect.TheVariants.{Received, Restarted}
use Rattle.duo_defs.specs.Duo.{EndState, DuoState, plain_message, new_duo, end_at, other, got}
use Rattle.duo_defs.specs.Step.{step}
use Rattle.duo_defs.specs.Theorem.{IsReached}

-- what each of some events did, in order
abbrev pub effects_of : DuoState → List DuoEvent → List DuoEffect
effects_of d [] = []
effects_of d (e ∷ es) = (step d e).0 ∷ effects_of (step d e).1 es

-- the incarnation that an effect names, else the one before it
abbrev pub named_by : ℕ → DuoEffect → ℕ
named_by inc (Restarted next) = next
named_by inc _ = inc

-- which incarnation an end is after an event: a restart there names it
abbrev pub incarnation_after : ℕ → ℕ → DuoEvent → DuoEffect → ℕ
incarnation_after x inc (Restart y) effect = if nat_eq y x then named_by inc effect else inc
incarnation_after x inc _ effect = inc

-- the bytes of the message that an effect shows
abbrev pub in_effect : DuoEffect → List (List ℕ)
in_effect (Received token bytes) = bytes ∷ []
in_effect _ = []

-- the message that an event hands to the client of an end: what a poll there answers with
abbrev pub handed_by : ℕ → DuoEvent → DuoEffect → List (List ℕ)
handed_by x (Poll y) effect = if nat_eq y x then in_effect effect else []
handed_by x _ effect = []

-- The messages that events hand to the client of an end while the end is incarnation j, in order. The end begins as
-- incarnation inc; all is read off the events and their effects.
abbrev pub handed_in : ℕ → ℕ → ℕ → List DuoEvent → List DuoEffect → List (List ℕ)
handed_in x j inc (e ∷ es) (effect ∷ effects) =
    (if nat_eq inc j then handed_by x e effect else [])
    ++ handed_in x j (incarnation_after x inc e effect) es effects
handed_in x j inc _ _ = []

-- the message of an event that waits in a port's queue
abbrev pub in_event : PortEvent → List (List ℕ)
in_event (SentEvent t buffer) = []
in_event (ReceivedEvent t buffer from sport prio len) = take len buffer ∷ []

-- the messages of events that wait, in order
abbrev pub in_events : List PortEvent → List (List ℕ)
in_events [] = []
in_events (e ∷ es) = in_event e ++ in_events es

-- the messages that wait for the client of an end as incarnation j: none where the end is another one
abbrev pub waiting_of : EndState → ℕ → List (List ℕ)
waiting_of e j = if nat_eq e.present.inc j then in_events e.port.events else []

-- what a restart takes of these, where it happened
abbrev pub taken_by : DuoEffect → List (List ℕ) → List (List ℕ)
taken_by (Restarted next) waiting = waiting
taken_by _ waiting = []

-- the messages that an event takes from the client of an end as incarnation j, unread: what waits there as it restarts
abbrev pub lost_by : ℕ → ℕ → DuoState → DuoEvent → DuoEffect → List (List ℕ)
lost_by x j d (Restart y) effect = if nat_eq y x then taken_by effect (waiting_of (end_at d x) j) else []
lost_by x j d _ effect = []

-- the messages that events take from it, in order
abbrev pub lost_in : ℕ → ℕ → DuoState → List DuoEvent → List (List ℕ)
lost_in x j d [] = []
lost_in x j d (e ∷ es) = lost_by x j d e (step d e).0 ++ lost_in x j (step d e).1 es

-- what incarnation j of an end got from the incarnations 1 to n of its peer, one after the other
abbrev pub got_from_first : ℕ → DuoState → ℕ → ℕ → List Message
got_from_first zero d x j = []
got_from_first (suc n) d x j = got_from_first n d x j ++ got d (other x) (suc n) j

-- what it got from all incarnations of its peer so far
abbrev pub all_got : DuoState → ℕ → ℕ → List Message
all_got d x j = got_from_first (end_at d (other x)).present.inc d x j

-- What was handed to the client of an end as incarnation j, then what a restart took from it unread, then what waits
-- for it still, is exactly what this incarnation got: each message once, in order, byte for byte. Nothing is taken from
-- the present incarnation, and nothing waits for an earlier one.
pub record IsAllGot (d : DuoState) (x j : ℕ) (handed lost : List (List ℕ)) : Type 0 where
  pub messages : map plain_message (handed ++ (lost ++ waiting_of (end_at d x) j)) ≡ all_got d x j
  pub present : (end_at d x).present.inc ≤ j → lost ≡ []

-- so it is at every moment, for each of the two ends and for each incarnation
abbrev pub PolledThenWaitingIsGot : Type 0
PolledThenWaitingIsGot =
    (d : DuoState) (is : IsReached d) (x j : ℕ) → x < 2
    → IsAllGot d x j (handed_in x j is.inc is.events (effects_of (new_duo is.inc) is.events))
    (lost_in x j (new_duo is.inc) is.events)
