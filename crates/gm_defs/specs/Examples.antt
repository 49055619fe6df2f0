-- Messages and bodies for worked examples.
use Rattle.std.specs.Prelude.{ℕ, List, [], ◌∷◌, map, codes, replicate, None}
use Rattle.gm_defs.specs.declared.message.Message.{Message}
use Rattle.gm_defs.specs.declared.frame.FrameHead.{FrameHead}
use Rattle.gm_defs.specs.declared.frame.Ack.{Ack}
use Rattle.gm_defs.specs.Token.{PortState, PortEvent, Sent, Received, opened}
use Rattle.gm_defs.specs.Port.{provided_with, delivered}

-- a message of these bytes, from port 0 to port 1
abbrev pub message : List ℕ → Message
message body = record { sport = 0; dport = 1; prio = 0; body = body }

-- `ABC` from host 0 to host 1, whole in one frame
abbrev pub abc : FrameHead
abc = record { src = 0; dst = 1; sport = 0; dport = 1; prio = 0; seq = 0; total = 3; offset = 0; len = 3 }

-- host 1 has taken one fragment of priority 1 from host 0
abbrev pub answer : Ack
answer = record { src = 1; dst = 0; prio = 1; next = 1 }

-- a port with one send that isn't finished, one provided token, and one event of each kind
abbrev pub busy_port : PortState
busy_port = record {
  sends = 3;
  recvs = 2;
  queue = record { token = 1; buffer = codes "ABC" } ∷ [];
  provided = record { token = 0; size = 4; prio = 0; filling = None; buffer = replicate 8 0 } ∷ [];
  events = Sent 0 [] ∷ Received 1 (codes "hello...") 1 0 0 5 ∷ [];
}

-- the tokens of a port's sends, of its provided buffers and of its events
abbrev pub sends_of : PortState → List ℕ
sends_of p = map (λ s. s.token) p.queue

-- the tokens of a port's provided buffers
abbrev pub provided_of : PortState → List ℕ
provided_of p = map (λ r. r.token) p.provided

-- the token of an event
abbrev pub token_of : PortEvent → ℕ
token_of (Sent t b) = t
token_of (Received t b from sport prio len) = t

-- the tokens of a port's events
abbrev pub events_of : PortState → List ℕ
events_of p = map token_of p.events

-- a message's token with its buffer
abbrev pub sent_event : ℕ → List ℕ → PortEvent
sent_event t b = Sent t b

-- a message of 1,017 sevens in its two fragments: the first has all but the last byte
abbrev pub first_part : FrameHead
first_part = record abc { total = 1017; len = 1016 }

-- the second has the last byte
abbrev pub last_part : FrameHead
last_part = record abc { seq = 1; total = 1017; offset = 1016; len = 1 }

-- a port with two buffers of 2,040 zeros
abbrev pub roomy_port : PortState
roomy_port =
    provided_with (provided_with (opened 0 2)
    (record { token = 0; size = 11; prio = 0; filling = None; buffer = replicate 2040 0 }))
    (record { token = 1; size = 11; prio = 0; filling = None; buffer = replicate 2040 0 })

-- it took the first fragment
abbrev pub filling_port : PortState
filling_port = delivered roomy_port first_part (replicate 1016 7)

-- and the second
abbrev pub filled_port : PortState
filled_port = delivered filling_port last_part (7 ∷ [])
