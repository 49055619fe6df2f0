-- What the lines of a report tell of ports and messages, and what follows from them.
use Rattle.std.specs.Prelude.{ℕ, Bool, ◌&&◌, List, [], ◌∷◌, ◌++◌, nat_eq, if◌then◌else◌}
use Rattle.gm_defs.specs.declared.message.Message.{Message}
use Rattle.world_defs.specs.Client.{client_bytes}
use Rattle.world_defs.specs.Sound.{IsPrefix}
use Rattle.port_ledgers.specs.declared.lane.Lane.{Lane}
use Rattle.port_ledgers.specs.declared.lane.PortName.{PortName}
use Rattle.port_ledgers.specs.declared.lane.SentMessage.{SentMessage}

-- One line: a port was opened with so many tokens, or closed with so many that came back; a receive token was provided;
-- a message was accepted with a send token; a send token came back; a message was received with a receive token.
pub data Told : Type 0 where
  Opened : (port : PortName) (sends recvs : ℕ) → Told
  Closed : (port : PortName) (count : ℕ) → Told
  Provided : (port : PortName) (token : ℕ) → Told
  Accepted : (lane : Lane) (m : SentMessage) (token : ℕ) → Told
  Returned : (port : PortName) (token : ℕ) → Told
  Received : (lane : Lane) (sport : ℕ) (body : List ℕ) (token : ℕ) → Told

-- the same lane
abbrev pub is_lane : Lane → Lane → Bool
is_lane k l = nat_eq k.from l.from && (nat_eq k.to l.to && (nat_eq k.port l.port && nat_eq k.prio l.prio))

-- a message that goes by a lane
abbrev pub message_on : Lane → ℕ → List ℕ → Message
message_on k sport body = record { sport = sport; dport = k.port; prio = k.prio; body = body }

-- the message that a client sent by a lane
abbrev pub sent_message : Lane → SentMessage → Message
sent_message k m = message_on k m.sport (client_bytes m.len m.seed)

-- a message, where the lane on which it goes is asked for
abbrev pub on_lane : Lane → Lane → Message → List Message
on_lane k l m = if is_lane l k then m ∷ [] else []

-- the message of an accepted send, where it goes by a lane
abbrev pub sent_by : Lane → Told → List Message
sent_by k (Accepted l m token) = on_lane k l (sent_message l m)
sent_by k _ = []

-- the message of a received line, where it came by a lane
abbrev pub received_by : Lane → Told → List Message
received_by k (Received l sport body token) = on_lane k l (message_on l sport body)
received_by k _ = []

-- What was sent by a lane, in order, as the lines tell it, the latest line first.
abbrev pub sent_told : Lane → List Told → List Message
sent_told k [] = []
sent_told k (t ∷ past) = sent_told k past ++ sent_by k t

-- What was received on a lane, in order.
abbrev pub received_told : Lane → List Told → List Message
received_told k [] = []
received_told k (t ∷ past) = received_told k past ++ received_by k t

-- On each lane the messages received so far are a prefix of those sent so far.
pub record AreInOrder (past : List Told) : Type 0 where
  pub each : (k : Lane) → IsPrefix (received_told k past) (sent_told k past)
