-- What the parts of a port hold, as contracts see them.
use Rattle.std.specs.Prelude.{ℕ, List}
use Rattle.gm_defs.specs.Token.{Sending, Provided, PortEvent, Sent, Received}
use Rattle.gm_tokens.specs.Token.{Token, token_at}
use Rattle.gm_port.specs.declared.event.PortEvent.{PortEvent as Event}
use Rattle.gm_port.specs.declared.event.PortEvent.TheVariants.{Sent as SentEvent, Received as ReceivedEvent}
use Rattle.gm_port.specs.declared.event.ProvidedToken.{ProvidedToken}

-- The unfinished sends of a port: whose tokens they are, how many there may be, and the sends by the rising numbers of
-- their tokens.
pub record Sends : Type 0 where
  pub host : ℕ
  pub port : ℕ
  pub limit : ℕ
  pub sends : List Sending

-- The provided tokens of a port, first provided first.
pub record Buffers : Type 0 where
  pub host : ℕ
  pub port : ℕ
  pub limit : ℕ
  pub provided : List Provided

-- The events of a port, first put in first.
pub record Events : Type 0 where
  pub host : ℕ
  pub port : ℕ
  pub limit : ℕ
  pub events : List PortEvent

-- a send as its token with its buffer
abbrev pub send_at : ℕ → ℕ → Sending → Token × List ℕ
send_at host port s = (token_at host port s.token, s.buffer)

-- a provided token with its buffer, as the port holds it under a token
abbrev pub provided_at_token : Token → Provided → ProvidedToken
provided_at_token token r = record {
  token = token;
  buffer = r.buffer;
  size = r.size;
  prio = r.prio;
  filling = r.filling;
}

-- the same by whose port it is
abbrev pub provided_at : ℕ → ℕ → Provided → ProvidedToken
provided_at host port r = provided_at_token (token_at host port r.token) r

-- a provided token with its buffer
abbrev pub receive_at : ℕ → ℕ → Provided → Token × List ℕ
receive_at host port r = (token_at host port r.token, r.buffer)

-- a provided token by its number
abbrev pub provided_of : ProvidedToken → Provided
provided_of r = record {
  token = r.token.number;
  size = r.size;
  prio = r.prio;
  filling = r.filling;
  buffer = r.buffer;
}

-- an event with its token
abbrev pub event_at : ℕ → ℕ → PortEvent → Event
event_at host port (Sent t b) = SentEvent (token_at host port t) b
event_at host port (Received t b from sport prio len) = ReceivedEvent (token_at host port t) b from sport prio len

-- an event by the number of its token
abbrev pub event_of : Event → PortEvent
event_of (SentEvent t b) = Sent t.number b
event_of (ReceivedEvent t b from sport prio len) = Received t.number b from sport prio len
