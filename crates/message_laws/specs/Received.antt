-- What received events hold, after every list of acts.
use Rattle.std.specs.Prelude.{◌≡◌, ℕ, List, length, slice_get, Some}
use Rattle.net_defs.specs.Network.{Network}
use Rattle.gm_defs.specs.declared.message.Message.{Message}
use Rattle.gm_defs.specs.Token.{PortState, Received, size_for_length}
use Rattle.gm_defs.specs.Port.{filled}
use Rattle.gm_defs.specs.Connection.{connection}
use Rattle.world_defs.specs.Node.{port_at}
use Rattle.world_defs.specs.Client.{empty_buffer}
use Rattle.world_defs.specs.World.{WorldState, node_at}
use Rattle.world_defs.specs.Traffic.{got_on}
use Rattle.world_defs.specs.Acts.{IsReached}

-- What a received event says is of a message that was got from there, of its priority, for its port: the message's
-- bytes stand in front, and after them the zero bytes of the buffer that was provided, which is of the least size
-- that has room.
pub record IsOfMessage (got : ℕ → List Message) (port : ℕ) (buffer : List ℕ) (from sport prio len : ℕ) : Type 0 where
  pub place : ℕ
  pub message : Message
  pub size : ℕ
  pub there : slice_get (got from) place ≡ Some message
  pub to_port : message.dport ≡ port
  pub from_port : message.sport ≡ sport
  pub priority : message.prio ≡ prio
  pub long : length message.body ≡ len
  pub least : size_for_length len ≡ Some size
  pub bytes : buffer ≡ filled (empty_buffer size) 0 message.body

-- each received event that waits at an open port is of a message
abbrev pub ReceivedEventsAreOfMessages : Type 0
ReceivedEventsAreOfMessages =
    (n : Network) (w : WorldState) → IsReached n w
    → (h port place : ℕ) (p : PortState) (t : ℕ) (buffer : List ℕ) (from sport prio len : ℕ)
    → port_at (node_at w h) port ≡ Some p → slice_get p.events place ≡ Some (Received t buffer from sport prio len)
    → IsOfMessage (λ a. got_on w (connection a h prio)) port buffer from sport prio len
