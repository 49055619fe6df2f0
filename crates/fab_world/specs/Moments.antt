-- What holds at every moment of a world of the sends that wait and of the buffers that are provided.
use Rattle.std.specs.Prelude.{◌≡◌, ℕ, Some}
use Rattle.std.specs.List.{AllByRecursion}
use Rattle.gm_defs.specs.Token.{PortState}
use Rattle.world_defs.specs.Node.{port_at}
use Rattle.world_defs.specs.World.{WorldState, node_at}
use Rattle.ticket_laws.specs.Tickets.{AreMatched}
use Rattle.message_laws.specs.Unfinished.{HasBytes, send_at, tickets_on, unfinished_on}
use Rattle.message_laws.specs.Untouched.{IsUntouched}

-- on each host the sends in the ports' queues are those of the messages whose last fragment isn't acknowledged, each
-- with its message's bytes
abbrev pub AreQueuesUnfinished : WorldState → Type 0
AreQueuesUnfinished w = (h : ℕ)
    → AreMatched HasBytes (send_at (node_at w h)) (tickets_on (node_at w h)) (unfinished_on (node_at w h))

-- each provided buffer of an open port is as it was provided, but for the bytes of a message that it holds in front
abbrev pub AreBuffersUntouched : WorldState → Type 0
AreBuffersUntouched w = (h port : ℕ) (p : PortState)
    → port_at (node_at w h) port ≡ Some p → AllByRecursion IsUntouched p.provided
