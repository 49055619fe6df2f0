-- Which sends stand in the queues of ports, after every list of acts.
use Rattle.std.specs.Prelude.{◌≡◌, ℕ, List, slice_get, Option, Some}
use Rattle.net_defs.specs.Network.{Network}
use Rattle.gm_defs.specs.declared.message.Message.{Message}
use Rattle.gm_defs.specs.Token.{Sending, PortState}
use Rattle.world_defs.specs.Lane.{Ticket}
use Rattle.world_defs.specs.Node.{NodeState, port_at}
use Rattle.world_defs.specs.World.{WorldState, node_at}
use Rattle.world_defs.specs.Acts.{IsReached}
use Rattle.ticket_laws.specs.Tickets.{HasOneTicket, AreMatched}
use Rattle.ticket_laws.specs.Host.{send_under, tickets_of, unfinished_of}

-- the send that stands under a token in the queue of an open port
abbrev pub send_at : NodeState → Ticket → Option Sending
send_at n t = send_under n.ports t

-- the tickets that wait on a lane
abbrev pub tickets_on : NodeState → ℕ → List Ticket
tickets_on n lane = tickets_of n.lanes lane

-- the messages of a lane whose last fragment isn't acknowledged, in order
abbrev pub unfinished_on : NodeState → ℕ → List Message
unfinished_on n lane = unfinished_of n.lanes lane

-- a buffer has a message's bytes, and no others
abbrev pub HasBytes : List ℕ → List ℕ → Type 0
HasBytes buffer bytes = buffer ≡ bytes

-- on each host the sends in the ports' queues are those of the messages whose last fragment isn't acknowledged
abbrev pub QueueIsUnfinished : Type 0
QueueIsUnfinished =
    (n : Network) (w : WorldState) → IsReached n w → (h : ℕ)
    → AreMatched HasBytes (send_at (node_at w h)) (tickets_on (node_at w h)) (unfinished_on (node_at w h))

-- and each place in an open port's queue has a token with one ticket
abbrev pub EachSendHasOneTicket : Type 0
EachSendHasOneTicket =
    (n : Network) (w : WorldState) → IsReached n w → (h port place : ℕ) (p : PortState) (s : Sending)
    → port_at (node_at w h) port ≡ Some p → slice_get p.queue place ≡ Some s
    → HasOneTicket (tickets_on (node_at w h)) (record { port = port; token = s.token })
