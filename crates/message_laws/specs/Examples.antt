-- Reached worlds of the two hosts at one switch, worked out: a message comes, its acknowledgement comes back, a send
-- isn't finished, and a buffer is provided.
use Rattle.std.specs.Prelude.{◌≡◌, List, [], ◌∷◌, ℕ, ◌++◌, Option, Some, option_map, Result, Ok, None}
use Rattle.net_defs.specs.Examples.{two_hosts}
use Rattle.gm_defs.specs.declared.message.Message.{Message}
use Rattle.world_defs.specs.declared.event.Event.TheVariants.{Inject, Advance, Begin, Provide, Send}
use Rattle.world_defs.specs.World.{WorldState, new_world, node_at, client_at}
use Rattle.gm_defs.specs.Connection.{connection, ack_on}
use Rattle.world_defs.specs.Kinds.{unrouted}
use Rattle.world_defs.specs.Traffic.{sent_on, got_on, sender_on, taken_on}
use Rattle.world_defs.specs.Examples.{setup_routes}
use Rattle.world_defs.specs.Acts.{Act, Happens, Adopts, acted_all, IsReached}
use Rattle.packet_defs.specs.declared.kind.Kind.{Kind}
use Rattle.packet_defs.specs.declared.kind.Kind.TheVariants.{Gm}
use Rattle.packet_defs.specs.declared.host_drop.HostDrop.{HostDrop}
use Rattle.packet_defs.specs.Host.{body_of}
use Rattle.world_defs.specs.Links.{packet_in}
use Rattle.gm_defs.specs.Body.{ack_bytes}
use Rattle.world_defs.specs.Settle.{unacknowledged_in}
use Rattle.gm_defs.specs.Token.{Sent, Received}
use Rattle.world_defs.specs.declared.effect.Said.TheVariants.{Count}
use Rattle.world_defs.specs.Lane.{Ticket}
use Rattle.world_defs.specs.Node.{lane_of, port_at}
use Rattle.world_defs.specs.Client.{empty_buffer, closed}
use Rattle.owner_laws.specs.Examples.{busy_world}
use Rattle.message_laws.specs.Unfinished.{send_at, tickets_on, unfinished_on}

-- routes are adopted, both ports open, a buffer is provided, and the message goes through the switch
abbrev pub one_message : List Act
one_message =
    Adopts 0 setup_routes ∷ Happens (Begin 0 0 1 0) ∷ Happens (Begin 1 1 0 1) ∷ Happens (Provide 1 1 4 0)
    ∷ Happens (Send 0 0 1 1 0 1 10)
    ∷ Happens (Inject 0) ∷ Happens (Advance 0) ∷ Happens (Advance 3) ∷ []

-- the world after them
abbrev pub message_world : WorldState
message_world = acted_all (new_world two_hosts) one_message

-- it is reached
abbrev pub MessageWorldIsReached : Type 0
MessageWorldIsReached = IsReached two_hosts message_world

-- the message that was sent
abbrev pub ten : Message
ten = record { sport = 0; dport = 1; prio = 0; body = 10 ∷ [] }

-- host 1 has it, and it is all that was sent there
abbrev pub OneMessageCame : Type 0
OneMessageCame = (got_on message_world (connection 0 1 0) ≡ ten ∷ [])
    × (sent_on message_world (connection 0 1 0) ≡ ten ∷ [])

-- host 1 has the routes too, and answers; its packet goes through the switch to host 0
abbrev pub answered_acts : List Act
answered_acts = one_message ++ Adopts 1 setup_routes ∷ Happens (Inject 1) ∷ Happens (Advance 2) ∷ Happens (Advance 1)
    ∷ []

-- the world after them
abbrev pub answered_world : WorldState
answered_world = acted_all (new_world two_hosts) answered_acts

-- it is reached
abbrev pub AnsweredWorldIsReached : Type 0
AnsweredWorldIsReached = IsReached two_hosts answered_world

-- the answer once it is injected, with its whole route before it
abbrev pub answer_on_its_way : Option (Result (Kind × List ℕ) HostDrop)
answer_on_its_way =
    option_map (λ held. body_of (unrouted held.wire))
    (packet_in (acted_all message_world (Adopts 1 setup_routes ∷ Happens (Inject 1) ∷ [])).links 2)

-- after its route it is the acknowledgement of one fragment, as many as host 1 has taken
abbrev pub AnswerIsHonest : Type 0
AnswerIsHonest = answer_on_its_way ≡ Some (Ok (Gm, ack_bytes (ack_on (connection 0 1 0) 1)))

-- before the answer one fragment is taken, and none acknowledged
abbrev pub TakenAheadOfBase : Type 0
TakenAheadOfBase = (taken_on message_world (connection 0 1 0) ≡ 1)
    × (sender_on message_world (connection 0 1 0) ≡ record { base = 0; cursor = 1; top = 1; next = 1 })

-- after it all is acknowledged, and the message is got
abbrev pub AllIsAcknowledged : Type 0
AllIsAcknowledged =
    (sender_on answered_world (connection 0 1 0) ≡ record { base = 1; cursor = 1; top = 1; next = 1 })
    × (unacknowledged_in answered_world ≡ 0)
    × (got_on answered_world (connection 0 1 0) ≡ ten ∷ []) × (sent_on answered_world (connection 0 1 0) ≡ ten ∷ [])

-- the world in which host 0 has sent five bytes from port 3 is reached
abbrev pub BusyWorldIsReached : Type 0
BusyWorldIsReached = IsReached two_hosts busy_world

-- the ticket of that send
abbrev pub of_port_3 : Ticket
of_port_3 = record { port = 3; token = 0 }

-- its message
abbrev pub five_bytes : Message
five_bytes = record { sport = 3; dport = 2; prio = 0; body = 7 ∷ 8 ∷ 9 ∷ 10 ∷ 11 ∷ [] }

-- nothing is acknowledged: the ticket waits on the lane of host 1 and priority 0, the message is unfinished, and its
-- send stands in the queue with its bytes
abbrev pub SendIsUnfinished : Type 0
SendIsUnfinished =
    (tickets_on (node_at busy_world 0) (lane_of 1 0) ≡ of_port_3 ∷ [])
    × (unfinished_on (node_at busy_world 0) (lane_of 1 0) ≡ five_bytes ∷ [])
    × (send_at (node_at busy_world 0) of_port_3 ≡ Some (record { token = 0; buffer = five_bytes.body }))

-- the ticket of a send from port 0
abbrev pub of_port_0 : Ticket
of_port_0 = record { port = 0; token = 0 }

-- a message that came stands in the queue until its acknowledgement came back too
abbrev pub SendIsFinished : Type 0
SendIsFinished =
    (unfinished_on (node_at message_world 0) (lane_of 1 0) ≡ ten ∷ [])
    × (send_at (node_at message_world 0) of_port_0 ≡ Some (record { token = 0; buffer = ten.body }))
    × (unfinished_on (node_at answered_world 0) (lane_of 1 0) ≡ [])
    × (tickets_on (node_at answered_world 0) (lane_of 1 0) ≡ [])
    × (send_at (node_at answered_world 0) of_port_0 ≡ None)

-- the buffer that host 0 has provided at port 3 has 56 zero bytes
abbrev pub BufferIsProvided : Type 0
BufferIsProvided =
    option_map (λ p. p.provided) (port_at (node_at busy_world 0) 3)
    ≡ Some (record { token = 0; size = 6; prio = 0; filling = None; buffer = empty_buffer 6 } ∷ [])

-- a world in which host 0 has provided a buffer, and sent nothing
abbrev pub provided_world : WorldState
provided_world = acted_all (new_world two_hosts) (Happens (Begin 0 3 1 2) ∷ Happens (Provide 0 3 6 0) ∷ [])

-- a close there hands back one buffer: that of the receive token 0, while the client holds the receive token 1 and the
-- send token 0
abbrev pub CloseHandsBack : Type 0
CloseHandsBack =
    ((closed (node_at provided_world 0) 3 (client_at provided_world 0 3)).said ≡ Count 1)
    × (option_map (λ p. p.provided) (port_at (node_at provided_world 0) 3)
    ≡ Some (record { token = 0; size = 6; prio = 0; filling = None; buffer = empty_buffer 6 } ∷ []))
    × (client_at provided_world 0 3 ≡ Some (record { sends = 0 ∷ []; recvs = 1 ∷ [] }))

-- the byte that host 1 received from host 0 stands in front of seven zero bytes
abbrev pub MessageIsReceived : Type 0
MessageIsReceived =
    option_map (λ p. p.events) (port_at (node_at message_world 1) 1)
    ≡ Some (Received 0 (10 ∷ 0 ∷ 0 ∷ 0 ∷ 0 ∷ 0 ∷ 0 ∷ 0 ∷ []) 0 0 0 1 ∷ [])

-- the byte that host 0 sent comes back with its send token
abbrev pub BufferIsReturned : Type 0
BufferIsReturned = option_map (λ p. p.events) (port_at (node_at answered_world 0) 0) ≡ Some (Sent 0 (10 ∷ []) ∷ [])
