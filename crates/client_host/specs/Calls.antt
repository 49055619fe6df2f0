-- A client's call as an event: its host, its port, and what it comes to.
use Rattle.std.specs.Prelude.{ℕ, ◌<◌, Bool, true, false, Option}
use Rattle.world_defs.specs.declared.event.Event.{Event}
use Rattle.world_defs.specs.declared.event.Event.TheVariants.{Begin, Close, Provide, Send, Poll}
use Rattle.world_defs.specs.declared.effect.Said.{Said}
use Rattle.world_defs.specs.declared.effect.Said.TheVariants.{Nothing}
use Rattle.world_defs.specs.Node.{NodeState}
use Rattle.world_defs.specs.Client.{ClientState, Called, begun, closed, provided_by, sent_by, polled_by}
use Rattle.world_defs.specs.Step.{wanted}
use Rattle.client_host.specs.Held.{IsFromHosts}

-- an event is a client's call
abbrev pub IsClientCall : Event → Type 0
IsClientCall (Begin h port sends recvs) = Unit {0}
IsClientCall (Close h port) = Unit {0}
IsClientCall (Provide h port size prio) = Unit {0}
IsClientCall (Send h port dest dport prio len seed) = Unit {0}
IsClientCall (Poll h port) = Unit {0}
IsClientCall _ = ⊥

-- An event is a client's call at one of so many hosts: its ports are there, and a message is for a host that is there
-- and has one of two priorities.
abbrev pub IsCallGiven : ℕ → Event → Type 0
IsCallGiven hosts (Begin h port sends recvs) = port < 8
IsCallGiven hosts (Close h port) = port < 8
IsCallGiven hosts (Provide h port size prio) = port < 8
IsCallGiven hosts (Send h port dest dport prio len seed) = (dest < hosts) × (port < 8) × (dport < 8) × (prio < 2)
IsCallGiven hosts (Poll h port) = port < 8
IsCallGiven hosts _ = ⊥

-- the host of a client's call; 0 of any other event
abbrev pub host_of_call : Event → ℕ
host_of_call (Begin h port sends recvs) = h
host_of_call (Close h port) = h
host_of_call (Provide h port size prio) = h
host_of_call (Send h port dest dport prio len seed) = h
host_of_call (Poll h port) = h
host_of_call _ = 0

-- the port of a client's call; 0 of any other event
abbrev pub port_of_call : Event → ℕ
port_of_call (Begin h port sends recvs) = port
port_of_call (Close h port) = port
port_of_call (Provide h port size prio) = port
port_of_call (Send h port dest dport prio len seed) = port
port_of_call (Poll h port) = port
port_of_call _ = 0

-- what a client's call comes to; any other event says nothing and changes nothing
abbrev pub call_of : Event → NodeState → Option ClientState → Called
call_of (Begin h port sends recvs) n c = begun n port sends recvs c
call_of (Close h port) n c = closed n port c
call_of (Provide h port size prio) n c = provided_by n port size prio c
call_of (Send h port dest dport prio len seed) n c = sent_by n (wanted port dest dport prio len seed) c
call_of (Poll h port) n c = polled_by n port c
call_of _ n c = record { said = Nothing; node = n; client = c }

-- a client's call may take memory: each but a close and a poll
abbrev pub call_takes_memory : Event → Bool
call_takes_memory (Close h port) = false
call_takes_memory (Poll h port) = false
call_takes_memory _ = true

-- a message that a poll hands out is from one of so many hosts
abbrev pub IsPolledFrom : ℕ → Event → Said → Type 0
IsPolledFrom hosts (Poll h port) said = IsFromHosts hosts said
IsPolledFrom hosts _ said = Unit {0}
