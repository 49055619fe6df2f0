-- Whose acts are, how epochs follow, and what lines show of messages, worked out: of the two hosts at one switch host 0
-- has adopted routes and sends a message to host 1.
use Rattle.std.specs.Prelude.{◌≡◌, ℕ, List, [], ◌∷◌, map, Option, Some, option_map}
use Rattle.std.specs.List.{filter}
use Rattle.net_defs.specs.Examples.{two_hosts, host_end, switch_end}
use Rattle.world_defs.specs.declared.moved.Course.{Course}
use Rattle.world_defs.specs.declared.moved.Course.TheVariants.{Arrives, Enters}
use Rattle.world_defs.specs.Links.{packet_in}
use Rattle.world_defs.specs.Advance.{course}
use Rattle.gm_defs.specs.declared.message.Message.{Message}
use Rattle.gm_defs.specs.Connection.{connection}
use Rattle.world_defs.specs.declared.client.ClientCause.TheVariants.{NoToken}
use Rattle.world_defs.specs.declared.effect.Said.TheVariants.{Refused}
use Rattle.world_defs.specs.declared.event.Event.TheVariants.{Part, Inject, Advance, Hold, Replay, Revoke, Begin}
use Rattle.world_defs.specs.declared.event.Event.TheVariants.{Send, Pull, Plug}
use Rattle.world_defs.specs.Table.{active_epoch}
use Rattle.world_defs.specs.World.{WorldState, new_world, node_at, epoch_of}
use Rattle.world_defs.specs.Examples.{setup_routes}
use Rattle.world_defs.specs.Acts.{Act, Happens, Adopts, acted_all, MayActAll}
use Rattle.run_defs.specs.declared.command.Command.{Command}
use Rattle.run_defs.specs.declared.command.Command.TheVariants.{Provide, Send as SendCommand, Settle, Poll, Finish}
use Rattle.run_defs.specs.declared.line.ClientCall.TheVariants.{Send as SendCall}
use Rattle.run_defs.specs.declared.line.Line.TheVariants.{Client}
use Rattle.run_defs.specs.Output.{OneLine}
use Rattle.run_defs.specs.Examples.{message_output}
use Rattle.client_laws.specs.Handed.{Handed, is_to, as_handed}
use Rattle.promise_laws.specs.ReceivedLines.{received_in, accepted_of}
use Rattle.promise_laws.specs.OneAction.{OfHost, OfChannel, OfCable, OfNone, actor_of}

-- host 0 has put its message into its channel
abbrev pub sent_acts : List Act
sent_acts = Adopts 0 setup_routes ∷ Happens (Begin 0 0 1 0) ∷ Happens (Send 0 0 1 1 0 1 10) ∷ Happens (Inject 0) ∷ []

-- the world after it
abbrev pub sent_world : WorldState
sent_world = acted_all (new_world two_hosts) sent_acts

-- where the packet of a channel would go
abbrev pub course_from : WorldState → ℕ → Option Course
course_from w c = option_map (λ held. course w.links.cables c held.wire) (packet_in w.links c)

-- by an advance it goes from channel 0 into channel 3, and by another one from there to host 1
abbrev pub PacketGoesOn : Type 0
PacketGoesOn = (course_from sent_world 0 ≡ Some (Enters 3))
    × (course_from (acted_all sent_world (Happens (Advance 0) ∷ [])) 3 ≡ Some (Arrives 1))

-- a part is staged by the host that adopted the routes, and by none where no routes are adopted
abbrev pub PartsAreOfAdopters : Type 0
PartsAreOfAdopters = (actor_of sent_world (Happens (Part 1 0)) ≡ OfHost 0)
    × (actor_of (new_world two_hosts) (Happens (Part 1 0)) ≡ OfNone)

-- a replay is of the channel that the packet was held in, and of none where nothing is in limbo
abbrev pub ReplaysAreOfChannels : Type 0
ReplaysAreOfChannels =
    (actor_of (acted_all sent_world (Happens (Advance 0) ∷ Happens (Hold 3) ∷ [])) (Happens (Replay 0)) ≡ OfChannel 3)
    × (actor_of sent_world (Happens (Replay 0)) ≡ OfNone)

-- a pull is of the cable at its port, and of none where there is no cable; a plug is of none
abbrev pub PullsAreOfCables : Type 0
PullsAreOfCables =
    (actor_of (new_world two_hosts) (Happens (Pull (switch_end 0 5))) ≡ OfCable 1)
    × (actor_of (new_world two_hosts) (Happens (Pull (switch_end 0 6))) ≡ OfNone)
    × (actor_of (new_world two_hosts) (Happens (Plug (switch_end 0 6) (switch_end 0 7))) ≡ OfNone)

-- both hosts give up the first epoch, and host 1 adopts the routes again
abbrev pub next_epoch : List Act
next_epoch = Adopts 0 setup_routes ∷ Happens (Revoke 0) ∷ Happens (Revoke 1) ∷ Adopts 1 setup_routes ∷ []

-- the same without host 1's part in it
abbrev pub too_early : List Act
too_early = Adopts 0 setup_routes ∷ Happens (Revoke 0) ∷ Adopts 1 setup_routes ∷ []

-- so the second epoch may begin, though not before both gave up the first, and host 1 has its table at once
abbrev pub EpochsFollow : Type 0
EpochsFollow = MayActAll (new_world two_hosts) next_epoch
    × (epoch_of (acted_all (new_world two_hosts) next_epoch) ≡ 2)
    × (active_epoch (node_at (acted_all (new_world two_hosts) next_epoch) 1).table ≡ Some 2)
    × (¬ MayActAll (new_world two_hosts) too_early)

-- the commands from a message's buffer on
abbrev pub message_commands : List Command
message_commands = Provide 1 1 4 0 ∷ SendCommand 0 0 1 1 0 1 9 ∷ Settle ∷ Poll 1 1 ∷ Poll 1 1 ∷ Finish ∷ []

-- the message that its `send` hands in, whose line has a token
abbrev pub sent_nine : Message
sent_nine = record { sport = 0; dport = 1; prio = 0; body = 9 ∷ [] }

-- the message as its line `received` shows it
abbrev pub shown_nine : Handed
shown_nine = record { from = 0; sport = 0; prio = 0; bytes = 9 ∷ [] }

-- what port 1 of host 1 is shown to receive is what was handed in for it; a `send` whose line has no token hands in
-- nothing
abbrev pub MessageIsInLines : Type 0
MessageIsInLines = (received_in 1 1 message_output ≡ shown_nine ∷ [])
    × (accepted_of (connection 0 1 0) message_commands message_output ≡ sent_nine ∷ [])
    × (map (as_handed 0) (filter (is_to 1) (sent_nine ∷ [])) ≡ shown_nine ∷ [])
    × (accepted_of (connection 0 1 0) (SendCommand 0 0 1 1 0 1 9 ∷ [])
    (OneLine (Client SendCall 0 0 (Refused NoToken)) ∷ []) ≡ [])
