-- A message that is polled, worked out: the two hosts at one switch, of which host 0 sends host 1 one byte.
use Rattle.std.specs.Prelude.{◌≡◌, List, [], ◌∷◌, ◌++◌}
use Rattle.net_defs.specs.Examples.{two_hosts}
use Rattle.gm_defs.specs.Connection.{connection}
use Rattle.world_defs.specs.declared.event.Event.TheVariants.{Poll}
use Rattle.world_defs.specs.Node.{port_at}
use Rattle.world_defs.specs.World.{new_world, node_at}
use Rattle.world_defs.specs.Acts.{Act, Happens, acted_all}
use Rattle.message_laws.specs.Examples.{one_message, ten}
use Rattle.client_laws.specs.Handed.{Handed, handed_in, waiting_in, accepted_in}

-- a message comes to port 1 of host 1, whose client polls it
abbrev pub polled_acts : List Act
polled_acts = one_message ++ Happens (Poll 1 1) ∷ []

-- the message as it is handed out
abbrev pub handed_ten : Handed
handed_ten = record { from = 0; sport = 0; prio = 0; bytes = 10 ∷ [] }

-- it waits before the poll, and is handed out by it; it is what was sent
abbrev pub MessageIsPolled : Type 0
MessageIsPolled =
    (handed_in 1 1 (new_world two_hosts) one_message ≡ [])
    × (waiting_in (port_at (node_at (acted_all (new_world two_hosts) one_message) 1) 1) ≡ handed_ten ∷ [])
    × (handed_in 1 1 (new_world two_hosts) polled_acts ≡ handed_ten ∷ [])
    × (waiting_in (port_at (node_at (acted_all (new_world two_hosts) polled_acts) 1) 1) ≡ [])
    × (accepted_in (connection 0 1 0) (new_world two_hosts) polled_acts ≡ ten ∷ [])
