-- One switch: where it sends a packet that entered by a port, and what is left of the packet then.
use Rattle.std.specs.Prelude.{ℕ, ℤ, List, Option, Some, None}
use Rattle.net_defs.specs.Route.{leaving_port}
use Rattle.packet_defs.specs.Packet.{front_turn, stripped}
use Rattle.world_defs.specs.declared.turned.Turned.{Turned}
use Rattle.world_defs.specs.declared.turned.Turned.TheVariants.{Out, OutOfRange, NotRoute}

-- a packet goes out by a port, where the switch has it
abbrev pub out_by : Option ℕ → Turned
out_by None = OutOfRange
out_by (Some port) = Out port

-- where a turn leads, at a switch of so many ports that was entered by a port
abbrev pub aim_of : ℕ → ℕ → Option ℤ → Turned
aim_of ports entry None = NotRoute
aim_of ports entry (Some turn) = out_by (leaving_port ports entry turn)

-- Where a switch sends a packet: by the turn of the first byte of its head, if that is a route byte.
abbrev pub aim : ℕ → ℕ → List ℕ → Turned
aim ports entry wire = aim_of ports entry (front_turn wire)

-- the packet after the switch: stripped exactly where it goes out
abbrev pub after_aim : Turned → List ℕ → List ℕ
after_aim (Out port) wire = stripped wire
after_aim OutOfRange wire = wire
after_aim NotRoute wire = wire
