-- Ports as pairs of a vertex and a number, and the next of them.
use Rattle.std.specs.Prelude.{ℕ, ℤ, List, [], Option, Some, None, option_map, option_and_then}
use Rattle.map_defs.specs.NetMap.{NetMap, MapPort}
use Rattle.map_defs.specs.Routing.{next_port, channel_at}

-- a port by its vertex and number
abbrev pub port_of_pair : ℕ × ℤ → MapPort
port_of_pair e = record { v = e.0; p = e.1 }

-- a port, where there is one
abbrev pub unpair : Option (ℕ × ℤ) → Option MapPort
unpair e = option_map port_of_pair e

-- the next port to leave by, if there is one before
abbrev pub next_after : NetMap → Option MapPort → ℤ → Option MapPort
next_after m at turn = option_and_then (λ d. next_port m d turn) at

-- the channel that leaves by a port, if there is one
abbrev pub channels_after : NetMap → Option MapPort → List MapPort
channels_after m None = []
channels_after m (Some d) = channel_at m d
