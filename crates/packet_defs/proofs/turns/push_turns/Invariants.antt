use Rattle.std.proofs.Common.{◌≡◌, ◌≤◌, ◌+◌, ◌-◌, ◌++◌, length, map, take}
use Rattle.std.specs.Prelude.{vec_len, vec_capacity}
use Rattle.packet_defs.specs.RouteByte.{route_byte}
use Rattle.packet_defs.proofs.turns.push_turns.Given as goal

abbrev pub invariant-loop-turn : goal.invariant-loop-turn
invariant-loop-turn l = (l.bytes.items ≡ l.initial.bytes.items ++ map route_byte (take l.turn-index l.turns))
    × (vec_len l.bytes + (length l.turns - l.turn-index) ≤ vec_capacity l.bytes)
