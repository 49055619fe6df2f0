use Rattle.std.proofs.Common.{◌≡◌, map, take, length}
use Rattle.packet_defs.specs.RouteByte.{route_byte}
use Rattle.packet_defs.proofs.turns.write_turns.Given as goal

abbrev pub invariant-loop-place : goal.invariant-loop-place
invariant-loop-place l = record {
  written : take l.place l.bytes ≡ map route_byte (take l.place l.turns);
  room : length l.bytes ≡ length l.turns;
}
