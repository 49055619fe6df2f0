use Rattle.std.proofs.Common.{◌≡◌, ◌≤◌, ◌++◌, length, take, drop, option_map}
use Rattle.packet_defs.specs.RouteByte.{turns_of}
use Rattle.packet_defs.proofs.turns.read_turns.Given as goal

abbrev pub invariant-loop-at : goal.invariant-loop-at
invariant-loop-at g l = record {
  read : turns_of l.bytes ≡ option_map (λ ts. take l.at l.turns ++ ts) (turns_of (drop l.at l.bytes));
  room : length l.bytes ≤ length l.turns;
}
