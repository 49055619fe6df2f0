-- The tokens from this place on are placed exactly where all are.
use Rattle.std.proofs.Common.{◌≡◌, drop}
use Rattle.port_ledgers.specs.Held.{are_placed_from}
use Rattle.port_ledgers.proofs.held.Held.are_placed_from.Given as goal

abbrev pub invariant-loop-i : goal.invariant-loop-i
invariant-loop-i l = are_placed_from l.i l.self (drop l.i l.told) ≡ are_placed_from 0 l.self l.told
