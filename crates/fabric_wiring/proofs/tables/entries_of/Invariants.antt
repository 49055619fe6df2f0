use Rattle.std.proofs.Common.{◌≡◌, take}
use Rattle.fabric_wiring.specs.Tables.{entries_of}
use Rattle.fabric_wiring.proofs.tables.entries_of.Given as goal

abbrev pub invariant-loop-k : goal.invariant-loop-k
invariant-loop-k l = l.entries.items ≡ entries_of l.ports (take l.k l.wires)
