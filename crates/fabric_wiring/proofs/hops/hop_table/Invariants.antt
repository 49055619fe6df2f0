use Rattle.std.proofs.Common.{◌≡◌}
use Rattle.fabric_wiring.specs.Hops.{hop_rows}
use Rattle.fabric_wiring.proofs.hops.hop_table.Given as goal

abbrev pub invariant-loop-s : goal.invariant-loop-s
invariant-loop-s l = l.hops.items ≡ hop_rows l.out l.s
