use Rattle.std.proofs.Common.{◌≤◌, drop, length}
use Rattle.fabric_wiring.specs.Tables.{IsOutTable}
use Rattle.fabric_wiring.proofs.tables.out_table.Given as goal

abbrev pub invariant-loop-k : goal.invariant-loop-k
invariant-loop-k l = record {
  low : l.k ≤ length l.f.cables;
  table : IsOutTable l.k (drop l.k l.f.cables) l.out.items;
}

abbrev pub decreases-loop-k : goal.decreases-loop-k
decreases-loop-k l = l.k
