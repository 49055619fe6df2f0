use Rattle.std.proofs.Common.{◌≡◌, take}
use Rattle.replicate_merge.specs.Table.{StandsFor}
use Rattle.worked_tables.proofs.comparing.go_on.Given as goal

abbrev pub invariant-loop-e : goal.invariant-loop-e
invariant-loop-e l = record {
  stands : StandsFor l.j.host (take l.e-index l.entries) l.classes;
  so_far : l.journal ≡ record { host = l.j.host; entries = take l.e-index l.entries };
}
