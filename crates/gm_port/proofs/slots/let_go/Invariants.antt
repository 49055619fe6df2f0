use Rattle.std.proofs.Common.{length}
use Rattle.gm_port.specs.Table.{AreFree}
use Rattle.gm_port.proofs.slots.let_go.Given as goal

abbrev pub invariant-loop-place : goal.invariant-loop-place
invariant-loop-place l = record {
  free : AreFree l.rest.items;
}

abbrev pub decreases-loop-place : goal.decreases-loop-place
decreases-loop-place l = length l.rest.items
