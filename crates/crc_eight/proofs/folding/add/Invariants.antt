use Rattle.std.proofs.Common.{◌≡◌}
use Rattle.crc_eight.proofs.Parts.{summed}
use Rattle.crc_eight.proofs.folding.add.Given as goal

abbrev pub invariant-loop-place : goal.invariant-loop-place
invariant-loop-place l = l.sum ≡ summed l.place l.fn.sum l.block
