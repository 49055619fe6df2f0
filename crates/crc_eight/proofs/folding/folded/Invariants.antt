use Rattle.std.proofs.Common.{◌≡◌, ◌+◌, ◌*◌, ◌%◌, take, length}
use Rattle.packet_defs.specs.Crc.{crc}
use Rattle.crc_eight.proofs.folding.folded.Given as goal

abbrev pub invariant-loop-block : goal.invariant-loop-block
invariant-loop-block l = crc l.sum ≡ crc (take (length l.fn.bytes % 127 + 127 * l.block-index) l.fn.bytes)
