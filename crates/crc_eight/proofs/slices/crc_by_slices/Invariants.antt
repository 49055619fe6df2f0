use Rattle.std.proofs.Common.{◌≡◌, ◌+◌, ◌*◌, ◌%◌, take, length}
use Rattle.packet_defs.specs.Crc.{crc}
use Rattle.crc_eight.proofs.slices.crc_by_slices.Given as goal

abbrev pub invariant-loop-slice : goal.invariant-loop-slice
invariant-loop-slice l = l.check ≡ crc (take (length l.fn.bytes % 16 + 16 * l.slice-index) l.fn.bytes)
