use Rattle.std.proofs.Common.{◌≡◌, ◌+◌, ◌*◌, ◌%◌, take, length}
use Rattle.packet_defs.specs.Crc.{crc}
use Rattle.crc_eight.proofs.slices.crc_by_quads.Given as goal

abbrev pub invariant-loop-quad : goal.invariant-loop-quad
invariant-loop-quad l = l.check ≡ crc (take (length l.fn.bytes % 4 + 4 * l.quad-index) l.fn.bytes)
