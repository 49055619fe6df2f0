use Rattle.std.proofs.Common.{◌≡◌, drop}
use Rattle.std.specs.Int.Bits.{bit_xor}
use Rattle.packet_defs.specs.Crc.{crc}
use Rattle.crc_eight.proofs.slices.crc_of_slice.Given as goal

abbrev pub invariant-loop-place : goal.invariant-loop-place
invariant-loop-place l = bit_xor l.sum (crc (drop l.place l.slice)) ≡ crc l.slice
