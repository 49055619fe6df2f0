use Rattle.packet_defs.specs.Crc.{crc}
use Rattle.crc_eight.proofs.Parts.{byte-added}
use Rattle.crc_eight.proofs.slices.crc_of_slice.Goals as goal

pub loop-place-preserved : goal.loop-place-preserved
loop-place-preserved c =
    byte-added c.args.slice.now c.loop-place.place c.loop-place.sum c.near_contribution-sum.result (crc c.args.slice.now)
    c.loop-place-test.true c.near_contribution-sum.ensures c.loop-place.invariant
