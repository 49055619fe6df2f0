use Rattle.std.proofs.Common.{◌/◌, ◌%◌, [], length, get_or, arith, ap}
use Rattle.crc_eight.proofs.Parts.{slice-taken}
use Rattle.crc_eight.proofs.slices.crc_by_quads.Goals as goal

pub loop-quad-preserved : goal.loop-quad-preserved
loop-quad-preserved c =
    let bytes = c.args.bytes.now in
    let i = c.loop-quad.quad-index in
    slice-taken 4 (length bytes / 4) (length bytes % 4) bytes i [] (get_or c.as_rchunks.result.1.now i []) c.loop-quad.check c.crc_after-check.result
    (omega arith) (ap (λ l. get_or l i []) c.as_rchunks.ensures.back) (omega arith) c.loop-quad.invariant c.crc_after-check.ensures
