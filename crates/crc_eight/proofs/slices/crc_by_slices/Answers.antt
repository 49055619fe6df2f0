use Rattle.std.proofs.Common.{◌/◌, ◌%◌, [], length, get_or, arith, ap}
use Rattle.crc_eight.proofs.Parts.{slice-taken}
use Rattle.crc_eight.proofs.slices.crc_by_slices.Goals as goal

pub loop-slice-preserved : goal.loop-slice-preserved
loop-slice-preserved c =
    let bytes = c.args.bytes.now in
    let i = c.loop-slice.slice-index in
    slice-taken 16 (length bytes / 16) (length bytes % 16) bytes i [] (get_or c.as_rchunks.result.1.now i []) c.loop-slice.check c.crc_after-check.result
    (omega arith) (ap (λ l. get_or l i []) c.as_rchunks.ensures.back) (omega arith) c.loop-slice.invariant c.crc_after-check.ensures
