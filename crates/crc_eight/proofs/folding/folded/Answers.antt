use Rattle.std.proofs.Common.{◌/◌, ◌%◌, [], length, get_or, arith, ap}
use Rattle.crc_eight.proofs.Parts.{block-added}
use Rattle.crc_eight.proofs.folding.folded.Goals as goal

pub loop-block-preserved : goal.loop-block-preserved
loop-block-preserved c =
    let bytes = c.args.bytes.now in
    let i = c.loop-block.block-index in
    let long = c.add.ensures.whole in
    block-added 127 (length bytes / 127) (length bytes % 127) bytes i [] (get_or c.as_rchunks.result.1.now i []) c.loop-block.sum c.add.new.sum 8
    (omega arith) (ap (λ l. get_or l i []) c.as_rchunks.ensures.back) (omega arith) (omega arith) c.loop-block.invariant c.add.ensures.added
