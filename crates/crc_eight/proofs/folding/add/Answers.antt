use Rattle.std.proofs.Common.{◌≡◌, length, get_or, set, arith, ap, ◌∙◌}
use Rattle.std.specs.Int.Bits.{bit_xor}
use Rattle.crc_eight.proofs.Parts.{summed, summed-more, summed-all}
use Rattle.crc_eight.proofs.folding.add.Goals as goal

pub loop-place-preserved : goal.loop-place-preserved
loop-place-preserved c =
    let i = c.loop-place.place in
    let block = c.args.block.now in
    ap (λ s. set s i (bit_xor (get_or s i 0) (get_or block i 0))) c.loop-place.invariant ∙ summed-more i c.args.sum.now block (omega arith) (omega arith)

pub returns-clause-added : goal.returns-clause-added
returns-clause-added c =
    let block = c.args.block.now in
    let end : c.loop-place.place ≡ length c.args.sum.now = omega arith in
    c.loop-place.invariant ∙ ap (λ n. summed n c.args.sum.now block) end ∙ summed-all c.args.sum.now block (omega arith)
