use Rattle.std.proofs.Common.{◌<◌, map, take, eqb, ap, ◌∙◌, arith, w8, length-take-le}
use Rattle.std.proofs.lemmas.Simd.{bitmask_splat, trailing_mask_l}
use lib.Count.{count_trailing_zeros}
use lib.Lanes.{mask_l}
use Rattle.fab_text.proofs.line_end.front_len.Goals as goal

pub returns-else-ends-eq0 : goal.returns-else-ends-eq0
returns-else-ends-eq0 c =
    let front = take 16 c.args.text.now in
    let long = length-take-le 16 c.args.text.now c.requires in
    let mask = bitmask_splat w8 eqb front 16 10 long (omega arith) in
    let some : 0 < mask_l (map (λ b. eqb b 10) front) = omega (arith, mask, c.if-ends-eq0.false) in
    ap (count_trailing_zeros 64) mask ∙ trailing_mask_l (λ b. eqb b 10) 64 front (omega arith) some
