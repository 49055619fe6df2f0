use Rattle.std.proofs.Common.{◌≡◌, ◌≤◌, ◌+◌, ◌-◌, ◌∙◌, ap, arith, take, drop}
use Rattle.gm_defs.proofs.Rounds.{part-of-rounds}
use Rattle.gm_defs.proofs.counting.counted_bytes.Goals as goal

pub returns : goal.returns
returns c =
    let first = c.from-first.ensures in
    let few = c.requires in
    let byte = c.ranges.first.fits in
    let count : c.from-first.result + c.args.len - c.from-first.result ≡ c.args.len = omega arith in
    let fits : c.args.first + c.args.len ≤ 65792 = omega (arith, few, byte) in
    ap (λ n. take n (drop c.from-first.result c.as_flattened.result.now)) count
    ∙ ap (λ n. take c.args.len (drop n c.as_flattened.result.now)) first
    ∙ ap (λ xs. take c.args.len (drop c.args.first xs)) c.as_flattened.ensures.value
    ∙ part-of-rounds c.args.first c.args.len fits
