use Rattle.std.proofs.Common.{◌+◌, arith}
use Rattle.fab_text.proofs.Digits.{value-more, too_large}
use Rattle.report_lines.proofs.word.value_within.Goals as goal

pub returns-then-value-from-clause-value : goal.returns-then-value-from-clause-value
returns-then-value-from-clause-value c =
    let more = value-more c.args.digits.now c.loop-digit.digit-index c.loop-digit-test.true c.requires in
    rw (too_large c.args.digits.now (c.loop-digit.digit-index + 1) c.args.most (omega (arith, more)))

pub loop-digit-preserved : goal.loop-digit-preserved
loop-digit-preserved c =
    let more = value-more c.args.digits.now c.loop-digit.digit-index c.loop-digit-test.true c.requires in
    record { value = omega (arith, more); within = omega arith }
