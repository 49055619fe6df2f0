use Rattle.std.proofs.Common.{arith}
use Rattle.fab_script.proofs.Sizes.{size-is}
use Rattle.fab_script.proofs.plain.size_ahead.Goals as goal

pub returns-clause-ahead : goal.returns-clause-ahead
returns-clause-ahead c =
    size-is c.args.digits.now c.in_ok-size.left.now c.in_ok-within.field-0 c.in_ok-size.size c.in_ok-size.ensures.ahead c.in_ok-within.ensures.same (omega arith)
