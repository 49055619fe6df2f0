use Rattle.std.proofs.Common.{sym, ◌∙◌, arith}
use Rattle.fab_script.proofs.Numbers.{number-leads, number-ends, number-first}
use Rattle.fab_script.proofs.plain.next_number.Goals as goal

pub returns-then-digits-bytes-clause-ahead : goal.returns-then-digits-bytes-clause-ahead
returns-then-digits-bytes-clause-ahead c =
    number-ends c.args.bytes.now c.split_at.result.1.now c.in_ok-number.digits c.in_ok-number.number c.in_ok-number.ensures (omega arith) c.split_at.ensures.back

pub returns-then-digits-bytes-clause-numbers : goal.returns-then-digits-bytes-clause-numbers
returns-then-digits-bytes-clause-numbers c =
    number-first c.args.bytes.now c.split_at.result.1.now c.in_ok-number.number (number-ends c.args.bytes.now c.split_at.result.1.now c.in_ok-number.digits c.in_ok-number.number c.in_ok-number.ensures (omega arith) c.split_at.ensures.back)

pub returns-in-Some-clause-ahead : goal.returns-in-Some-clause-ahead
returns-in-Some-clause-ahead c =
    number-leads c.args.bytes.now c.in-Some.left.now c.in_ok-number.digits c.in_ok-number.number c.in_ok-number.ensures (sym c.split_at.ensures.back ∙ c.in-Some.ensures)

pub returns-in-Some-clause-numbers : goal.returns-in-Some-clause-numbers
returns-in-Some-clause-numbers c =
    number-first c.args.bytes.now c.in-Some.left.now c.in_ok-number.number (number-leads c.args.bytes.now c.in-Some.left.now c.in_ok-number.digits c.in_ok-number.number c.in_ok-number.ensures (sym c.split_at.ensures.back ∙ c.in-Some.ensures))
