use Rattle.map_quotient.specs.Numbering.{AreNumbersBelow}
use Rattle.map_quotient.proofs.order.numbers_below.Given as goal

abbrev pub invariant-loop-n : goal.invariant-loop-n
invariant-loop-n l = AreNumbersBelow l.n l.numbers.items
