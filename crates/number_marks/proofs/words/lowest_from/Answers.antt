use Rattle.std.proofs.Common.{arith}
use Rattle.number_marks.proofs.Marking.{no-bit, lowest-bit}
use Rattle.number_marks.proofs.words.lowest_from.Goals as goal

pub returns-then-rest-eq0-clause-none : goal.returns-then-rest-eq0-clause-none
returns-then-rest-eq0-clause-none c = no-bit c.args.word c.args.from c.if-rest-eq0.true

pub returns-clause-bit : goal.returns-clause-bit
returns-clause-bit c = lowest-bit c.args.word c.args.from c.ranges.word.fits (omega arith)
