use Rattle.std.proofs.Common.{ap, sym}
use Rattle.fab_text.specs.Line.{says_nothing}
use Rattle.fab_text.proofs.Cutting.{word-begins, word-none}
use Rattle.fab_text.proofs.line.says_nothing.Goals as goal

pub bounds-line-start : goal.bounds-line-start
bounds-line-start c = (word-begins c.args.line.now c.in-Some.start c.in-Some.ensures).0

pub returns-in-Some : goal.returns-in-Some
returns-in-Some c = sym (word-begins c.args.line.now c.in-Some.start c.in-Some.ensures).1

pub returns-in-None : goal.returns-in-None
returns-in-None c = sym (ap says_nothing (word-none c.args.line.now c.in-None.ensures))
