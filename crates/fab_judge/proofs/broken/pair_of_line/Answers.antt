use Rattle.std.proofs.Common.{sym, Some, None}
use Rattle.fab_judge.proofs.PairLines.{pair-end, pair-said}
use Rattle.fab_judge.proofs.broken.pair_of_line.Goals as goal

pub returns-then-is_end_of_broken : goal.returns-then-is_end_of_broken
returns-then-is_end_of_broken c = λ left. pair-end (Some c.args.before) c.args.f.now left c.args.number c.args.line.now (sym c.if-is_end_of_broken.ensures)

pub returns-in-Some : goal.returns-in-Some
returns-in-Some c = λ left. pair-said (Some c.args.before) c.args.f.now left c.args.number c.args.line.now _ (sym c.if-is_end_of_broken.ensures) (sym c.in-Some.ensures)

pub returns-in-None : goal.returns-in-None
returns-in-None c = λ left. pair-said (Some c.args.before) c.args.f.now left c.args.number c.args.line.now None (sym c.if-is_end_of_broken.ensures) (sym c.in-None.ensures)
