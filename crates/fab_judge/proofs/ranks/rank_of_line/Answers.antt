use Rattle.std.proofs.Common.{sym, None}
use Rattle.fab_judge.specs.Shown.{map_in}
use Rattle.fab_judge.proofs.RankLines.{rank-end, rank-said}
use Rattle.fab_judge.proofs.ranks.rank_of_line.Goals as goal

pub returns-then-is_end_of_routes : goal.returns-then-is_end_of_routes
returns-then-is_end_of_routes c = λ left. rank-end (map_in c.args.shown.now) c.args.before left c.args.number c.args.line.now (sym c.if-is_end_of_routes.ensures)

pub returns-in-Some : goal.returns-in-Some
returns-in-Some c = λ left. rank-said (map_in c.args.shown.now) c.args.before left c.args.number c.args.line.now _ (sym c.if-is_end_of_routes.ensures) (sym c.in-Some.ensures)

pub returns-in-None : goal.returns-in-None
returns-in-None c = λ left. rank-said (map_in c.args.shown.now) c.args.before left c.args.number c.args.line.now None (sym c.if-is_end_of_routes.ensures) (sym c.in-None.ensures)
