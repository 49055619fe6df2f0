use Rattle.fab_judge.specs.Shown.{map_in}
use Rattle.fab_judge.specs.Reading.{HasRead}
use Rattle.fab_judge.proofs.Next.{any-ok}
use Rattle.fab_judge.proofs.RankLines.{rank-by}
use Rattle.fab_judge.proofs.ranks.next_rank.Goals as goal

pub returns-in-Ok-clause-said : goal.returns-in-Ok-clause-said
returns-in-Ok-clause-said c =
    rank-by (map_in c.args.shown.now) c.args.before c.args.reader.now.past c.args.f.now c.args.reader.now.left c.next_said.new.self.left c.in-Ok.number c.in-Ok.line c.rank_of_line.result c.in-Ok.ensures.said (c.rank_of_line.ensures c.next_said.new.self.left)

pub returns-in-Ok-clause-read : goal.returns-in-Ok-clause-read
returns-in-Ok-clause-read c = any-ok c.rank_of_line.result (HasRead c.args.reader.now c.next_said.new.self 1) c.in-Ok.ensures.read
