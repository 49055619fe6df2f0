use Rattle.std.proofs.Common.{Some}
use Rattle.fab_judge.specs.Reading.{HasRead}
use Rattle.fab_judge.proofs.Next.{any-ok}
use Rattle.fab_judge.proofs.PairLines.{pair-by}
use Rattle.fab_judge.proofs.broken.next_pair.Goals as goal

pub returns-in-Ok-clause-said : goal.returns-in-Ok-clause-said
returns-in-Ok-clause-said c =
    pair-by (Some c.args.before) c.args.reader.now.past c.args.f.now c.args.reader.now.left c.next_said.new.self.left c.in-Ok.number c.in-Ok.line c.pair_of_line.result c.in-Ok.ensures.said (c.pair_of_line.ensures c.next_said.new.self.left)

pub returns-in-Ok-clause-read : goal.returns-in-Ok-clause-read
returns-in-Ok-clause-read c = any-ok c.pair_of_line.result (HasRead c.args.reader.now c.next_said.new.self 1) c.in-Ok.ensures.read
