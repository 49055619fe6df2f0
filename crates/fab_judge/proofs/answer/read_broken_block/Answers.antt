use Rattle.fab_judge.proofs.AnswerLines.{broken-read, broken-not-read}
use Rattle.fab_judge.proofs.Steps.{read_numbered}
use Rattle.fab_judge.proofs.answer.read_broken_block.Goals as goal

pub returns-in-Ok-clause-said : goal.returns-in-Ok-clause-said
returns-in-Ok-clause-said c =
    broken-read c.args.first c.args.reader.now.past c.args.f.now c.args.reader.now.left c.read_broken.new.reader.left c.in-Ok.ensures.said

pub returns-in-Ok-clause-numbered : goal.returns-in-Ok-clause-numbered
returns-in-Ok-clause-numbered c = read_numbered c.args.reader.now c.read_broken.new.reader 0 c.in-Ok.ensures.read

pub returns-in-Err-clause-said : goal.returns-in-Err-clause-said
returns-in-Err-clause-said c =
    broken-not-read c.args.first c.args.reader.now.past c.args.f.now c.args.reader.now.left c.read_broken.new.reader.left c.in-Err.stop c.in-Err.ensures.said
