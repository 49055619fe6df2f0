use Rattle.std.proofs.Common.{[], refl, ap}
use Rattle.answer_defs.specs.Answer.{WithBroken}
use Rattle.fab_judge.specs.Past.{known_in}
use Rattle.fab_judge.specs.Blocks.{block_by}
use Rattle.fab_judge.proofs.answer.read_block.Goals as goal

pub returns-in-NoneBroken-clause-said : goal.returns-in-NoneBroken-clause-said
returns-in-NoneBroken-clause-said c =
    let r = c.args.reader.now in
    (WithBroken [], ap (λ b. block_by b c.args.number c.args.line (known_in c.args.past.now) r.past c.args.f.now r.left) c.in-NoneBroken.is, ([], refl))
