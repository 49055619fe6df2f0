use Rattle.std.proofs.Common.{◌+◌, sym, subst, Err, arith}
use Rattle.fab_judge.specs.Judging.{JudgesNext}
use Rattle.fab_judge.specs.Answers.{more_lines}
use Rattle.fab_judge.proofs.Judged.{place-numbered, next-judged, next-unread}
use Rattle.fab_judge.proofs.judging.judge_next.Goals as goal

pub judge_answer-requires : goal.judge_answer-requires
judge_answer-requires c =
    place-numbered c.args.reader.now c.read_answer.new.reader (more_lines c.in-Ok.answer + 1) (more_lines c.in-Ok.answer) c.in-Ok.ensures.numbered (omega arith)

pub returns-in-Ok : goal.returns-in-Ok
returns-in-Ok c = λ before is.
    next-judged c.args.f.now before c.args.command.now c.args.past.now c.judge_answer.new.past c.args.reader.now c.read_answer.new.reader c.in-Ok.answer (more_lines c.in-Ok.answer + 1) c.judge_answer.result
    is c.in-Ok.ensures.said c.in-Ok.ensures.numbered (λ a kept. c.judge_answer.ensures before a is kept)

pub returns-in-Err : goal.returns-in-Err
returns-in-Err c = λ before is.
    subst (λ s. JudgesNext c.args.f.now before c.args.command.now c.args.reader.now c.read_answer.new.reader c.args.past.now (Err s)) (sym c.stop_of.ensures)
    (next-unread c.args.f.now before c.args.command.now c.args.past.now c.args.past.now c.args.reader.now c.read_answer.new.reader c.in-Err.unread is c.in-Err.ensures.said)
