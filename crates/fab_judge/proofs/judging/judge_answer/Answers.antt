use Rattle.std.proofs.Common.{◌+◌, ◌<◌, subst, arith}
use Rattle.answer_defs.specs.Answer.{answered}
use Rattle.answer_defs.specs.Failing.{Fails}
use Rattle.fab_judge.specs.Answers.{more_lines}
use Rattle.fab_judge.specs.Judging.{Judges, IsWithin}
use Rattle.fab_judge.proofs.judging.judge_answer.Goals as goal

pub number_at-requires : goal.number_at-requires
number_at-requires c =
    let within : c.in-Ok-Some.place < more_lines c.args.answer + 1 = subst (λ o. IsWithin o (more_lines c.args.answer)) c.in-Ok-Some.field-0-is c.in-Ok-Some.ensures.within in
    omega (arith, within, c.requires)

pub returns-in-Ok-None : goal.returns-in-Ok-None
returns-in-Ok-None c = λ before a is kept.
    subst (λ o. Judges c.args.f.now before (answered c.args.command.now a) o c.fault_of.new.past) c.in-Ok-None.field-0-is (c.in-Ok-None.ensures.judges before a is kept)

pub returns-in-Ok-Some : goal.returns-in-Ok-Some
returns-in-Ok-Some c = λ before a is kept.
    let fails : Fails c.args.f.now before c.args.command.now a c.in-Ok-Some.place c.in-Ok-Some.why =
    subst (λ o. Judges c.args.f.now before (answered c.args.command.now a) o c.fault_of.new.past) c.in-Ok-Some.field-0-is (c.in-Ok-Some.ensures.judges before a is kept) in
    (c.in-Ok-Some.place, fails, c.number_at.ensures)
