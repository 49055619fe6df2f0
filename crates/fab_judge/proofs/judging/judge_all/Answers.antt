use Rattle.std.proofs.Common.{◌≡◌, ◌+◌, ◌∙◌, ◌∷◌, List, drop, refl, sym, ap, arith, Ok}
use Rattle.std.proofs.lemmas.Result.{err_from_is_err_and}
use Rattle.run_defs.specs.declared.command.Command.{Command}
use Rattle.fab_judge.specs.Judging.{JudgesNext}
use Rattle.fab_judge.proofs.Lists.{at-drop, past-drop}
use Rattle.fab_judge.proofs.Judged.{leads-begin, leads-on, leads-stop, leads-yes, leads-left}
use Rattle.fab_judge.proofs.judging.judge_all.Goals as goal

pub answers-init : goal.answers-init
answers-init c = record {
  leads = leads-begin c.args.f.now c.args.reader.now.past c.args.commands.now c.args.reader.now.left c.args.past.now c.requires;
  same = refl;
}

pub answers-preserved : goal.answers-preserved
answers-preserved c =
    let cs : List Command = c.args.commands.now in
    let i = c.answers.command-index in
    let now : drop i cs ≡ c.command-item.result ∷ drop (i + 1) cs = at-drop cs i c.command-item.result c.answers-test.true ∙ ap (λ k. k ∷ drop (i + 1) cs) (sym c.command-item.is) in
    let l = c.answers.invariant.leads in
    let j : JudgesNext c.args.f.now l.before c.command-item.result c.answers.reader c.judge_next.new.reader c.judge_next.new.past (Ok tt) = c.in_ok-judge_next.ensures l.before l.is_past in
    record {
      leads = leads-on c.args.f.now c.args.reader.now.past cs c.args.reader.now.left c.command-item.result (drop i cs) (drop (i + 1) cs) c.answers.reader c.judge_next.new.reader c.answers.past c.judge_next.new.past
          c.answers.invariant.same now l j;
      same = j.4 ∙ c.answers.invariant.same;
    }

pub returns-in_err-judge_next : goal.returns-in_err-judge_next
returns-in_err-judge_next c =
    let cs : List Command = c.args.commands.now in
    let i = c.answers.command-index in
    let now : drop i cs ≡ c.command-item.result ∷ drop (i + 1) cs = at-drop cs i c.command-item.result c.answers-test.true ∙ ap (λ k. k ∷ drop (i + 1) cs) (sym c.command-item.is) in
    let l = c.answers.invariant.leads in
    let p = err_from_is_err_and c.from_residual.result c.from_residual.ensures.1 in
    rw (p.1, p.2)
    (leads-stop c.args.f.now c.args.reader.now.past cs c.args.reader.now.left c.command-item.result (drop i cs) (drop (i + 1) cs) c.answers.reader c.judge_next.new.reader c.answers.past c.judge_next.new.past c.in_err-judge_next.field-0.0
    c.answers.invariant.same now l (c.in_err-judge_next.ensures l.before l.is_past))

pub returns-in-Some : goal.returns-in-Some
returns-in-Some c =
    leads-left c.args.f.now c.args.reader.now.past c.args.commands.now (drop c.answers.command-index c.args.commands.now) c.args.reader.now.left c.answers.reader.left c.answers.past c.in-Some.line
    c.answers.invariant.leads (past-drop c.args.commands.now c.answers.command-index (omega arith)) (sym c.in-Some.ensures)

pub returns-in-None : goal.returns-in-None
returns-in-None c =
    leads-yes c.args.f.now c.args.reader.now.past c.args.commands.now (drop c.answers.command-index c.args.commands.now) c.args.reader.now.left c.answers.reader.left c.answers.past
    c.answers.invariant.leads (past-drop c.args.commands.now c.answers.command-index (omega arith)) (sym c.in-None.ensures)
