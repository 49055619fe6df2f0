use Rattle.std.proofs.Common.{◌∙◌, ap, refl, Ok}
use Rattle.judge_defs.specs.Text.{judged_text}
use Rattle.fabric_run.proofs.Judging.{right-verdict, verdict-ends, judged-nothing}
use Rattle.fabric_run.proofs.judged.judge_text.Goals as goal

pub returns-in-Ok-clause-ends : goal.returns-in-Ok-clause-ends
returns-in-Ok-clause-ends g c =
    verdict-ends c.args.text.now (judged_text c.args.text.now) _ _ _ c.write_verdict.result.status c.write_verdict.result.session
    c.in-Ok.ensures.accepted
    (λ j. c.write_verdict.ensures.ends c.args.text.now j
    (right-verdict c.args.text.now c.in-Ok.verdict c.in-Ok.ensures.yes (λ line why e. c.judge.ensures.no line why (c.in-Ok.is ∙ ap Ok e))))

pub returns-in-Err-NoMemory-clause-ends : goal.returns-in-Err-NoMemory-clause-ends
returns-in-Err-NoMemory-clause-ends g c =
    judged-nothing c.args.text.now (judged_text c.args.text.now) _ _ _ c.without_session.result.status c.without_session.result.session c.without_session.ensures.status c.without_session.ensures.none
    refl
