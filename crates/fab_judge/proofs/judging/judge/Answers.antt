use Rattle.std.proofs.Common.{subst}
use Rattle.judge_defs.specs.Text.{judged_text}
use Rattle.fab_judge.specs.Verdicts.{GivesVerdict}
use Rattle.fab_judge.proofs.Texts.{verdict-no, verdict-accepted}
use Rattle.fab_judge.proofs.Verdicts.{verdict-yes, verdict-named}
use Rattle.fab_judge.proofs.judging.judge.Goals as goal

pub returns-clause-yes : goal.returns-clause-yes
returns-clause-yes c = verdict-yes c.args.text.now c.judge_text.result c.judge_text.ensures.verdict

pub returns-clause-no : goal.returns-clause-no
returns-clause-no c = λ line why e. verdict-no c.args.text.now c.judge_text.result line why c.judge_text.ensures.verdict e

pub returns-clause-accepted : goal.returns-clause-accepted
returns-clause-accepted c = verdict-accepted c.args.text.now c.judge_text.result c.judge_text.ensures.verdict

pub returns-clause-fault : goal.returns-clause-fault
returns-clause-fault c = λ line kind e. subst (λ r. GivesVerdict (judged_text c.args.text.now) r) e c.judge_text.ensures.verdict

pub returns-clause-first : goal.returns-clause-first
returns-clause-first c = λ line why f. verdict-named c.args.text.now c.judge_text.result line why c.judge_text.ensures.verdict f
