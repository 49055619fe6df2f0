use Rattle.judge_defs.proofs.Excluding.{text_yes_no}
use Rattle.judge_defs.proofs.law.yes_excludes_no.Goals as goal

pub returns : goal.returns
returns c = λ text line why y f. text_yes_no text line why y f
