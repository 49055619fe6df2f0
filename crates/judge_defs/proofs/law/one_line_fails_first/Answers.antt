use Rattle.judge_defs.proofs.Excluding.{text_first_once}
use Rattle.judge_defs.proofs.law.one_line_fails_first.Goals as goal

pub returns : goal.returns
returns c = λ text line other why what f g. text_first_once text line other why what f g
