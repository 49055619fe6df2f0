use Rattle.judge_laws.proofs.Reading.{line-read}
use Rattle.judge_laws.proofs.Written.{line-first}
use Rattle.judge_laws.proofs.printed_lines.Goals as goal

pub returns-clause-read : goal.returns-clause-read
returns-clause-read c = λ n l r is good says. line-read n is good l r says

pub returns-clause-first : goal.returns-clause-first
returns-clause-first c = λ n l r number rest is good says. line-first n l r number rest is good says
