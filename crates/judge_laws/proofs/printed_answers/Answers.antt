use Rattle.judge_laws.proofs.Answering.{answer-first}
use Rattle.judge_laws.proofs.printed_answers.Goals as goal

pub returns : goal.returns
returns c = λ n k command out a past number rest is good printed. answer-first n is good k past command out a number rest printed
