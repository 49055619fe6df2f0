use Rattle.ask_laws.proofs.Answering.{ask-true, ask-heard}
use Rattle.ask_laws.proofs.truth.true_asks.Goals as goal

pub returns-clause-answers : goal.returns-clause-answers
returns-clause-answers c = ask-true

pub returns-clause-quiet : goal.returns-clause-quiet
returns-clause-quiet c = ask-heard
