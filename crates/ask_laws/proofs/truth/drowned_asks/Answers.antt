use Rattle.ask_laws.proofs.Answering.{ask-nothing, ask-harmed}
use Rattle.ask_laws.proofs.truth.drowned_asks.Goals as goal

pub returns-clause-nothing : goal.returns-clause-nothing
returns-clause-nothing c = ask-nothing

pub returns-clause-harmed : goal.returns-clause-harmed
returns-clause-harmed c = ask-harmed
