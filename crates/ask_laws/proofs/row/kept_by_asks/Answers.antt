use Rattle.ask_laws.proofs.Answering.{ask-keeps, ask-again}
use Rattle.ask_laws.proofs.row.kept_by_asks.Goals as goal

pub returns-clause-kept : goal.returns-clause-kept
returns-clause-kept c = ask-keeps

pub returns-clause-again : goal.returns-clause-again
returns-clause-again c = ask-again
