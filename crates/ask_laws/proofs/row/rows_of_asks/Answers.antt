use Rattle.ask_laws.proofs.Along.{ask-events, ask-idle}
use Rattle.ask_laws.proofs.Few.{ask-few}
use Rattle.ask_laws.proofs.row.rows_of_asks.Goals as goal

pub returns-clause-events : goal.returns-clause-events
returns-clause-events c = ask-events

pub returns-clause-idle : goal.returns-clause-idle
returns-clause-idle c = ask-idle

pub returns-clause-injections : goal.returns-clause-injections
returns-clause-injections c = ask-few
