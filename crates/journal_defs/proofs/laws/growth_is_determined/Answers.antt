-- the two lemmas on the next ask
use Rattle.journal_defs.proofs.Asking.{next_ask_is_unique, no_ask_at_the_end}
use Rattle.journal_defs.proofs.laws.growth_is_determined.Goals as goal

pub returns-clause-one : goal.returns-clause-one
returns-clause-one c = next_ask_is_unique

pub returns-clause-none : goal.returns-clause-none
returns-clause-none c = no_ask_at_the_end
