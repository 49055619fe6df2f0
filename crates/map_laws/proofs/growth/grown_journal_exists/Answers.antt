-- the journal is made ask by ask
use Rattle.map_laws.proofs.Existence.{told_journal_exists, grown_journal_exists}
use Rattle.map_laws.proofs.growth.grown_journal_exists.Goals as goal

pub returns-clause-told : goal.returns-clause-told
returns-clause-told c = told_journal_exists

pub returns-clause-true_answers : goal.returns-clause-true_answers
returns-clause-true_answers c = grown_journal_exists
