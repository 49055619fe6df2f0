-- one journal begins with the other, and neither goes on
use Rattle.map_laws.proofs.OneJournal.{told_journal_is_one, grown_journal_is_one}
use Rattle.map_laws.proofs.growth.grown_journal_is_one.Goals as goal

pub returns-clause-told : goal.returns-clause-told
returns-clause-told c = told_journal_is_one

pub returns-clause-true_answers : goal.returns-clause-true_answers
returns-clause-true_answers c = grown_journal_is_one
