-- the list of all walks
use Rattle.journal_defs.proofs.Counted.{walks_are_counted, walks_are_few}
use Rattle.journal_defs.proofs.laws.walks_are_counted.Goals as goal

pub returns-clause-counted : goal.returns-clause-counted
returns-clause-counted c = walks_are_counted

pub returns-clause-few : goal.returns-clause-few
returns-clause-few c = walks_are_few
