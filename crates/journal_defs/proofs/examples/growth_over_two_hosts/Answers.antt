-- the journal of 31 entries, and its first asks
use Rattle.journal_defs.proofs.Grown.{first_ask, second_ask, third_ask, two_hosts_grown, two_hosts_closed}
use Rattle.journal_defs.proofs.examples.growth_over_two_hosts.Goals as goal

pub returns-clause-first : goal.returns-clause-first
returns-clause-first c = first_ask

pub returns-clause-second : goal.returns-clause-second
returns-clause-second c = second_ask

pub returns-clause-third : goal.returns-clause-third
returns-clause-third c = third_ask

pub returns-clause-grown : goal.returns-clause-grown
returns-clause-grown c = two_hosts_grown

pub returns-clause-closed : goal.returns-clause-closed
returns-clause-closed c = record { expanded = two_hosts_closed }
