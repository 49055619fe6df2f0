-- the certificate's premises, and what it says
use Rattle.journal_defs.proofs.Grown.{two_hosts_grown}
use Rattle.map_defs.proofs.TwoHosts.{two_hosts_quotient}
use Rattle.map_laws.proofs.TwoHosts.{closed, right, moved, connected}
use Rattle.map_laws.proofs.examples.certificate_over_two_hosts.Goals as goal

pub returns-clause-grown : goal.returns-clause-grown
returns-clause-grown c = two_hosts_grown

pub returns-clause-closed : goal.returns-clause-closed
returns-clause-closed c = closed

pub returns-clause-quotient : goal.returns-clause-quotient
returns-clause-quotient c = two_hosts_quotient

pub returns-clause-right : goal.returns-clause-right
returns-clause-right c = right

pub returns-clause-moved : goal.returns-clause-moved
returns-clause-moved c = moved

pub returns-clause-connected : goal.returns-clause-connected
returns-clause-connected c = connected
