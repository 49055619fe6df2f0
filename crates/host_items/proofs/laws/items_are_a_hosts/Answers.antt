use Rattle.host_items.proofs.Hosts.{first-sent, sent-after, none-given}
use Rattle.host_items.proofs.laws.items_are_a_hosts.Goals as goal

pub returns-clause-first : goal.returns-clause-first
returns-clause-first c = first-sent

pub returns-clause-sent : goal.returns-clause-sent
returns-clause-sent c = sent-after

pub returns-clause-none : goal.returns-clause-none
returns-clause-none c = none-given
