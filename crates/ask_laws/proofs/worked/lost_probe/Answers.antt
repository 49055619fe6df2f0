use Rattle.ask_laws.proofs.Lost.{host-can_ask, one_try-drowns, second_try-finds, pulled_ask-drowns}
use Rattle.ask_laws.proofs.worked.lost_probe.Goals as goal

pub returns-clause-can : goal.returns-clause-can
returns-clause-can c = host-can_ask

pub returns-clause-one_try : goal.returns-clause-one_try
returns-clause-one_try c = one_try-drowns

pub returns-clause-two_tries : goal.returns-clause-two_tries
returns-clause-two_tries c = second_try-finds

pub returns-clause-pulled : goal.returns-clause-pulled
returns-clause-pulled c = pulled_ask-drowns
