use Rattle.lawful_laws.proofs.Flowing.{lawful-flows, lawful-drains, lawful-clears}
use Rattle.lawful_laws.proofs.flow.lawful_traffic.Goals as goal

pub returns-clause-flows : goal.returns-clause-flows
returns-clause-flows c = lawful-flows

pub returns-clause-drain : goal.returns-clause-drain
returns-clause-drain c = lawful-drains

pub returns-clause-clear : goal.returns-clause-clear
returns-clause-clear c = lawful-clears
