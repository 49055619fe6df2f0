use Rattle.lawful_laws.proofs.WorkedWorlds.{stuck-reached, probes-stuck}
use Rattle.lawful_laws.proofs.worked.two_probes.Goals as goal

pub returns-clause-reached : goal.returns-clause-reached
returns-clause-reached c = stuck-reached

pub returns-clause-stuck : goal.returns-clause-stuck
returns-clause-stuck c = probes-stuck
