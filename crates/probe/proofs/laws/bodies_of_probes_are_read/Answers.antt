use Rattle.probe.proofs.Bodies.{probe-written}
use Rattle.probe.proofs.laws.bodies_of_probes_are_read.Goals as goal

pub returns-clause-probe : goal.returns-clause-probe
returns-clause-probe c = probe-written
