use Rattle.map_making.proofs.CircuitLinks.{mapped-hosts}
use Rattle.map_making.proofs.circuits.make_circuit.Goals as goal

pub returns-clause-hosts : goal.returns-clause-hosts
returns-clause-hosts c = mapped-hosts c.args.f.now c.args.host c.args.depth c.new-p.result c.map_circuit.result c.hosts-count.ensures.fabric c.requires.there c.new-p.ensures c.map_circuit.ensures.mapped
