use Rattle.std.proofs.Common.{◌≤◌, length, arith, rules}
use Rattle.port_graph.specs.Named.{network_of}
use Rattle.port_graph.proofs.Possible.{few_cables}
use Rattle.port_graph.proofs.fabric.Fabric.cables.Goals as goal

pub overflow_cast-result : goal.overflow_cast-result
overflow_cast-result c =
    let few : length c.self.inside.cabling ≤ 576 = few_cables (network_of c.self.inside.hosts c.self.inside.switches c.self.inside.cabling) c.self.invariant in
    search (rules, few)

pub returns-clause-bound : goal.returns-clause-bound
returns-clause-bound c =
    let few : length c.self.inside.cabling ≤ 576 = few_cables (network_of c.self.inside.hosts c.self.inside.switches c.self.inside.cabling) c.self.invariant in
    omega arith
