use Rattle.std.proofs.Common.{sym, subst}
use Rattle.net_defs.specs.Network.{Network, IsFabric, ends_of}
use Rattle.net_defs.proofs.Distinct.{all-weaker}
use Rattle.port_graph.specs.Named.{network_of}
use Rattle.port_graph.proofs.Possible.{has_port-possible}
use Rattle.port_graph.proofs.Removal.{fabric-without_cable}
use Rattle.port_graph.proofs.fabric.Fabric.remove_cable.Goals as goal

pub remove-requires-clause-possible : goal.remove-requires-clause-possible
remove-requires-clause-possible c =
    let old : Network = network_of c.self.inside.hosts c.self.inside.switches c.self.inside.cabling in
    all-weaker _ _ (ends_of c.self.inside.cabling) (λ d. has_port-possible old d c.self.invariant) c.self.invariant.cabled_ports

pub invariant_of-self : goal.invariant_of-self
invariant_of-self c =
    let old : Network = network_of c.self.inside.hosts c.self.inside.switches c.self.inside.cabling in
    subst (λ cables. IsFabric (network_of c.self.inside.hosts c.self.inside.switches cables)) (sym c.remove.ensures) (fabric-without_cable old c.args.e c.self.invariant)
