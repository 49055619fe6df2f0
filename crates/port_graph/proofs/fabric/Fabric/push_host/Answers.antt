use Rattle.std.proofs.Common.{◌≡◌, None, sym, subst}
use Rattle.net_defs.specs.Network.{Network, IsFabric}
use Rattle.net_defs.specs.Building.{host_refusal}
use Rattle.net_defs.proofs.Growing.{host-taken, fabric-with_host}
use Rattle.port_graph.specs.Named.{network_of}
use Rattle.port_graph.proofs.Fabrics.{free_name, network_of-host, on_ok}
use Rattle.port_graph.proofs.fabric.Fabric.push_host.Goals as goal

pub push-requires : goal.push-requires
push-requires c =
    let old : Network = network_of c.self.inside.hosts c.self.inside.switches c.self.inside.cabling in
    let free : host_refusal old c.args.name.now ≡ None = subst (λ n. host_refusal n c.args.name.now ≡ None) (sym c.self.view_is) c.requires in
    (free_name c.self.inside.hosts c.self.inside.switches c.self.inside.cabling c.args.name.now (host-taken old c.args.name.now free).0).0

pub invariant_of-self-2 : goal.invariant_of-self-2
invariant_of-self-2 c =
    let old : Network = network_of c.self.inside.hosts c.self.inside.switches c.self.inside.cabling in
    let free : host_refusal old c.args.name.now ≡ None = subst (λ n. host_refusal n c.args.name.now ≡ None) (sym c.self.view_is) c.requires in
    subst (λ hosts. IsFabric (network_of hosts c.self.inside.switches c.self.inside.cabling)) (sym (on_ok c.push.result _ c.if-is_err.ensures.value c.push.ensures.ok))
    (subst IsFabric (sym (network_of-host c.self.inside.hosts c.self.inside.switches c.self.inside.cabling _)) (fabric-with_host old c.args.name.now c.self.invariant free))
