use Rattle.std.proofs.Common.{◌≡◌, None, sym, subst}
use Rattle.net_defs.specs.Network.{Network, IsFabric}
use Rattle.net_defs.specs.Building.{cable_refusal}
use Rattle.net_defs.proofs.Growing.{cable-free, fabric-with_cable}
use Rattle.port_graph.specs.Named.{network_of}
use Rattle.port_graph.proofs.Fabrics.{on_ok}
use Rattle.port_graph.proofs.Possible.{has_port-possible}
use Rattle.port_graph.proofs.fabric.Fabric.push_cable.Goals as goal

pub push-requires-clause-possible_a : goal.push-requires-clause-possible_a
push-requires-clause-possible_a c =
    let old : Network = network_of c.self.inside.hosts c.self.inside.switches c.self.inside.cabling in
    let free : cable_refusal old c.args.a c.args.b ≡ None = subst (λ n. cable_refusal n c.args.a c.args.b ≡ None) (sym c.self.view_is) c.requires in
    has_port-possible old c.args.a c.self.invariant (cable-free old c.args.a c.args.b free).has_a

pub push-requires-clause-possible_b : goal.push-requires-clause-possible_b
push-requires-clause-possible_b c =
    let old : Network = network_of c.self.inside.hosts c.self.inside.switches c.self.inside.cabling in
    let free : cable_refusal old c.args.a c.args.b ≡ None = subst (λ n. cable_refusal n c.args.a c.args.b ≡ None) (sym c.self.view_is) c.requires in
    has_port-possible old c.args.b c.self.invariant (cable-free old c.args.a c.args.b free).has_b

pub invariant_of-self-2 : goal.invariant_of-self-2
invariant_of-self-2 c =
    let old : Network = network_of c.self.inside.hosts c.self.inside.switches c.self.inside.cabling in
    let free : cable_refusal old c.args.a c.args.b ≡ None = subst (λ n. cable_refusal n c.args.a c.args.b ≡ None) (sym c.self.view_is) c.requires in
    subst (λ cables. IsFabric (network_of c.self.inside.hosts c.self.inside.switches cables)) (sym (on_ok c.push.result _ c.if-is_err.ensures.value c.push.ensures.ok))
    (fabric-with_cable old c.args.a c.args.b c.self.invariant free)
