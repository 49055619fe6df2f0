use Rattle.std.proofs.Common.{◌≡◌, None, sym, subst}
use Rattle.net_defs.specs.Network.{Network, IsFabric}
use Rattle.net_defs.specs.Building.{switch_refusal}
use Rattle.net_defs.proofs.Growing.{switch-taken, fabric-with_switch}
use Rattle.port_graph.specs.Named.{network_of}
use Rattle.port_graph.proofs.Fabrics.{free_name, on_ok}
use Rattle.port_graph.proofs.fabric.Fabric.push_switch.Goals as goal

pub push-requires : goal.push-requires
push-requires c =
    let old : Network = network_of c.self.inside.hosts c.self.inside.switches c.self.inside.cabling in
    let free : switch_refusal old c.args.name.now c.args.ports ≡ None = subst (λ n. switch_refusal n c.args.name.now c.args.ports ≡ None) (sym c.self.view_is) c.requires in
    (free_name c.self.inside.hosts c.self.inside.switches c.self.inside.cabling c.args.name.now (switch-taken old c.args.name.now c.args.ports free).1).1

pub invariant_of-self-2 : goal.invariant_of-self-2
invariant_of-self-2 c =
    let old : Network = network_of c.self.inside.hosts c.self.inside.switches c.self.inside.cabling in
    let free : switch_refusal old c.args.name.now c.args.ports ≡ None = subst (λ n. switch_refusal n c.args.name.now c.args.ports ≡ None) (sym c.self.view_is) c.requires in
    subst (λ switches. IsFabric (network_of c.self.inside.hosts switches c.self.inside.cabling)) (sym (on_ok c.push.result _ c.if-is_err.ensures.value c.push.ensures.ok))
    (fabric-with_switch old c.args.name.now c.args.ports c.self.invariant free)
