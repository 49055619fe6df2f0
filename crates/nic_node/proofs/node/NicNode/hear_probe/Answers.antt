use Rattle.std.proofs.Common.{◌∙◌, sym, ap}
use Rattle.world_defs.specs.Node.{NodeState}
use Rattle.world_defs.specs.Hearing.{OfMapper, hear_body}
use Rattle.probe.specs.Body.{said}
use Rattle.nic_node.specs.Held.{HostNode, state_of}
use Rattle.nic_node.proofs.node.NicNode.hear_probe.Goals as goal

pub returns-clause-heard : goal.returns-clause-heard
returns-clause-heard c =
    let n : NodeState = state_of c.self.inside.items c.self.inside.table c.self.inside.lanes c.self.inside.ports in
    sym (ap (λ (w : HostNode). hear_body w.host w.hosts w.state (OfMapper (said c.args.body))) c.self.view_is)
    ∙ ap (λ h. hear_body c.self.inside.host h n (OfMapper (said c.args.body))) (sym c.hosts.ensures.hosts) ∙ c.hear.ensures n
