use Rattle.std.proofs.Common.{◌∙◌, sym, ap}
use Rattle.world_defs.specs.Hearing.{OfMapper, hear_body}
use Rattle.route_parts.specs.Reading.{ack_body}
use Rattle.host_items.specs.Reading.{said_of}
use Rattle.nic_node.specs.Held.{HostNode}
use Rattle.nic_node.proofs.node.NicNode.hear_said.Goals as goal

pub returns-in-Acknowledges-clause-heard : goal.returns-in-Acknowledges-clause-heard
returns-in-Acknowledges-clause-heard c =
    let v = c.args.self.now in
    ap (λ s. hear_body v.host v.hosts v.state (OfMapper (said_of s))) c.in-Acknowledges.is
    ∙ ap (λ h. hear_body v.host h v.state (OfMapper (ack_body c.in-Acknowledges.ack))) (sym (c.hosts.ensures.hosts ∙ ap (λ (w : HostNode). w.hosts) c.self.view_is))
    ∙ c.hear_ack.ensures v.host v.state
