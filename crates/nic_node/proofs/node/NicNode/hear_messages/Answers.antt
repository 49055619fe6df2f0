use Rattle.std.proofs.Common.{◌∙◌, ap, arith}
use Rattle.gm_defs.specs.Body.{decode}
use Rattle.nic_node.proofs.Kept.{heard-whole, heard-of}
use Rattle.nic_node.proofs.node.NicNode.hear_messages.Goals as goal

pub invariant_of-self : goal.invariant_of-self
invariant_of-self c =
    let kept = c.hear.ensures.hosts in
    let among = c.self.invariant.among in
    record {
      own_table = c.self.invariant.own_table;
      own_lanes = c.hear.ensures.lanes_host ∙ c.self.invariant.own_lanes;
      own_ports = c.hear.ensures.ports_host ∙ c.self.invariant.own_ports;
      among = omega (arith, kept, among);
      backed =
          heard-of c.self.inside.host c.self.inside.lanes c.hear.new.lanes c.self.inside.ports c.hear.new.ports c.args.body.now (decode c.args.body.now) c.hear.result
          c.in_order.ensures.numbers c.in_order.ensures.count c.self.invariant.backed c.hear.ensures.heard c.hear.ensures.lanes c.hear.ensures.ports;
    }

pub returns-clause-heard : goal.returns-clause-heard
returns-clause-heard c =
    heard-whole c.args.self.now c.self.inside.host c.self.inside.items c.self.inside.table c.self.inside.lanes c.hear.new.lanes c.self.inside.ports c.hear.new.ports c.args.body.now (decode c.args.body.now) c.hear.result
    c.self.view_is c.hear.ensures.heard

pub returns-clause-hosts : goal.returns-clause-hosts
returns-clause-hosts c = c.hear.ensures.hosts ∙ ap (λ v. v.hosts) c.self.view_is
