use Rattle.nic_node.proofs.Ticketed.{closed-of}
use Rattle.nic_node.proofs.node.NicNode.close.Goals as goal

pub invariant_of-self : goal.invariant_of-self
invariant_of-self c = closed-of c.self.inside.host c.self.inside.table c.self.inside.lanes c.self.inside.ports c.self.invariant c.close.result c.close.new.self c.args.port c.close.ensures.refused c.close.ensures.closed c.close.ensures.unchanged
