use Rattle.nic_node.proofs.Ticketed.{expired-of}
use Rattle.nic_node.proofs.node.NicNode.expire.Goals as goal

pub invariant_of-self : goal.invariant_of-self
invariant_of-self c = expired-of c.self.inside.host c.self.inside.table c.self.inside.lanes c.expire.new.self c.self.inside.ports c.self.invariant c.args.peer c.expire.ensures
