use Rattle.nic_node.proofs.Ticketed.{begun-of}
use Rattle.nic_node.proofs.node.NicNode.begin.Goals as goal

pub invariant_of-self : goal.invariant_of-self
invariant_of-self c = begun-of c.self.inside.host c.self.inside.table c.self.inside.lanes c.self.inside.ports c.self.invariant c.begin.result c.begin.new.self c.args.port c.args.sends c.args.recvs c.begin.ensures.refused c.begin.ensures.begun c.begin.ensures.unchanged
