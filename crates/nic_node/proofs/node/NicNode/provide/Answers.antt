use Rattle.std.proofs.Common.{None, refl}
use Rattle.gm_defs.specs.Port.{provided_with}
use Rattle.nic_node.proofs.Ticketed.{changed-or}
use Rattle.nic_node.proofs.node.NicNode.provide.Goals as goal

pub invariant_of-self : goal.invariant_of-self
invariant_of-self c =
    changed-or c.self.inside.host c.self.inside.table c.self.inside.lanes c.self.inside.ports c.self.invariant c.provide.result c.provide.new.self c.args.port
    (λ s. provided_with s (record { token = c.args.t.number; size = c.args.size; prio = c.args.prio; filling = None; buffer = c.args.b })) (λ s. refl) c.provide.ensures.provided c.provide.ensures.unchanged
