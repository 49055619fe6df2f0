use Rattle.std.proofs.Common.{sym, ap}
use Rattle.nic_node.specs.Held.{in_state}
use Rattle.client_host.proofs.Calling.{providing-closed}
use Rattle.client_host.proofs.providing.provide.Goals as goal

pub returns-in-None-clause-said : goal.returns-in-None-clause-said
returns-in-None-clause-said c = sym (ap (λ k. k.said) (providing-closed c.args.node.now.state c.args.port c.args.size c.args.prio c.args.slot.now c.in-None.is))

pub returns-in-None-clause-node : goal.returns-in-None-clause-node
returns-in-None-clause-node c = ap (λ k. in_state c.args.node.now k.node) (sym (providing-closed c.args.node.now.state c.args.port c.args.size c.args.prio c.args.slot.now c.in-None.is))
