use Rattle.std.proofs.Common.{sym, ap}
use Rattle.world_defs.specs.Step.{wanted}
use Rattle.nic_node.specs.Held.{in_state}
use Rattle.client_host.proofs.Calling.{sending-closed}
use Rattle.client_host.proofs.sending.send.Goals as goal

pub returns-in-None-clause-said : goal.returns-in-None-clause-said
returns-in-None-clause-said c = sym (ap (λ k. k.said) (sending-closed c.args.node.now.state (wanted c.args.port c.args.a.dest c.args.a.dport c.args.a.prio c.args.a.len c.args.seed) c.args.slot.now c.in-None.is))

pub returns-in-None-clause-node : goal.returns-in-None-clause-node
returns-in-None-clause-node c = ap (λ k. in_state c.args.node.now k.node) (sym (sending-closed c.args.node.now.state (wanted c.args.port c.args.a.dest c.args.a.dport c.args.a.prio c.args.a.len c.args.seed) c.args.slot.now c.in-None.is))
