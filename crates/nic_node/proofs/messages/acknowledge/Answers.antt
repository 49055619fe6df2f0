use Rattle.std.proofs.Common.{◌∙◌, ap, take}
use Rattle.world_defs.specs.Lane.{finished_by}
use Rattle.nic_node.specs.Messages.{finished_in}
use Rattle.nic_node.proofs.Within.{ack-within}
use Rattle.nic_node.proofs.messages.acknowledge.Goals as goal

pub returns-clause-heard : goal.returns-clause-heard
returns-clause-heard c = λ n.
    ack-within n c.args.lanes.now c.on_ack.new.self c.args.ports.now c.finish.new.ports c.args.a.now c.finished_by-finished.result
    (c.finished_by-finished.ensures ∙ ap (λ p. finished_by p.state c.args.a.now.next) c.lane-lane.ensures)
    (c.finish.ensures.finished ∙ ap (λ p. finished_in c.args.ports.now (take c.finished_by-finished.result p.state.pending)) c.lane-lane.ensures) c.on_ack.ensures
