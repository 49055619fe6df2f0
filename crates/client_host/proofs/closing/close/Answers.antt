use Rattle.std.proofs.Common.{◌∙◌, sym, ap}
use Rattle.nic_node.specs.Held.{in_state}
use Rattle.client_host.proofs.Closes.{closing-closed, unminted}
use Rattle.client_host.proofs.closing.close.Goals as goal

pub returns-in-None-clause-said : goal.returns-in-None-clause-said
returns-in-None-clause-said c =
    let n = c.args.node.now in
    let x = c.args.slot.now in
    sym (ap (λ k. k.said) (closing-closed n.host n.hosts n.state c.args.port x c.requires.tied (unminted x (sym c.in-None.is ∙ c.minted_of.ensures))))

pub returns-in-None-clause-node : goal.returns-in-None-clause-node
returns-in-None-clause-node c =
    let n = c.args.node.now in
    let x = c.args.slot.now in
    ap (λ k. in_state n k.node) (sym (closing-closed n.host n.hosts n.state c.args.port x c.requires.tied (unminted x (sym c.in-None.is ∙ c.minted_of.ensures))))
