use Rattle.std.proofs.Common.{◌∙◌, None, sym, ap}
use Rattle.std.specs.Prelude.{is_some}
use Rattle.world_defs.specs.Node.{owed_on, due_on}
use Rattle.host_items.specs.Held.{first_of}
use Rattle.nic_node.specs.Held.{HostNode}
use Rattle.nic_node.specs.Sending.{items_in}
use Rattle.nic_node.proofs.First.{send-item, send-answer, send-fragment}
use Rattle.nic_node.proofs.node.NicNode.next_send.Goals as goal

pub returns-then-has_staged-clause-first : goal.returns-then-has_staged-clause-first
returns-then-has_staged-clause-first c =
    send-item c.args.self.now.host c.args.self.now.state
    (ap (λ (w : HostNode). is_some (first_of (items_in w.state))) (sym c.self.view_is) ∙ sym c.has_staged.ensures.first ∙ c.if-has_staged.true)

pub returns-in-Some-clause-first : goal.returns-in-Some-clause-first
returns-in-Some-clause-first c =
    send-answer c.args.self.now.host c.args.self.now.state (owed_on c.args.self.now.state c.in-Some.lane)
    (ap (λ (w : HostNode). is_some (first_of (items_in w.state))) (sym c.self.view_is) ∙ sym c.has_staged.ensures.first ∙ c.if-has_staged.false)
    c.in-Some.ensures.first c.in-Some.ensures.there

pub returns-in-Some-next_fragment-clause-first : goal.returns-in-Some-next_fragment-clause-first
returns-in-Some-next_fragment-clause-first c =
    send-fragment c.args.self.now.host c.args.self.now.state (due_on c.args.self.now.host c.args.self.now.state c.in-Some-next_fragment.lane)
    (ap (λ (w : HostNode). is_some (first_of (items_in w.state))) (sym c.self.view_is) ∙ sym c.has_staged.ensures.first ∙ c.if-has_staged.false)
    c.in-None.ensures.first c.in-Some-next_fragment.ensures.first

pub returns-in-None-next_fragment-clause-first : goal.returns-in-None-next_fragment-clause-first
returns-in-None-next_fragment-clause-first c =
    send-fragment c.args.self.now.host c.args.self.now.state None
    (ap (λ (w : HostNode). is_some (first_of (items_in w.state))) (sym c.self.view_is) ∙ sym c.has_staged.ensures.first ∙ c.if-has_staged.false)
    c.in-None.ensures.first c.in-None-next_fragment.ensures.first
