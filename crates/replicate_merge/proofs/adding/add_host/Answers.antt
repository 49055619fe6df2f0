use Rattle.std.proofs.Common.{◌≡◌, List, refl, ap, sym, ◌∙◌, subst, Some, None}
use Rattle.std.specs.Prelude.{pos}
use Rattle.replicate_merge.specs.declared.meeting.HostNode.{HostNode}
use Rattle.replicate_merge.specs.declared.way.Spot.TheVariants.{Address}
use Rattle.replicate_merge.specs.Work.{LearnsEnd}
use Rattle.replicate_merge.specs.Adding.{host_end, known_at, node_of_host}
use Rattle.replicate_merge.specs.Adding.AddsEnd.{is_learnt, is_met}
use Rattle.replicate_merge.proofs.Learning.{host-learnt}
use Rattle.replicate_merge.proofs.adding.add_host.Goals as goal

pub returns-in-None-clause-adds : goal.returns-in-None-clause-adds
returns-in-None-clause-adds c = λ ends.
    let hosts = c.args.hosts.now.items in
    let none : node_of_host hosts c.args.address ≡ None = subst (λ (l : List HostNode). node_of_host l c.args.address ≡ None) c.deref.ensures.value (sym c.node_of_host.ensures ∙ c.in-None.is) in
    is_learnt (subst (λ (l : List HostNode). LearnsEnd (known_at hosts ends) (known_at l ends) (Address c.args.address) (record { node = c.args.node; port = pos 0 })) (sym c.push_reserved.ensures.items) (host-learnt hosts ends c.args.address c.args.node none)) refl

pub returns-in-Some-clause-adds : goal.returns-in-Some-clause-adds
returns-in-Some-clause-adds c = λ ends.
    let there : node_of_host c.args.hosts.now.items c.args.address ≡ Some c.in-Some.known = subst (λ (l : List HostNode). node_of_host l c.args.address ≡ Some c.in-Some.known) c.deref.ensures.value (sym c.node_of_host.ensures ∙ c.in-Some.is) in
    is_met (record { node = c.in-Some.known; port = pos 0 }) (ap host_end there) (λ s. refl) c.push_reserved-in-Some.ensures.items
