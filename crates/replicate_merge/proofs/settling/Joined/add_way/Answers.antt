use Rattle.std.proofs.Common.{◌≡◌, List, ap, sym, ◌∙◌, subst, rules, SFits, to_z, of_z, w16}
use Rattle.std.specs.Prelude.{pos}
use Rattle.std.proofs.lemmas.Int.{to_z-of_z}
use Rattle.port_align.specs.declared.frame.ClassFrame.{ClassFrame}
use Rattle.port_align.specs.declared.end.NodePort.{NodePort}
use Rattle.replicate_merge.specs.declared.way.Spot.TheVariants.{Address, Port}
use Rattle.replicate_merge.specs.Ways.{begins_at}
use Rattle.replicate_merge.specs.Work.{far_end}
use Rattle.replicate_merge.specs.Adding.{AddsEnd, known_at}
use Rattle.replicate_merge.proofs.Learning.{host-far}
use Rattle.replicate_merge.proofs.settling.Joined.add_way.Goals as goal

pub returns-in-Address-clause-adds : goal.returns-in-Address-clause-adds
returns-in-Address-clause-adds c =
    let old = c.args.self.now in
    let way = c.args.way.now in
    let address = c.in-Address.address in
    let begin : begins_at old.frames.items way ≡ Address address = subst (λ (l : List ClassFrame). begins_at l way ≡ Address address) c.items.ensures (sym c.begins_at.ensures ∙ c.in-Address.is) in
    let far : record { node = c.far_end-end.result.node; port = pos 0 } ≡ far_end way = ap (λ (e : NodePort). record { node = e.node; port = pos 0 }) c.far_end-end.ensures ∙ host-far old.frames.items way address begin in
    subst (λ s. AddsEnd s (far_end way) (known_at old.hosts.items old.ends.items) (known_at c.add_host.new.hosts.items old.ends.items) old.todo.items c.add_host.new.todo.items) (sym begin)
    (subst (λ e. AddsEnd (Address address) e (known_at old.hosts.items old.ends.items) (known_at c.add_host.new.hosts.items old.ends.items) old.todo.items c.add_host.new.todo.items) far (c.add_host.ensures.adds old.ends.items))

pub returns-in-Port-clause-adds : goal.returns-in-Port-clause-adds
returns-in-Port-clause-adds c =
    let old = c.args.self.now in
    let way = c.args.way.now in
    let class = c.in-Port.class in
    let port = c.in-Port.port in
    let fits : SFits w16 port = search rules in
    let same : to_z w16 (of_z w16 port) ≡ port = to_z-of_z w16 port fits in
    let begin : begins_at old.frames.items way ≡ Port class port = subst (λ (l : List ClassFrame). begins_at l way ≡ Port class port) c.items.ensures (sym c.begins_at.ensures ∙ c.in-Port.is) in
    subst (λ s. AddsEnd s (far_end way) (known_at old.hosts.items old.ends.items) (known_at old.hosts.items c.add_end.new.ends.items) old.todo.items c.add_end.new.todo.items) (sym begin)
    (subst (λ z. AddsEnd (Port class z) (far_end way) (known_at old.hosts.items old.ends.items) (known_at old.hosts.items c.add_end.new.ends.items) old.todo.items c.add_end.new.todo.items) same
    (subst (λ e. AddsEnd (Port class (to_z w16 (of_z w16 port))) e (known_at old.hosts.items old.ends.items) (known_at old.hosts.items c.add_end.new.ends.items) old.todo.items c.add_end.new.todo.items) c.far_end-end.ensures (c.add_end.ensures.adds old.hosts.items)))
