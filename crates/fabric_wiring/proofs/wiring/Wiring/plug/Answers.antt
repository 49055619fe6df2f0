use Rattle.std.proofs.Common.{rules, ◌≡◌, ◌≤◌, ◌+◌, ◌*◌, ◌∙◌, ◌∷◌, ◌++◌, [], ℕ, List, Option, Some, None, sym, ap, subst, length, set, arith, vec_len}
use Rattle.world_defs.specs.declared.wire.Wire.{Wire}
use Rattle.world_defs.specs.History.{fabric_now, may_plug}
use Rattle.world_defs.proofs.Now.{now_is_fabric}
use Rattle.port_graph.specs.Table.{place_of_end}
use Rattle.port_graph.proofs.Possible.{has_port-possible}
use Rattle.fabric_wiring.specs.declared.wiring.Entry.{Entry}
use Rattle.fabric_wiring.specs.Hops.{with_hop}
use Rattle.fabric_wiring.specs.Tables.{IsWiring, history_of, with_cable, entry_by}
use Rattle.fabric_wiring.proofs.Wirings.{length-ports}
use Rattle.fabric_wiring.proofs.Changing.{few-changes, plugged-wiring, plug-ends, hop-room, hop-size}
use Rattle.fabric_wiring.proofs.wiring.Wiring.plug.Goals as goal

pub overflow_add-self : goal.overflow_add-self
overflow_add-self c =
    let few : c.self.inside.changes ≤ 8192 = few-changes (history_of c.self.inside.first.value c.self.inside.wires.items c.self.inside.changes c.self.inside.accepted) c.self.invariant.history in
    search (rules, few)

pub entry_by-requires : goal.entry_by-requires
entry_by-requires c =
    let same = ap length c.deref.ensures.value in
    let items = ap length c.self.invariant.same_ports in
    let long = length-ports c.self.inside.first.value.switches in
    let f = now_is_fabric (history_of c.self.inside.first.value c.self.inside.wires.items c.self.inside.changes c.self.inside.accepted) c.self.invariant.history in
    let most = f.few_switches in
    omega (arith, same, items, long, most)

pub entry_by-requires-2 : goal.entry_by-requires-2
entry_by-requires-2 c =
    let same = ap length c.deref-2.ensures.value in
    let items = ap length c.self.invariant.same_ports in
    let long = length-ports c.self.inside.first.value.switches in
    let f = now_is_fabric (history_of c.self.inside.first.value c.self.inside.wires.items c.self.inside.changes c.self.inside.accepted) c.self.invariant.history in
    let most = f.few_switches in
    omega (arith, same, items, long, most)

pub put_port-requires-clause-possible : goal.put_port-requires-clause-possible
put_port-requires-clause-possible c = has_port-possible (fabric_now (history_of c.self.inside.first.value c.self.inside.wires.items c.self.inside.changes c.self.inside.accepted)) c.args.b (now_is_fabric (history_of c.self.inside.first.value c.self.inside.wires.items c.self.inside.changes c.self.inside.accepted) c.self.invariant.history) (plug-ends (history_of c.self.inside.first.value c.self.inside.wires.items c.self.inside.changes c.self.inside.accepted) c.args.a c.args.b (ap (λ h. may_plug h c.args.a c.args.b) c.self.view_is ∙ sym c.may_plug.ensures ∙ c.if-not-may_plug.false)).1

pub put_port-requires-clause-room : goal.put_port-requires-clause-room
put_port-requires-clause-room c = λ s is. hop-room (history_of c.self.inside.first.value c.self.inside.wires.items c.self.inside.changes c.self.inside.accepted) c.self.inside.out.items c.self.inside.hops.items c.args.b s (now_is_fabric (history_of c.self.inside.first.value c.self.inside.wires.items c.self.inside.changes c.self.inside.accepted) c.self.invariant.history) c.self.invariant.hopping (plug-ends (history_of c.self.inside.first.value c.self.inside.wires.items c.self.inside.changes c.self.inside.accepted) c.args.a c.args.b (ap (λ h. may_plug h c.args.a c.args.b) c.self.view_is ∙ sym c.may_plug.ensures ∙ c.if-not-may_plug.false)).1 is

pub put_port-requires-2-clause-possible : goal.put_port-requires-2-clause-possible
put_port-requires-2-clause-possible c = has_port-possible (fabric_now (history_of c.self.inside.first.value c.self.inside.wires.items c.self.inside.changes c.self.inside.accepted)) c.args.a (now_is_fabric (history_of c.self.inside.first.value c.self.inside.wires.items c.self.inside.changes c.self.inside.accepted) c.self.invariant.history) (plug-ends (history_of c.self.inside.first.value c.self.inside.wires.items c.self.inside.changes c.self.inside.accepted) c.args.a c.args.b (ap (λ h. may_plug h c.args.a c.args.b) c.self.view_is ∙ sym c.may_plug.ensures ∙ c.if-not-may_plug.false)).0

pub put_port-requires-2-clause-room : goal.put_port-requires-2-clause-room
put_port-requires-2-clause-room c = λ s is.
    let low = hop-room (history_of c.self.inside.first.value c.self.inside.wires.items c.self.inside.changes c.self.inside.accepted) c.self.inside.out.items c.self.inside.hops.items c.args.a s (now_is_fabric (history_of c.self.inside.first.value c.self.inside.wires.items c.self.inside.changes c.self.inside.accepted) c.self.invariant.history) c.self.invariant.hopping (plug-ends (history_of c.self.inside.first.value c.self.inside.wires.items c.self.inside.changes c.self.inside.accepted) c.args.a c.args.b (ap (λ h. may_plug h c.args.a c.args.b) c.self.view_is ∙ sym c.may_plug.ensures ∙ c.if-not-may_plug.false)).0 is in
    let size = ap length c.put_port.ensures.hops ∙ hop-size c.args.b.v c.args.b.p (Some (2 * c.len-k.result + 1)) c.self.inside.hops.items in
    omega (arith, low, size)

pub invariant_of-self-2 : goal.invariant_of-self-2
invariant_of-self-2 c =
    let a = c.args.a in
    let b = c.args.b in
    let n : ℕ = length c.self.inside.wires.items in
    let new : Wire = record { cable = record { a = a; b = b }; plugged = c.self.inside.changes + 1; pulled = None } in
    let long : vec_len c.self.inside.wires ≡ n = c.self.inside.wires.ok.0 in
    let number : c.len-k.result ≡ n = c.len-k.ensures ∙ c.in_ok-reserve.ensures.len ∙ long in
    let wires : c.push_reserved.new.self.items ≡ c.self.inside.wires.items ++ new ∷ [] =
    c.push_reserved.ensures.items ∙ ap (λ l. l ++ c.new_wire.result ∷ []) c.in_ok-reserve.ensures.items ∙ ap (λ w. c.self.inside.wires.items ++ w ∷ []) c.new_wire.ensures in
    let one : c.entry_by.result ≡ entry_by c.self.inside.ports.items b = c.entry_by.ensures ∙ ap (λ l. entry_by l b) c.deref.ensures.value in
    let two : c.entry_by-2.result ≡ entry_by c.self.inside.ports.items a = c.entry_by-2.ensures ∙ ap (λ l. entry_by l a) c.deref-2.ensures.value in
    let entries : c.push_reserved-3.new.self.items ≡ (c.self.inside.entries.items ++ entry_by c.self.inside.ports.items b ∷ []) ++ entry_by c.self.inside.ports.items a ∷ [] =
    c.push_reserved-3.ensures.items
    ∙ ap (λ l. l ++ c.entry_by-2.result ∷ []) (c.push_reserved-2.ensures.items ∙ ap (λ l. l ++ c.entry_by.result ∷ []) c.in_ok-reserve-2.ensures.items ∙ ap (λ e. c.self.inside.entries.items ++ e ∷ []) one)
    ∙ ap (λ e. (c.self.inside.entries.items ++ entry_by c.self.inside.ports.items b ∷ []) ++ e ∷ []) two in
    let out : c.put_port-2.new.out.items ≡ with_cable n new.cable c.self.inside.out.items =
    c.put_port-2.ensures.ports ∙ ap (λ l. set l (place_of_end a) (Some (2 * c.len-k.result))) c.put_port.ensures.ports
    ∙ ap (λ m. set (set c.self.inside.out.items (place_of_end b) (Some (2 * m + 1))) (place_of_end a) (Some (2 * m))) number in
    let hops : c.put_port-2.new.hops.items ≡ with_hop a.v a.p (Some (2 * n)) (with_hop b.v b.p (Some (2 * n + 1)) c.self.inside.hops.items) =
    c.put_port-2.ensures.hops ∙ ap (with_hop a.v a.p (Some (2 * c.len-k.result))) c.put_port.ensures.hops
    ∙ ap (λ m. with_hop a.v a.p (Some (2 * m)) (with_hop b.v b.p (Some (2 * m + 1)) c.self.inside.hops.items)) number in
    subst (λ (t : List Wire × List Entry × List (Option ℕ) × List (Option ℕ)). IsWiring (history_of c.self.inside.first.value t.0 (c.self.inside.changes + 1) c.self.inside.accepted) c.self.inside.hosts c.self.inside.ports.items t.1 t.2 t.3)
    (λ i. (sym wires i, sym entries i, sym out i, sym hops i))
    (plugged-wiring (history_of c.self.inside.first.value c.self.inside.wires.items c.self.inside.changes c.self.inside.accepted) a b c.self.inside.hosts c.self.inside.ports.items c.self.inside.entries.items c.self.inside.out.items c.self.inside.hops.items c.self.invariant (ap (λ h. may_plug h c.args.a c.args.b) c.self.view_is ∙ sym c.may_plug.ensures ∙ c.if-not-may_plug.false))
