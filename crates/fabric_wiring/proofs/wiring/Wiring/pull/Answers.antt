use Rattle.std.proofs.Common.{rules, ◌≡◌, ◌≤◌, ◌+◌, ◌/◌, ◌∙◌, ℕ, List, Option, Some, None, sym, ap, subst, length, set, arith}
use Rattle.std.specs.List.{slice_get, slice_set}
use Rattle.world_defs.specs.declared.wire.Wire.{Wire}
use Rattle.world_defs.specs.History.{fabric_now}
use Rattle.world_defs.specs.Crossed.{leaving}
use Rattle.world_defs.proofs.Now.{now_is_fabric}
use Rattle.world_defs.proofs.There.{ends_are_there}
use Rattle.port_graph.specs.Table.{place_of_end}
use Rattle.port_graph.proofs.Possible.{has_port-possible}
use Rattle.fabric_wiring.specs.Hops.{with_hop}
use Rattle.fabric_wiring.specs.Tables.{IsWiring, history_of, with_ends}
use Rattle.fabric_wiring.proofs.Changing.{few-changes, pulled-none, pulled-wiring, hop-room, hop-size}
use Rattle.fabric_wiring.proofs.wiring.Wiring.pull.Goals as goal

pub overflow_add-self : goal.overflow_add-self
overflow_add-self c =
    let few : c.self.inside.changes ≤ 8192 = few-changes (history_of c.self.inside.first.value c.self.inside.wires.items c.self.inside.changes c.self.inside.accepted) c.self.invariant.history in
    search (rules, few)

pub put_port-requires-clause-possible : goal.put_port-requires-clause-possible
put_port-requires-clause-possible c = has_port-possible (fabric_now (history_of c.self.inside.first.value c.self.inside.wires.items c.self.inside.changes c.self.inside.accepted)) c.wire_at-wire.result.cable.b (now_is_fabric (history_of c.self.inside.first.value c.self.inside.wires.items c.self.inside.changes c.self.inside.accepted) c.self.invariant.history) (ends_are_there (history_of c.self.inside.first.value c.self.inside.wires.items c.self.inside.changes c.self.inside.accepted) (c.in-Some.c / 2) c.wire_at-wire.result c.self.invariant.history (ap (slice_get c.self.inside.wires.items) (sym c.from.ensures) ∙ ap (λ l. slice_get l c.from.result) (sym c.deref.ensures.value) ∙ c.wire_at-wire.ensures)).1

pub put_port-requires-clause-room : goal.put_port-requires-clause-room
put_port-requires-clause-room c = λ s is. hop-room (history_of c.self.inside.first.value c.self.inside.wires.items c.self.inside.changes c.self.inside.accepted) c.self.inside.out.items c.self.inside.hops.items c.wire_at-wire.result.cable.b s (now_is_fabric (history_of c.self.inside.first.value c.self.inside.wires.items c.self.inside.changes c.self.inside.accepted) c.self.invariant.history) c.self.invariant.hopping (ends_are_there (history_of c.self.inside.first.value c.self.inside.wires.items c.self.inside.changes c.self.inside.accepted) (c.in-Some.c / 2) c.wire_at-wire.result c.self.invariant.history (ap (slice_get c.self.inside.wires.items) (sym c.from.ensures) ∙ ap (λ l. slice_get l c.from.result) (sym c.deref.ensures.value) ∙ c.wire_at-wire.ensures)).1 is

pub put_port-requires-2-clause-possible : goal.put_port-requires-2-clause-possible
put_port-requires-2-clause-possible c = has_port-possible (fabric_now (history_of c.self.inside.first.value c.self.inside.wires.items c.self.inside.changes c.self.inside.accepted)) c.wire_at-wire.result.cable.a (now_is_fabric (history_of c.self.inside.first.value c.self.inside.wires.items c.self.inside.changes c.self.inside.accepted) c.self.invariant.history) (ends_are_there (history_of c.self.inside.first.value c.self.inside.wires.items c.self.inside.changes c.self.inside.accepted) (c.in-Some.c / 2) c.wire_at-wire.result c.self.invariant.history (ap (slice_get c.self.inside.wires.items) (sym c.from.ensures) ∙ ap (λ l. slice_get l c.from.result) (sym c.deref.ensures.value) ∙ c.wire_at-wire.ensures)).0

pub put_port-requires-2-clause-room : goal.put_port-requires-2-clause-room
put_port-requires-2-clause-room c = λ s is.
    let b = c.wire_at-wire.result.cable.b in
    let low = hop-room (history_of c.self.inside.first.value c.self.inside.wires.items c.self.inside.changes c.self.inside.accepted) c.self.inside.out.items c.self.inside.hops.items c.wire_at-wire.result.cable.a s (now_is_fabric (history_of c.self.inside.first.value c.self.inside.wires.items c.self.inside.changes c.self.inside.accepted) c.self.invariant.history) c.self.invariant.hopping (ends_are_there (history_of c.self.inside.first.value c.self.inside.wires.items c.self.inside.changes c.self.inside.accepted) (c.in-Some.c / 2) c.wire_at-wire.result c.self.invariant.history (ap (slice_get c.self.inside.wires.items) (sym c.from.ensures) ∙ ap (λ l. slice_get l c.from.result) (sym c.deref.ensures.value) ∙ c.wire_at-wire.ensures)).0 is in
    let size = ap length c.put_port.ensures.hops ∙ hop-size b.v b.p None c.self.inside.hops.items in
    omega (arith, low, size)

pub invariant_of-self : goal.invariant_of-self
invariant_of-self c =
    let w : Wire = c.wire_at-wire.result in
    let k : ℕ = c.in-Some.c / 2 in
    let gone : Wire = record w { pulled = Some (c.self.inside.changes + 1) } in
    let there : slice_get c.self.inside.wires.items k ≡ Some w = ap (slice_get c.self.inside.wires.items) (sym c.from.ensures) ∙ ap (λ l. slice_get l c.from.result) (sym c.deref.ensures.value) ∙ c.wire_at-wire.ensures in
    let at : slice_get c.self.inside.wires.items c.from-2.result ≡ Some w = ap (slice_get c.self.inside.wires.items) c.from-2.ensures ∙ there in
    let wires : c.date.new.wires.items ≡ slice_set c.self.inside.wires.items k gone = c.date.ensures w at ∙ ap (λ i. slice_set c.self.inside.wires.items i gone) c.from-2.ensures in
    let out : c.put_port-2.new.out.items ≡ with_ends w.cable None None c.self.inside.out.items = c.put_port-2.ensures.ports ∙ ap (λ l. set l (place_of_end w.cable.a) None) c.put_port.ensures.ports in
    let hops : c.put_port-2.new.hops.items ≡ with_hop w.cable.a.v w.cable.a.p None (with_hop w.cable.b.v w.cable.b.p None c.self.inside.hops.items) =
    c.put_port-2.ensures.hops ∙ ap (with_hop w.cable.a.v w.cable.a.p None) c.put_port.ensures.hops in
    subst (λ (t : List Wire × List (Option ℕ) × List (Option ℕ)). IsWiring (history_of c.self.inside.first.value t.0 (c.self.inside.changes + 1) c.self.inside.accepted) c.self.inside.hosts c.self.inside.ports.items c.self.inside.entries.items t.1 t.2) (λ i. (sym wires i, sym out i, sym hops i))
    (pulled-wiring (history_of c.self.inside.first.value c.self.inside.wires.items c.self.inside.changes c.self.inside.accepted) k w c.self.invariant.history there (pulled-none (history_of c.self.inside.first.value c.self.inside.wires.items c.self.inside.changes c.self.inside.accepted) c.args.e c.in-Some.c w (ap (λ h. leaving h c.args.e) c.self.view_is ∙ sym c.in-Some.ensures.channel) there) c.self.inside.hosts c.self.inside.ports.items c.self.inside.entries.items c.self.inside.out.items c.self.inside.hops.items c.self.invariant)
