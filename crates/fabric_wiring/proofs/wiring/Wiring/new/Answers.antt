use Rattle.std.proofs.Common.{sym, subst, ap, ◌∙◌, length, arith, ◌≡◌}
use Rattle.port_graph.proofs.Possible.{few_cables}
use Rattle.fabric_wiring.specs.Hops.{hop_table}
use Rattle.fabric_wiring.specs.Tables.{IsWiring, history_of, entries_of}
use Rattle.fabric_wiring.proofs.Wirings.{all_possible, first-wiring, length-wires}
use Rattle.fabric_wiring.proofs.wiring.Wiring.new.Goals as goal

pub entries_of-requires-clause-few : goal.entries_of-requires-clause-few
entries_of-requires-clause-few c =
    let same = ap length (c.deref-2.ensures.value ∙ c.in_ok-wires.ensures) in
    let long = length-wires c.args.f.now.cables in
    let few = few_cables c.args.f.now c.hosts-hosts.ensures.fabric in
    omega (arith, same, long, few)

pub out_table-requires : goal.out_table-requires
out_table-requires c = all_possible c.args.f.now c.hosts-hosts.ensures.fabric

pub invariant_of-result : goal.invariant_of-result
invariant_of-result c =
    let n = c.args.f.now in
    let ports = c.in_ok-ports.ports.items in
    let wires = c.in_ok-wires.wires.items in
    let entered : c.in_ok-entries.entries.items ≡ entries_of ports wires = c.in_ok-entries.ensures ∙ (λ i. entries_of (c.deref.ensures.value i) (c.deref-2.ensures.value i)) in
    subst (λ m. IsWiring (history_of m wires 0 0) c.hosts-hosts.result ports c.in_ok-entries.entries.items c.in_ok-out.out.items c.in_ok-hops.hops.items) (sym c.of.ensures)
    (first-wiring n c.hosts-hosts.result ports wires c.in_ok-entries.entries.items c.in_ok-out.out.items c.in_ok-hops.hops.items c.hosts-hosts.ensures.fabric c.hosts-hosts.ensures.count c.in_ok-ports.ensures c.in_ok-wires.ensures entered c.in_ok-out.ensures
    (c.in_ok-hops.ensures ∙ ap (λ l. hop_table l c.switches.result) c.deref-3.ensures.value ∙ ap (hop_table c.in_ok-out.out.items) c.switches.ensures.count))
