use Rattle.std.proofs.Common.{◌≡◌, ◌+◌, ◌-◌, ◌∙◌, ap, true, arith, sym, subst, drop, length, refl, ℕ}
use Rattle.port_graph.specs.Table.{is_possible}
use Rattle.fabric_wiring.specs.declared.tables.TheConstants.{PLACES}
use Rattle.fabric_wiring.specs.Tables.{IsOutTable, with_cable}
use Rattle.fabric_wiring.proofs.Wirings.{out-empty, out-next, ends_got}
use Rattle.fabric_wiring.proofs.tables.out_table.Goals as goal

pub loop-k-init : goal.loop-k-init
loop-k-init c =
    let cs = c.args.f.now.cables in
    let n = length cs in
    let count = c.cables-k.ensures.count in
    record {
      low = omega (arith, count);
      table = subst (λ k. IsOutTable k (drop k cs) c.in_ok-out.out.items) (sym count) (subst (IsOutTable n (drop n cs)) (sym c.in_ok-out.ensures) (out-empty n cs PLACES refl refl));
    }

pub put_cable-requires-clause-possible_a : goal.put_cable-requires-clause-possible_a
put_cable-requires-clause-possible_a c = (ends_got (λ e. is_possible e ≡ true) c.args.f.now.cables _ c.cable.result c.requires c.cable.ensures).0

pub put_cable-requires-clause-possible_b : goal.put_cable-requires-clause-possible_b
put_cable-requires-clause-possible_b c = (ends_got (λ e. is_possible e ≡ true) c.args.f.now.cables _ c.cable.result c.requires c.cable.ensures).1

pub loop-k-preserved : goal.loop-k-preserved
loop-k-preserved c =
    let k : ℕ = c.loop-k.k - 1 in
    let cs = c.args.f.now.cables in
    let next : c.loop-k.k ≡ k + 1 = omega arith in
    let possible = ends_got (λ e. is_possible e ≡ true) cs k c.cable.result c.requires c.cable.ensures in
    record {
      low = omega arith;
      table = subst (IsOutTable k (drop k cs)) (sym (c.put_cable.ensures ∙ ap (λ j. with_cable j c.cable.result c.loop-k.out.items) c.from.ensures)) (out-next cs k c.cable.result c.loop-k.out.items c.cable.ensures possible.0 possible.1 (subst (λ n. IsOutTable n (drop n cs) c.loop-k.out.items) next c.loop-k.invariant.table));
    }
