use Rattle.std.proofs.Common.{◌≡◌, ◌++◌, length, ap, sym, ◌∙◌, arith}
use Rattle.std.specs.Prelude.{option_to_list}
use Rattle.map_defs.specs.Orientation.{order_of}
use Rattle.route_calc.specs.Exits.{exits_below}
use Rattle.route_calc.proofs.Listed.{exits-none, exits-more}
use Rattle.route_calc.proofs.Nearer.{exits-few}
use Rattle.route_calc.proofs.exits.Exits.of.Goals as goal

pub loop-k-init : goal.loop-k-init
loop-k-init c = record {
  range = λ k d l. (let none : length c.new-list.result.items ≡ 0 = ap length c.new-list.ensures.items in absurd (omega arith));
  so_far = c.new-list.ensures.items ∙ sym (exits-none c.args.m.now (order_of c.args.m.now) c.args.v);
}

pub loop-k-preserved : goal.loop-k-preserved
loop-k-preserved c =
    let m = c.args.m.now in
    let order = order_of c.args.m.now in
    record {
      range = c.push_some.ensures.range;
      so_far =
          c.in_ok-push_some.ensures.value
          ∙ ap (λ l. l ++ option_to_list c.exit_at.result) c.loop-k.invariant.so_far
          ∙ ap (λ o. exits_below m order c.args.v c.loop-k.k ++ option_to_list o) c.exit_at.ensures.value
          ∙ sym (exits-more m order c.args.v c.loop-k.k);
    }

pub invariant_of-result : goal.invariant_of-result
invariant_of-result c =
    let m = c.args.m.now in
    let order = order_of m in
    let end = c.loop-k.auto.k-end in
    let long : length c.loop-k.list.items ≡ length (exits_below m order c.args.v c.loop-k.k) = ap length c.loop-k.invariant.so_far in
    let few = exits-few m order c.args.v c.loop-k.k in
    (c.loop-k.invariant.range, omega arith)
