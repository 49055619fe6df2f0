use Rattle.std.proofs.Common.{◌≤◌, length, rules}
use Rattle.map_defs.specs.Orientation.{order_of}
use Rattle.route_calc.proofs.Numbered.{numbered-more, numbered-all}
use Rattle.route_calc.proofs.numbering.are_numbered.Goals as goal

pub loop-v-preserved : goal.loop-v-preserved
loop-v-preserved c =
    let m = c.args.m.now in
    numbered-more m (order_of m) c.loop-v.v c.loop-v.invariant (c.is_numbered.ensures c.if-not-is_numbered.false)

pub returns : goal.returns
returns c e =
    let m = c.args.m.now in
    let past : length m.vertices ≤ c.loop-v.v = search rules in
    numbered-all m (order_of m) c.loop-v.v past c.loop-v.invariant
