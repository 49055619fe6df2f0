use Rattle.std.proofs.Common.{◌≡◌}
use Rattle.std.specs.Prelude.{All}
use Rattle.map_defs.specs.Orientation.{order_of}
use Rattle.route_calc.specs.Exits.{IsInRange, exits_below}
use Rattle.route_calc.proofs.exits.Exits.of.Given as goal

abbrev pub invariant-loop-k : goal.invariant-loop-k
invariant-loop-k l = record {
  range : All IsInRange l.list.items;
  so_far : l.list.items ≡ exits_below l.fn.m (order_of l.fn.m) l.fn.v l.k;
}
