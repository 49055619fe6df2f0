use Rattle.std.proofs.Common.{◌≡◌, ◌<◌, ◌++◌}
use Rattle.net_defs.specs.Turn.{IsTurn}
use Rattle.route_calc.specs.Far.{far_at}
use Rattle.route_calc.specs.Turning.{turns_on}
use Rattle.route_calc.proofs.ways.Ways.turns.Given as goal

abbrev pub invariant-loop-left : goal.invariant-loop-left
invariant-loop-left l = record {
  port : IsTurn l.at.port;
  distance : far_at l.fn.self.far l.at.v l.at.down ≡ l.left;
  few : l.left < 255;
  so_far : l.turns.items ++ turns_on l.fn.exits l.fn.self.far l.left l.at ≡ turns_on l.fn.exits l.fn.self.far l.fn.count l.fn.start;
}

abbrev pub decreases-loop-left : goal.decreases-loop-left
decreases-loop-left l = l.left
