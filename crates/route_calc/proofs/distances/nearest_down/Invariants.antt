use Rattle.std.proofs.Common.{◌≡◌, true, drop}
use Rattle.route_calc.specs.Lowering.{nearest_after}
use Rattle.route_calc.proofs.distances.nearest_down.Given as goal

abbrev pub invariant-loop-exit : goal.invariant-loop-exit
invariant-loop-exit l = nearest_after l.far true l.least (drop l.exit-index l.exits) ≡ nearest_after l.far true 255 l.exits
