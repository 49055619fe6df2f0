use Rattle.std.proofs.Common.{◌≡◌, false, drop}
use Rattle.route_calc.specs.Lowering.{nearest_after}
use Rattle.route_calc.proofs.distances.nearest_at_all.Given as goal

abbrev pub invariant-loop-exit : goal.invariant-loop-exit
invariant-loop-exit l = nearest_after l.far false l.least (drop l.exit-index l.exits) ≡ nearest_after l.far false 255 l.exits
