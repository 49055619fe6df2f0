use Rattle.std.proofs.Common.{◌≡◌, drop}
use Rattle.route_calc.specs.Turning.{first_exit}
use Rattle.route_calc.proofs.firsts.first_of.Given as goal

abbrev pub invariant-loop-k : goal.invariant-loop-k
invariant-loop-k l = first_exit l.far l.left l.down (drop l.k l.exits) ≡ first_exit l.far l.left l.down l.exits
