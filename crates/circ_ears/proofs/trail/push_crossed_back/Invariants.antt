use Rattle.std.proofs.Common.{◌≡◌, ◌++◌, map, take}
use Rattle.circ_ears.specs.Trails.{crossed_back}
use Rattle.circ_ears.proofs.trail.push_crossed_back.Given as goal

abbrev pub invariant-loop-s : goal.invariant-loop-s
invariant-loop-s l = l.back.items ≡ l.fn.back.items ++ map crossed_back (take l.s-index l.steps)
