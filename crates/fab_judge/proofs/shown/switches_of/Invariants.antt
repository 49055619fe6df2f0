use Rattle.std.proofs.Common.{take}
use Rattle.map_canon.specs.Declaring.{IsSwitchIndex}
use Rattle.fab_judge.proofs.shown.switches_of.Given as goal

abbrev pub invariant-vertices : goal.invariant-vertices
invariant-vertices l = IsSwitchIndex (take l.v l.map.vertices) l.switches.items
