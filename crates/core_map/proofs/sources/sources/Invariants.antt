use Rattle.core_map.specs.Walking.{AreSources}
use Rattle.core_map.proofs.sources.sources.Given as goal

abbrev pub invariant-loop-i : goal.invariant-loop-i
invariant-loop-i l = AreSources l.m l.numbers.items l.i
