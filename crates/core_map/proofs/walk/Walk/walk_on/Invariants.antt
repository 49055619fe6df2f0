-- The walk so far, grown from the one at the start.
use Rattle.core_map.specs.Walking.{IsWalk, HasGrown, weight}
use Rattle.core_map.proofs.walk.Walk.walk_on.Given as goal

abbrev pub invariant-walking : goal.invariant-walking
invariant-walking l = record {
  walk : IsWalk l.m l.self;
  grown : HasGrown l.initial.self l.self;
}

abbrev pub decreases-walking : goal.decreases-walking
decreases-walking l = weight l.m l.self
