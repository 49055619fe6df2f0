use Rattle.world_defs.proofs.ForLife.{leaving_has_its_end, standing_leaves, ends_are_for_life}
use Rattle.world_defs.proofs.There.{ends_are_there}
use Rattle.world_defs.proofs.cable_laws.ends_for_life.Goals as goal

pub returns-clause-leaving : goal.returns-clause-leaving
returns-clause-leaving c = leaving_has_its_end

pub returns-clause-standing : goal.returns-clause-standing
returns-clause-standing c = standing_leaves

pub returns-clause-ends : goal.returns-clause-ends
returns-clause-ends c = ends_are_for_life

pub returns-clause-there : goal.returns-clause-there
returns-clause-there c = ends_are_there
