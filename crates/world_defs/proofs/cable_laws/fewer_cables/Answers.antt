use Rattle.world_defs.proofs.Fewer.{fewer_front, reached_over_more, place_over_more}
use Rattle.world_defs.proofs.Pulled.{left_stood, pull_leaves, unplugged_stood}
use Rattle.world_defs.proofs.cable_laws.fewer_cables.Goals as goal

pub returns-clause-front : goal.returns-clause-front
returns-clause-front c = fewer_front

pub returns-clause-reached : goal.returns-clause-reached
returns-clause-reached c = reached_over_more

pub returns-clause-place : goal.returns-clause-place
returns-clause-place c = place_over_more

pub returns-clause-left : goal.returns-clause-left
returns-clause-left c = left_stood

pub returns-clause-pull : goal.returns-clause-pull
returns-clause-pull c = pull_leaves

pub returns-clause-unplugged : goal.returns-clause-unplugged
returns-clause-unplugged c = unplugged_stood
