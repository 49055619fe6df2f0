use Rattle.world_defs.proofs.Pulled.{pull_keeps_past, plug_keeps_past}
use Rattle.world_defs.proofs.Now.{last_is_now}
use Rattle.world_defs.proofs.cable_laws.the_past.Goals as goal

pub returns-clause-pull : goal.returns-clause-pull
returns-clause-pull c = pull_keeps_past

pub returns-clause-plug : goal.returns-clause-plug
returns-clause-plug c = plug_keeps_past

pub returns-clause-last : goal.returns-clause-last
returns-clause-last c = last_is_now
