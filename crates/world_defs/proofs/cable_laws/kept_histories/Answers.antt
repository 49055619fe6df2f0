use Rattle.world_defs.proofs.CablesKept.{pull_keeps, pull_at_keeps, plug_keeps, accept_keeps, accepted_is_old}
use Rattle.world_defs.proofs.cable_laws.kept_histories.Goals as goal

pub returns-clause-pull : goal.returns-clause-pull
returns-clause-pull c = pull_keeps

pub returns-clause-pull_at : goal.returns-clause-pull_at
returns-clause-pull_at c = pull_at_keeps

pub returns-clause-plug : goal.returns-clause-plug
returns-clause-plug c = plug_keeps

pub returns-clause-accept : goal.returns-clause-accept
returns-clause-accept c = accept_keeps

pub returns-clause-old : goal.returns-clause-old
returns-clause-old c = accepted_is_old
