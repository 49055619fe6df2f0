use Rattle.world_defs.proofs.Kept.{step-later, step-pulled, step-cables}
use Rattle.world_laws.proofs.Shapes.{after_all-kept}
use Rattle.world_defs.proofs.CablesLater.{later-kept, later-past}
use Rattle.world_laws.proofs.shape.kept_cables.Goals as goal

pub returns-clause-later : goal.returns-clause-later
returns-clause-later c = step-later

pub returns-clause-later_after_all : goal.returns-clause-later_after_all
returns-clause-later_after_all c = λ w es. (after_all-kept w es).later

pub returns-clause-pulls : goal.returns-clause-pulls
returns-clause-pulls c = step-pulled

pub returns-clause-cables : goal.returns-clause-cables
returns-clause-cables c = step-cables

pub returns-clause-vertices : goal.returns-clause-vertices
returns-clause-vertices c = λ w e. let k = later-kept (step-later w e) in (k.hosts, k.switches)

pub returns-clause-past : goal.returns-clause-past
returns-clause-past c = λ w e past low. later-past past low (step-later w e)
