use Rattle.world_defs.proofs.Marks.{empty-marks, stepped_all-marks}
use Rattle.world_defs.proofs.link_laws.true_marks.Goals as goal

pub returns-clause-empty : goal.returns-clause-empty
returns-clause-empty c = empty-marks

pub returns-clause-stay : goal.returns-clause-stay
returns-clause-stay c = stepped_all-marks
