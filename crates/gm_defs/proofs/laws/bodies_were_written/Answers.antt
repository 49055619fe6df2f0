use Rattle.gm_defs.proofs.Bodies.{frame-written, ack-written}
use Rattle.gm_defs.proofs.laws.bodies_were_written.Goals as goal

pub returns-clause-frame : goal.returns-clause-frame
returns-clause-frame c = frame-written

pub returns-clause-acknowledgement : goal.returns-clause-acknowledgement
returns-clause-acknowledgement c = ack-written
