use Rattle.gm_defs.proofs.Bodies.{frame-read, ack-read}
use Rattle.gm_defs.proofs.laws.bodies_are_read.Goals as goal

pub returns-clause-frame : goal.returns-clause-frame
returns-clause-frame c = frame-read

pub returns-clause-acknowledgement : goal.returns-clause-acknowledgement
returns-clause-acknowledgement c = ack-read
