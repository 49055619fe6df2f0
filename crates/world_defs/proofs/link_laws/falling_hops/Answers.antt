use Rattle.world_defs.proofs.HopsLeft.{advance-hops, advance-still, no_hops-idle}
use Rattle.world_defs.proofs.link_laws.falling_hops.Goals as goal

pub returns-clause-lower : goal.returns-clause-lower
returns-clause-lower c = advance-hops

pub returns-clause-still : goal.returns-clause-still
returns-clause-still c = advance-still

pub returns-clause-idle : goal.returns-clause-idle
returns-clause-idle c = no_hops-idle
