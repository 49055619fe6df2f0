use Rattle.world_defs.specs.Later.{IsLater}
use Rattle.world_commands.proofs.doing.do_one.Goals as goal

-- no event
pub returns-in-Finish-clause-cables : goal.returns-in-Finish-clause-cables
returns-in-Finish-clause-cables c = IsLater.still
