use Rattle.world_defs.specs.Later.{IsLater}
use Rattle.world_commands.proofs.doing.do_cable.Goals as goal

-- no event
pub returns-in-Broken-clause-cables : goal.returns-in-Broken-clause-cables
returns-in-Broken-clause-cables c = IsLater.still
