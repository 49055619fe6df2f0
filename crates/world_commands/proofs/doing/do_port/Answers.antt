use Rattle.world_defs.specs.Later.{IsLater}
use Rattle.world_commands.proofs.doing.do_port.Goals as goal

-- no event
pub returns-in-Tokens-clause-cables : goal.returns-in-Tokens-clause-cables
returns-in-Tokens-clause-cables c = IsLater.still
