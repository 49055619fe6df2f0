use Rattle.judge_laws.proofs.Commanded.{commands_are_answered}
use Rattle.judge_laws.proofs.answered_commands.Goals as goal

pub returns : goal.returns
returns c = commands_are_answered
