use Rattle.world_defs.specs.Logs.{moved_both, is_last_pass, round_pass}
use Rattle.world_laws.proofs.Passes.{round-ends}
use Rattle.world_laws.proofs.Repeating.{repeats-one}
use Rattle.world_laws.proofs.settle.rounds_of_passes.Goals as goal

pub returns-clause-round : goal.returns-clause-round
returns-clause-round c = round-ends

pub returns-clause-one : goal.returns-clause-one
returns-clause-one c = repeats-one moved_both is_last_pass round_pass
