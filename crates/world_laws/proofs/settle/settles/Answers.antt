use Rattle.world_laws.proofs.Rounds.{settle-ends, settle-bounded, clear-raises}
use Rattle.world_defs.specs.Settle.{is_last_round}
use Rattle.world_defs.specs.Logs.{rounds_both, one_round}
use Rattle.world_laws.proofs.Repeating.{repeats-one}
use Rattle.world_laws.proofs.Resting.{settled-idle}
use Rattle.world_laws.proofs.settle.settles.Goals as goal

pub returns-clause-settle : goal.returns-clause-settle
returns-clause-settle c = settle-ends

pub returns-clause-one : goal.returns-clause-one
returns-clause-one c = repeats-one rounds_both (λ before p. is_last_round before p.world) one_round

pub returns-clause-bound : goal.returns-clause-bound
returns-clause-bound c = settle-bounded

pub returns-clause-first_clear : goal.returns-clause-first_clear
returns-clause-first_clear c = clear-raises

pub returns-clause-idle : goal.returns-clause-idle
returns-clause-idle c = settled-idle
