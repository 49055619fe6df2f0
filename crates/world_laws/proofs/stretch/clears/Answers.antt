use Rattle.world_laws.proofs.Clearing.{clear-idle, clear-resets}
use Rattle.world_laws.proofs.Resets.{no_resets-idle}
use Rattle.world_laws.proofs.Resting.{idle-clear}
use Rattle.world_laws.proofs.stretch.clears.Goals as goal

pub returns-clause-idle : goal.returns-clause-idle
returns-clause-idle c = clear-idle

pub returns-clause-resets : goal.returns-clause-resets
returns-clause-resets c = clear-resets

pub returns-clause-nothing : goal.returns-clause-nothing
returns-clause-nothing c = idle-clear

pub returns-clause-no_resets : goal.returns-clause-no_resets
returns-clause-no_resets c = no_resets-idle
