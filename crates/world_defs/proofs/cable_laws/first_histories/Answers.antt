use Rattle.world_defs.proofs.First.{first_is_history, first_stands, first_channels}
use Rattle.world_defs.proofs.cable_laws.first_histories.Goals as goal

pub returns-clause-history : goal.returns-clause-history
returns-clause-history c = first_is_history

pub returns-clause-stands : goal.returns-clause-stands
returns-clause-stands c = first_stands

pub returns-clause-channels : goal.returns-clause-channels
returns-clause-channels c = first_channels
