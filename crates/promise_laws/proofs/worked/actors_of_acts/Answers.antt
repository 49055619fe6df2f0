use Rattle.promise_laws.proofs.Working.{packet-goes_on, parts-of_adopters, replays-of_channels, pulls-of_cables}
use Rattle.promise_laws.proofs.worked.actors_of_acts.Goals as goal

pub returns-clause-goes : goal.returns-clause-goes
returns-clause-goes c = packet-goes_on

pub returns-clause-parts : goal.returns-clause-parts
returns-clause-parts c = parts-of_adopters

pub returns-clause-replays : goal.returns-clause-replays
returns-clause-replays c = replays-of_channels

pub returns-clause-pulls : goal.returns-clause-pulls
returns-clause-pulls c = pulls-of_cables
