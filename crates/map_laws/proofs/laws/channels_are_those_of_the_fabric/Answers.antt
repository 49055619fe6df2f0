-- what turns cross
use Rattle.map_laws.proofs.Channels.{channels_are_matched, channels_are_one_to_one}
use Rattle.map_laws.proofs.NoCycle.{certificate_holds_in_the_fabric}
use Rattle.map_laws.proofs.laws.channels_are_those_of_the_fabric.Goals as goal

pub returns-clause-matched : goal.returns-clause-matched
returns-clause-matched c = channels_are_matched

pub returns-clause-one_to_one : goal.returns-clause-one_to_one
returns-clause-one_to_one c = channels_are_one_to_one

pub returns-clause-no_cycle : goal.returns-clause-no_cycle
returns-clause-no_cycle c = certificate_holds_in_the_fabric
