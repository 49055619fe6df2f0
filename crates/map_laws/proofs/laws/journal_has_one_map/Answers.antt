-- quotients
use Rattle.map_laws.proofs.OneMap.{quotient_is_one}
use Rattle.map_laws.proofs.Ruled.{quotient_is_map}
use Rattle.map_laws.proofs.Connected.{quotient_is_connected}
use Rattle.map_laws.proofs.laws.journal_has_one_map.Goals as goal

pub returns-clause-one : goal.returns-clause-one
returns-clause-one c = quotient_is_one

pub returns-clause-rules : goal.returns-clause-rules
returns-clause-rules c = quotient_is_map

pub returns-clause-connected : goal.returns-clause-connected
returns-clause-connected c = quotient_is_connected
