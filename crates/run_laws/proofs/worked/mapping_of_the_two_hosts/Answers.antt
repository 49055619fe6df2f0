use Rattle.run_laws.proofs.OneMapping.{mapping_is_complete}
use Rattle.run_laws.proofs.OneRun.{maps_are_right}
use Rattle.run_laws.proofs.worked.mapping_of_the_two_hosts.Goals as goal

pub returns-clause-complete : goal.returns-clause-complete
returns-clause-complete c = mapping_is_complete

pub returns-clause-right : goal.returns-clause-right
returns-clause-right c = maps_are_right
