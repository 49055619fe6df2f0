-- two journals, their maps, and the host that each lacks
use Rattle.map_laws.proofs.OneCable.{lost_found, lost_grown, lost_closed, lost_quotient}
use Rattle.map_laws.proofs.Lacking.{lone_is_wrong, unexpanded_grown, unexpanded_quotient, stub_is_wrong}
use Rattle.map_laws.proofs.examples.maps_that_lack_a_host.Goals as goal

pub returns-clause-true_where_found : goal.returns-clause-true_where_found
returns-clause-true_where_found c = lost_found

pub returns-clause-lost_has_grown : goal.returns-clause-lost_has_grown
returns-clause-lost_has_grown c = lost_grown

pub returns-clause-lost_is_closed : goal.returns-clause-lost_is_closed
returns-clause-lost_is_closed c = lost_closed

pub returns-clause-lost_has_a_map : goal.returns-clause-lost_has_a_map
returns-clause-lost_has_a_map c = lost_quotient

pub returns-clause-lost_is_wrong : goal.returns-clause-lost_is_wrong
returns-clause-lost_is_wrong c = lone_is_wrong

pub returns-clause-unexpanded_has_grown : goal.returns-clause-unexpanded_has_grown
returns-clause-unexpanded_has_grown c = unexpanded_grown

pub returns-clause-unexpanded_has_a_map : goal.returns-clause-unexpanded_has_a_map
returns-clause-unexpanded_has_a_map c = unexpanded_quotient

pub returns-clause-unexpanded_is_wrong : goal.returns-clause-unexpanded_is_wrong
returns-clause-unexpanded_is_wrong c = stub_is_wrong
