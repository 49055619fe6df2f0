-- a route by the law, and the certificate of two
use Rattle.map_laws.proofs.TwoHosts.{leads, ranked, no_cycle, routes_are, right_routes}
use Rattle.map_laws.proofs.examples.route_over_two_hosts.Goals as goal

pub returns-clause-on_the_map : goal.returns-clause-on_the_map
returns-clause-on_the_map c = leads

pub returns-clause-ranked : goal.returns-clause-ranked
returns-clause-ranked c = ranked

pub returns-clause-no_cycle : goal.returns-clause-no_cycle
returns-clause-no_cycle c = no_cycle

pub returns-clause-least : goal.returns-clause-least
returns-clause-least c = routes_are

pub returns-clause-right : goal.returns-clause-right
returns-clause-right c = right_routes
