-- paths and distances
use Rattle.journal_defs.proofs.Distance.{distance_is_shortest, part_is_reached, part_is_near, hosts_are_near}
use Rattle.journal_defs.proofs.laws.distances_are_of_paths.Goals as goal

pub returns-clause-shortest : goal.returns-clause-shortest
returns-clause-shortest c = distance_is_shortest

pub returns-clause-reached : goal.returns-clause-reached
returns-clause-reached c = part_is_reached

pub returns-clause-near : goal.returns-clause-near
returns-clause-near c = part_is_near

pub returns-clause-near_a_host : goal.returns-clause-near_a_host
returns-clause-near_a_host c = hosts_are_near
