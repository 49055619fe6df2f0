use Rattle.mapping_laws.proofs.Cables.{quotient_exists}
use Rattle.mapping_laws.proofs.Closed.{closed_is_decided}
use Rattle.mapping_laws.proofs.Vertices.{least_nodes_exist}
use Rattle.mapping_laws.proofs.existence.journal_has_a_map.Goals as goal

pub returns-clause-least_nodes : goal.returns-clause-least_nodes
returns-clause-least_nodes c = least_nodes_exist

pub returns-clause-quotient : goal.returns-clause-quotient
returns-clause-quotient c = quotient_exists

pub returns-clause-closed_or_not : goal.returns-clause-closed_or_not
returns-clause-closed_or_not c = closed_is_decided
