-- the certificate's premises, and what it says
use Rattle.std.proofs.Common.{refl}
use Rattle.journal_defs.proofs.Grown.{one_cable_grown}
use Rattle.journal_defs.specs.Fabrics.{one_cable}
use Rattle.journal_defs.specs.Examples.{one_cable_journal}
use Rattle.map_laws.proofs.Shallow.{one_cable_fabric, one_cable_true}
use Rattle.map_laws.proofs.Truly.{true-where}
use Rattle.map_laws.specs.Examples.{one_cable_map}
use Rattle.map_laws.proofs.OneCable.{one_cable_closed, one_cable_quotient}
use Rattle.map_laws.proofs.Assembly.{closed_map_is_right}
use Rattle.map_laws.proofs.Ruled.{quotient_is_map}
use Rattle.map_laws.proofs.Size.{right_map_is_no_larger}
use Rattle.map_laws.proofs.examples.certificate_over_one_cable.Goals as goal

pub returns-clause-grown : goal.returns-clause-grown
returns-clause-grown c = one_cable_grown

pub returns-clause-closed : goal.returns-clause-closed
returns-clause-closed c = one_cable_closed

pub returns-clause-quotient : goal.returns-clause-quotient
returns-clause-quotient c = one_cable_quotient

pub returns-clause-right : goal.returns-clause-right
returns-clause-right c = closed_map_is_right one_cable 0 1 one_cable_journal one_cable_map one_cable_fabric one_cable_true one_cable_grown one_cable_closed one_cable_quotient

pub returns-clause-rules : goal.returns-clause-rules
returns-clause-rules c = quotient_is_map one_cable 0 one_cable_journal one_cable_map one_cable_fabric (true-where one_cable 0 one_cable_journal one_cable_true) one_cable_quotient

pub returns-clause-no_larger : goal.returns-clause-no_larger
returns-clause-no_larger c =
    right_map_is_no_larger one_cable 0 one_cable_map one_cable_fabric refl (closed_map_is_right one_cable 0 1 one_cable_journal one_cable_map one_cable_fabric one_cable_true one_cable_grown one_cable_closed one_cable_quotient)
