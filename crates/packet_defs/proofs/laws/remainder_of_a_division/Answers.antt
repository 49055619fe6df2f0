use Rattle.packet_defs.proofs.Remainders.{remainder-is_one, remainder-is_only}
use Rattle.packet_defs.proofs.laws.remainder_of_a_division.Goals as goal

pub returns-clause-left : goal.returns-clause-left
returns-clause-left c = remainder-is_one

pub returns-clause-unique : goal.returns-clause-unique
returns-clause-unique c = remainder-is_only
