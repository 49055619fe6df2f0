-- where replicates stand, and what follows for their offsets
use Rattle.journal_defs.proofs.Standing.{stand, offsets_are_turns, offset_is_unique, own_offset_is_zero}
use Rattle.journal_defs.proofs.laws.replicates_are_one_vertex.Goals as goal

pub returns-clause-together : goal.returns-clause-together
returns-clause-together c = stand

pub returns-clause-in_range : goal.returns-clause-in_range
returns-clause-in_range c = offsets_are_turns

pub returns-clause-unique : goal.returns-clause-unique
returns-clause-unique c = offset_is_unique

pub returns-clause-own : goal.returns-clause-own
returns-clause-own c = own_offset_is_zero
