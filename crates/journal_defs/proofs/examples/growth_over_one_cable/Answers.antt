-- the journal of one entry
use Rattle.journal_defs.proofs.Grown.{one_cable_grown}
use Rattle.journal_defs.proofs.examples.growth_over_one_cable.Goals as goal

pub returns-clause-grown : goal.returns-clause-grown
returns-clause-grown c = one_cable_grown
