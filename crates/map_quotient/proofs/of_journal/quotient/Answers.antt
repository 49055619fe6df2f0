use Rattle.replicate_merge.proofs.PlainClasses.{stands-classes}
use Rattle.map_quotient.proofs.of_journal.quotient.Goals as goal

pub merged_quotient-requires-clause-classes : goal.merged_quotient-requires-clause-classes
merged_quotient-requires-clause-classes c = stands-classes c.args.j.now.host c.args.j.now.entries c.args.c.now c.in_ok-merged.merged c.requires.stands c.in_ok-merged.ensures
