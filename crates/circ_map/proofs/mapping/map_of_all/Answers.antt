use Rattle.replicate_merge.proofs.PlainClasses.{stands-classes}
use Rattle.circ_map.proofs.mapping.map_of_all.Goals as goal

pub merged_quotient-requires-clause-classes : goal.merged_quotient-requires-clause-classes
merged_quotient-requires-clause-classes c = stands-classes c.args.found.now.host c.args.found.now.entries c.in_ok-classes.classes c.merged.result c.in_ok-classes.ensures c.merged.ensures
