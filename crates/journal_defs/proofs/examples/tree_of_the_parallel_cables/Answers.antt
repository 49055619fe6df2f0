-- the rules by which one port leads to another
use Rattle.std.proofs.Common.{refl}
use Rattle.journal_defs.specs.Tree.Leads.{onward, back, out}
use Rattle.journal_defs.proofs.examples.tree_of_the_parallel_cables.Goals as goal

pub returns-clause-out_of_the_mapper : goal.returns-clause-out_of_the_mapper
returns-clause-out_of_the_mapper c = out refl

pub returns-clause-by_port_two : goal.returns-clause-by_port_two
returns-clause-by_port_two c = onward refl refl refl

pub returns-clause-back_again : goal.returns-clause-back_again
returns-clause-back_again c = back refl refl refl
