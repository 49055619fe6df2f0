use Rattle.circ_laws.proofs.Growing.{grown_tree_is_whole}
use Rattle.circ_laws.proofs.classes.grown_trees_are_whole.Goals as goal

pub returns : goal.returns
returns c = grown_tree_is_whole
