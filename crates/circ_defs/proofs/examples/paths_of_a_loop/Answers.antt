use Rattle.circ_defs.proofs.Loop.{loop_paths}
use Rattle.circ_defs.proofs.examples.paths_of_a_loop.Goals as goal

pub returns-clause-paths : goal.returns-clause-paths
returns-clause-paths c = loop_paths
