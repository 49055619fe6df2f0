use Rattle.core_map.proofs.ByPaths.{outside_is_by_paths, bridges_are_by_paths}
use Rattle.core_map.proofs.laws.core_is_by_paths.Goals as goal

pub returns-clause-outside : goal.returns-clause-outside
returns-clause-outside c = outside_is_by_paths

pub returns-clause-bridges : goal.returns-clause-bridges
returns-clause-bridges c = bridges_are_by_paths
