use Rattle.world_laws.proofs.Resets.{never_stuck-resets}
use Rattle.world_laws.proofs.row.resets_of_settles.Goals as goal

pub returns : goal.returns
returns c = never_stuck-resets
