-- the journal is full to its depth, and so it is closed
use Rattle.map_laws.proofs.Depth.{depth_suffices}
use Rattle.map_laws.proofs.growth.depth_suffices.Goals as goal

pub returns : goal.returns
returns c = depth_suffices
