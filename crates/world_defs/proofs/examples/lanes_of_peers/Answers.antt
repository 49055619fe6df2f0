use Rattle.world_defs.proofs.Lanes.{lane_of-parts, peer_of-lane}
use Rattle.world_defs.proofs.examples.lanes_of_peers.Goals as goal

pub returns-clause-lane : goal.returns-clause-lane
returns-clause-lane c = lane_of-parts

pub returns-clause-one_peer : goal.returns-clause-one_peer
returns-clause-one_peer c = peer_of-lane
