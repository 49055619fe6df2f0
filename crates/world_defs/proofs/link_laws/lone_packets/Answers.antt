use Rattle.world_defs.proofs.LonePackets.{lone-advance, lone-place, lone-place_of_old, no_channel-place}
use Rattle.world_defs.proofs.link_laws.lone_packets.Goals as goal

pub returns-clause-advance : goal.returns-clause-advance
returns-clause-advance c = lone-advance

pub returns-clause-place : goal.returns-clause-place
returns-clause-place c = lone-place

pub returns-clause-no_channel : goal.returns-clause-no_channel
returns-clause-no_channel c = no_channel-place

pub returns-clause-unchanged : goal.returns-clause-unchanged
returns-clause-unchanged c = lone-place_of_old
