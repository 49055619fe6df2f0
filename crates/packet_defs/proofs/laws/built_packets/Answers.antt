use Rattle.packet_defs.proofs.Packets.{packet_of-difference, packet_of-front, packet_of-stripped}
use Rattle.packet_defs.proofs.Hosts.{decode-packet_of}
use Rattle.packet_defs.proofs.laws.built_packets.Goals as goal

pub returns-clause-sound : goal.returns-clause-sound
returns-clause-sound c = packet_of-difference

pub returns-clause-next : goal.returns-clause-next
returns-clause-next c = packet_of-front

pub returns-clause-others : goal.returns-clause-others
returns-clause-others c = packet_of-stripped

pub returns-clause-taken : goal.returns-clause-taken
returns-clause-taken c = decode-packet_of
