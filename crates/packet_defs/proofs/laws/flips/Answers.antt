use Rattle.packet_defs.proofs.Bursts.{flips_bits, length-flipped, flip-seen}
use Rattle.packet_defs.proofs.Masks.{flipped-masked}
use Rattle.packet_defs.proofs.Hosts.{decode-difference, decode-flipped}
use Rattle.packet_defs.proofs.laws.flips.Goals as goal

pub returns-clause-bits : goal.returns-clause-bits
returns-clause-bits c = flips_bits

pub returns-clause-same_length : goal.returns-clause-same_length
returns-clause-same_length c = length-flipped

pub returns-clause-seen : goal.returns-clause-seen
returns-clause-seen c = flip-seen

pub returns-clause-dropped : goal.returns-clause-dropped
returns-clause-dropped c = decode-flipped

pub returns-clause-two_bytes : goal.returns-clause-two_bytes
returns-clause-two_bytes c = flipped-masked

pub returns-clause-difference : goal.returns-clause-difference
returns-clause-difference c = decode-difference
