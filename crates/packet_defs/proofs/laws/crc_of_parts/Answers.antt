use Rattle.packet_defs.proofs.Crcs.{crc-xor, crc-front, crc-push, contribution-period}
use Rattle.packet_defs.proofs.laws.crc_of_parts.Goals as goal

pub returns-clause-linear : goal.returns-clause-linear
returns-clause-linear c = crc-xor

pub returns-clause-front : goal.returns-clause-front
returns-clause-front c = crc-front

pub returns-clause-end : goal.returns-clause-end
returns-clause-end c = crc-push

pub returns-clause-period : goal.returns-clause-period
returns-clause-period c = contribution-period
