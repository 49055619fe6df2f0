use Rattle.packet_defs.proofs.RouteBytes.{turn_of-route_byte, turn_of-only}
use Rattle.packet_defs.proofs.laws.turns_of_route_bytes.Goals as goal

pub returns-clause-there_and_back : goal.returns-clause-there_and_back
returns-clause-there_and_back c = turn_of-route_byte

pub returns-clause-only : goal.returns-clause-only
returns-clause-only c = turn_of-only
