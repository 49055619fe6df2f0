-- The bytes that were passed are route bytes.
use Rattle.std.proofs.Common.{length, ◌-◌}
use Rattle.packet_defs.specs.RouteByte.{is_route_byte}
use Rattle.link_model.proofs.TypeBytes.{IsFront}
use Rattle.link_model.proofs.course.after_route.Given as goal

abbrev pub invariant-loop-at : goal.invariant-loop-at
invariant-loop-at l = IsFront is_route_byte l.head l.at

abbrev pub decreases-loop-at : goal.decreases-loop-at
decreases-loop-at l = length l.head - l.at
