use Rattle.std.proofs.Common.{◌≡◌}
use Rattle.route_parts.specs.Reading.{rise_from}
use Rattle.route_parts.proofs.routes.rise_from.Given as goal

abbrev pub invariant-loop-left : goal.invariant-loop-left
invariant-loop-left l = rise_from l.before l.left l.rest ≡ rise_from l.fn.before l.fn.count l.fn.bytes

abbrev pub decreases-loop-left : goal.decreases-loop-left
decreases-loop-left l = l.left
