-- The packet has gone some of its way.
use Rattle.world_defs.specs.Hops.{hops_left}
use Rattle.link_model.proofs.Runs.{Following}
use Rattle.link_model.proofs.course.follow_by.Given as goal

abbrev pub invariant-loop-next : goal.invariant-loop-next
invariant-loop-next g l = Following l.wiring l.c l.fn.packet l.packet l.hops l.at

abbrev pub decreases-loop-next : goal.decreases-loop-next
decreases-loop-next g l = hops_left l.packet
