-- The hosts from here on have yet to give up.
use Rattle.std.proofs.Common.{◌-◌}
use Rattle.world_defs.specs.World.{host_count}
use Rattle.world_drain.proofs.GivingUp.{GivingUp}
use Rattle.world_drain.proofs.giving_up.give_up_all.Given as goal

abbrev pub invariant-loop-host : goal.invariant-loop-host
invariant-loop-host l = GivingUp l.fn.w l.w l.from

abbrev pub decreases-loop-host : goal.decreases-loop-host
decreases-loop-host l = host_count l.w - l.from
