-- The expiries of the hosts from here on are left.
use Rattle.std.proofs.Common.{◌-◌}
use Rattle.world_defs.specs.World.{host_count}
use Rattle.world_drain.proofs.Expiries.{ExpiringAll}
use Rattle.world_drain.proofs.rounds.expire_all.Given as goal

abbrev pub invariant-loop-host : goal.invariant-loop-host
invariant-loop-host l = ExpiringAll l.fn.w l.w l.from

abbrev pub decreases-loop-host : goal.decreases-loop-host
decreases-loop-host l = host_count l.w - l.from
