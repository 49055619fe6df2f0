-- The injections so far, and those of the hosts from here on, are all of them.
use Rattle.std.proofs.Common.{◌-◌}
use Rattle.world_defs.specs.World.{host_count}
use Rattle.world_drain.proofs.Injects.{Injecting}
use Rattle.world_drain.proofs.passes.inject_all.Given as goal

abbrev pub invariant-loop-host : goal.invariant-loop-host
invariant-loop-host l = Injecting l.fn.w l.w l.from l.moved

abbrev pub decreases-loop-host : goal.decreases-loop-host
decreases-loop-host l = host_count l.w - l.from
