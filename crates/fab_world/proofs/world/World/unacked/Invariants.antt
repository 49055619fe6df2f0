-- The hosts from here on are left to sum.
use Rattle.std.proofs.Common.{◌≤◌, ◌*◌, ◌-◌}
use Rattle.world_defs.specs.World.{host_count}
use Rattle.world_defs.specs.Settle.{unacknowledged_from}
use Rattle.fab_world.proofs.Summing.{Summing}
use Rattle.fab_world.proofs.world.World.unacked.Given as goal

abbrev pub invariant-loop-host : goal.invariant-loop-host
invariant-loop-host l = record {
  sums : Summing (unacknowledged_from l.self) (host_count l.self) l.from l.sum;
  within : l.from ≤ host_count l.self;
  few : l.sum ≤ l.from * 1099511627520;
}

abbrev pub decreases-loop-host : goal.decreases-loop-host
decreases-loop-host l = host_count l.self - l.from
