-- The peers from here on are left to sum.
use Rattle.std.proofs.Common.{◌≤◌, ◌*◌, ◌-◌}
use Rattle.world_defs.specs.World.{host_count, node_at}
use Rattle.world_defs.specs.Node.{unacknowledged_to}
use Rattle.fab_world.proofs.Summing.{Summing}
use Rattle.fab_world.proofs.world.World.unacked_from.Given as goal

abbrev pub invariant-loop-peer : goal.invariant-loop-peer
invariant-loop-peer l = record {
  sums : Summing (unacknowledged_to (node_at l.self l.host)) (host_count l.self) l.from l.sum;
  within : l.from ≤ host_count l.self;
  few : l.sum ≤ l.from * 8589934590;
}

abbrev pub decreases-loop-peer : goal.decreases-loop-peer
decreases-loop-peer l = host_count l.self - l.from
