-- The expiries towards the peers from here on are left.
use Rattle.std.proofs.Common.{◌-◌}
use Rattle.world_defs.specs.World.{host_count}
use Rattle.world_drain.proofs.Expiries.{Expiring}
use Rattle.world_drain.proofs.rounds.expire_host.Given as goal

abbrev pub invariant-loop-peer : goal.invariant-loop-peer
invariant-loop-peer l = Expiring l.fn.w l.w l.host l.from

abbrev pub decreases-loop-peer : goal.decreases-loop-peer
decreases-loop-peer l = host_count l.w - l.from
