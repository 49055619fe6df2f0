-- The replays so far, and those of the serials from here on, are all of them.
use Rattle.std.proofs.Common.{◌-◌, ◌^◌}
use Rattle.world_drain.proofs.Replays.{Replaying}
use Rattle.world_drain.proofs.replaying.replay_all.Given as goal

abbrev pub invariant-replays : goal.invariant-replays
invariant-replays l = Replaying l.fn.w l.w l.from l.told.moved l.told.resets

abbrev pub decreases-replays : goal.decreases-replays
decreases-replays l = 2 ^ 64 - l.from
