-- So many channels were reset, and those from here on are left.
use Rattle.std.proofs.Common.{◌-◌, length}
use Rattle.world_drain.proofs.Resets.{Resetting}
use Rattle.world_drain.proofs.clearing.reset_full.Given as goal

abbrev pub invariant-loop-c : goal.invariant-loop-c
invariant-loop-c l = Resetting l.fn.w l.w l.from l.resets

abbrev pub decreases-loop-c : goal.decreases-loop-c
decreases-loop-c l = length l.w.links.channels - l.from
