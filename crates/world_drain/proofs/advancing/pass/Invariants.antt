-- What was seen so far, and then what the channels from here on show, is what the whole pass shows; and each channel that
-- isn't awake by the note sleeps.
use Rattle.std.proofs.Common.{◌-◌, length}
use Rattle.std.specs.Prelude.{IfSome}
use Rattle.world_drain.specs.Awake.{AreAwake}
use Rattle.world_drain.proofs.Passed.{Passed}
use Rattle.world_drain.proofs.advancing.pass.Given as goal

abbrev pub invariant-loop-c : goal.invariant-loop-c
invariant-loop-c l = record {
  passed : Passed l.watch l.fn.w l.w l.from l.seen;
  noted : IfSome l.noted (λ a. AreAwake l.w.links a.marks.items a.places.items a.counts.items);
}

abbrev pub decreases-loop-c : goal.decreases-loop-c
decreases-loop-c l = length l.w.links.channels - l.from
