-- Passes that each changed something led here, and each channel that isn't awake by the note sleeps.
use Rattle.std.specs.Prelude.{IfSome}
use Rattle.world_defs.specs.Hops.{total_hops}
use Rattle.world_drain.specs.Awake.{AreAwake}
use Rattle.world_drain.proofs.Running.{Running}
use Rattle.world_drain.proofs.advancing.all_passes.Given as goal

abbrev pub invariant-passing : goal.invariant-passing
invariant-passing l = record {
  running : Running l.watch l.fn.w l.w l.seen;
  noted : IfSome l.noted (λ a. AreAwake l.w.links a.marks.items a.places.items a.counts.items);
}

abbrev pub decreases-passing : goal.decreases-passing
decreases-passing l = total_hops l.w.links
