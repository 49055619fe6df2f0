-- Passes that others follow led here.
use Rattle.world_laws.proofs.Passes.{measure}
use Rattle.world_drain.proofs.WholePass.{Passing}
use Rattle.world_drain.proofs.passes.passes.Given as goal

abbrev pub invariant-passing : goal.invariant-passing
invariant-passing l = Passing l.fn.w l.w l.resets

abbrev pub decreases-passing : goal.decreases-passing
decreases-passing l = measure l.w
