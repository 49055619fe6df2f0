-- What was tried so far, and what the tries that are left come to, is what all tries come to.
use Rattle.std.specs.Prelude.{false}
use Rattle.world_defs.specs.Logs as log
use Rattle.world_asking.proofs.Tries.{Trying}
use Rattle.world_asking.proofs.trying.loop_tries.Given as goal

abbrev pub invariant-trying : goal.invariant-trying
invariant-trying l = Trying (λ b. b) false (log.loop_try l.mapper l.walk) l.tries l.fn.w l.w l.left l.harmed

abbrev pub decreases-trying : goal.decreases-trying
decreases-trying l = l.left
