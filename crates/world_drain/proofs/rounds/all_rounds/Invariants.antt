-- Rounds that others follow led here.
use Rattle.world_laws.proofs.Rounds.{left_over}
use Rattle.world_drain.proofs.WholeRound.{Settling}
use Rattle.world_drain.proofs.rounds.all_rounds.Given as goal

abbrev pub invariant-settling : goal.invariant-settling
invariant-settling l = Settling l.fn.w l.w l.rounds l.resets l.before.unacked l.before.struck

abbrev pub decreases-settling : goal.decreases-settling
decreases-settling l = left_over l.w
