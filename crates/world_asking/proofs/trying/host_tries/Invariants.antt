-- What was tried so far, and what the tries that are left come to, is what all tries come to.
use Rattle.std.specs.Prelude.{is_some, None}
use Rattle.world_defs.specs.Logs as log
use Rattle.world_asking.proofs.Tries.{Trying}
use Rattle.world_asking.proofs.trying.host_tries.Given as goal

abbrev pub invariant-trying : goal.invariant-trying
invariant-trying l = Trying is_some None (log.host_try l.mapper l.walk) l.tries l.fn.w l.w l.left l.harmed

abbrev pub decreases-trying : goal.decreases-trying
decreases-trying l = l.left
