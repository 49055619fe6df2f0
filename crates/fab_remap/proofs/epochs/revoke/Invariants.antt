-- The hosts from this one on have yet to give up.
use Rattle.fab_remap.proofs.Giving.{Giving}
use Rattle.fab_remap.proofs.epochs.revoke.Given as goal

abbrev pub invariant-loop-host : goal.invariant-loop-host
invariant-loop-host l = Giving l.fn.w l.w l.host l.revoked
