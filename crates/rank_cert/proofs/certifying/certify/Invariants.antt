use Rattle.std.proofs.Common.{◌≡◌}
use Rattle.rank_cert.proofs.Places.{entries_below}
use Rattle.rank_cert.proofs.certifying.certify.Given as goal

abbrev pub invariant-loop-k : goal.invariant-loop-k
invariant-loop-k l = l.entries.items ≡ entries_below l.m l.order l.k
