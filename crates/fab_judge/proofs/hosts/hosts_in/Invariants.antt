-- The hosts so far.
use Rattle.std.proofs.Common.{◌≡◌}
use Rattle.fab_judge.proofs.Below.{hosts_below}
use Rattle.fab_judge.proofs.hosts.hosts_in.Given as goal

abbrev pub invariant-loop-h : goal.invariant-loop-h
invariant-loop-h l = l.hosts.items ≡ hosts_below l.map l.h
