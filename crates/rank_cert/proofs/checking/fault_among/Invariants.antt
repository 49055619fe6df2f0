use Rattle.std.proofs.Common.{◌≡◌, drop}
use Rattle.rank_cert.specs.Checking.{first_fault}
use Rattle.rank_cert.proofs.checking.fault_among.Given as goal

abbrev pub invariant-loop-r : goal.invariant-loop-r
invariant-loop-r l = first_fault l.m l.k (drop l.r-index l.routes) ≡ first_fault l.m l.k l.routes
