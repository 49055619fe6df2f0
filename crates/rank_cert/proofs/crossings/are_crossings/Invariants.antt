-- The places that were looked at are right.
use Rattle.rank_cert.specs.Crossing.{AreBelow}
use Rattle.rank_cert.proofs.crossings.are_crossings.Given as goal

abbrev pub invariant-loop-place : goal.invariant-loop-place
invariant-loop-place l = AreBelow l.place l.m l.k l.table
