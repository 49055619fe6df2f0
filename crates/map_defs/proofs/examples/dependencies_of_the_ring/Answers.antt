-- the certificate, and the cycle that it rules out
use Rattle.map_defs.proofs.Certified.{ring_before, ring_certificate, free_cycle}
use Rattle.map_defs.proofs.examples.dependencies_of_the_ring.Goals as goal

pub returns-clause-before : goal.returns-clause-before
returns-clause-before c = ring_before

pub returns-clause-certificate : goal.returns-clause-certificate
returns-clause-certificate c = ring_certificate

pub returns-clause-cycle : goal.returns-clause-cycle
returns-clause-cycle c = free_cycle
