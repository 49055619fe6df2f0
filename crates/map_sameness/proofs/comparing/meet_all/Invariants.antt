-- The ports so far were met.
use Rattle.map_sameness.specs.Pairing.{MeetsBelow}
use Rattle.map_sameness.proofs.comparing.meet_all.Given as goal

abbrev pub invariant-loop-port : goal.invariant-loop-port
invariant-loop-port l = MeetsBelow l.f l.m l.initial.pairing l.pairing l.v l.i l.port
