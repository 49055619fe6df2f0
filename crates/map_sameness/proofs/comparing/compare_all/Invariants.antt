-- Vertices are paired and compared, or are to be; the mapper's host stays.
use Rattle.std.proofs.Common.{◌≡◌}
use Rattle.map_sameness.specs.Pairing.{IsPairing, AreCompared, weight}
use Rattle.map_sameness.proofs.comparing.compare_all.Given as goal

abbrev pub invariant-comparing : goal.invariant-comparing
invariant-comparing l = record {
  pairing : IsPairing l.f l.m l.pairing;
  compared : AreCompared l.f l.m l.pairing;
  host : l.pairing.host ≡ l.initial.pairing.host;
}

abbrev pub decreases-comparing : goal.decreases-comparing
decreases-comparing l = weight l.pairing
