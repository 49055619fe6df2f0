use Rattle.std.proofs.Common.{◌≡◌, drop, None}
use Rattle.map_defs.specs.Routing.{channels_on, led_to}
use Rattle.rank_cert.specs.Checking.{fault_along}
use Rattle.rank_cert.specs.Following.{unpair}
use Rattle.rank_cert.proofs.checking.walked.Given as goal

abbrev pub invariant-loop-turn : goal.invariant-loop-turn
invariant-loop-turn l = record {
  fault : fault_along l.k l.before (channels_on l.m (unpair l.at) (drop l.turn-index l.turns)) ≡ fault_along l.k None (channels_on l.m (unpair l.fn.start) l.turns);
  led : led_to l.m (unpair l.at) (drop l.turn-index l.turns) ≡ led_to l.m (unpair l.fn.start) l.turns;
}
