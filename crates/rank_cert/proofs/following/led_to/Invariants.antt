use Rattle.std.proofs.Common.{◌≡◌, drop}
use Rattle.map_defs.specs.Routing.{led_to}
use Rattle.rank_cert.specs.Following.{unpair}
use Rattle.rank_cert.proofs.following.led_to.Given as goal

abbrev pub invariant-loop-turn : goal.invariant-loop-turn
invariant-loop-turn l = led_to l.m (unpair l.at) (drop l.turn-index l.turns) ≡ led_to l.m (unpair l.fn.start) l.turns
