-- Ports as pairs and back, and a route one turn on.
use Rattle.std.proofs.Common.{◌≡◌, List, ◌∷◌, Option, Some, None, refl, arith, w8, FitsSigned}
use Rattle.std.proofs.lemmas.Int.{ints}
use Rattle.std.proofs.lemmas.Bool.Decides.{nat_tests}
use Rattle.net_defs.specs.Turn.{IsTurn}
use Rattle.std.specs.Prelude.{ℤ}
use Rattle.map_defs.specs.NetMap.{NetMap, MapPort}
use Rattle.map_defs.specs.Routing.{led_to}
use Rattle.fabric_map.specs.Table.{far_pair}
use Rattle.rank_cert.specs.Following.{unpair, next_after}

pub unpair-pair : (o : Option MapPort) → unpair (far_pair o) ≡ o
unpair-pair None = refl
unpair-pair (Some d) = refl

pub led-step : (m : NetMap) (at : Option MapPort) (t : ℤ) (ts : List ℤ) → led_to m at (t ∷ ts) ≡ led_to m (next_after m at t) ts
led-step m None t ts = refl
led-step m (Some d) t ts = refl

-- a turn fits in eight bits
pub turn-fits : (t : ℤ) → IsTurn t → FitsSigned w8 t
turn-fits t e = grind (arith, ints, nat_tests)
