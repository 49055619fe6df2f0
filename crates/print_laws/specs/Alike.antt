-- When two fabrics stand alike, whichever numbers their cables have.
use Rattle.std.specs.Prelude.{◌≡◌}
use Rattle.net_defs.specs.declared.vertex.End.{End}
use Rattle.net_defs.specs.Network.{Network, far}

-- Two fabrics stand alike: they have the same switches, and the cable at each port leads to the same port in both. So
-- a cable that was pulled and is plugged again makes no difference.
pub record StandAlike (n k : Network) : Type 0 where
  pub switches : n.switches ≡ k.switches
  pub cables : (e : End) → far n e ≡ far k e
