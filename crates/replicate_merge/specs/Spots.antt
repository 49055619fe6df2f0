-- The `==` of spots, by a name for clauses on maps.
use Rattle.std.specs.Prelude.{Bool}
use Rattle.replicate_merge.specs.declared.way.Spot.{Spot}
use Rattle.replicate_merge.specs.contracts.way.SpotPartialEq.TheImpl as spot_eq

-- two spots are equal
abbrev pub same_spot : Spot → Spot → Bool
same_spot = (spot_eq.ghosts).eq
