-- A route part for worked examples.
use Rattle.std.specs.Prelude.{pos, negsuc, [], ◌∷◌}
use Rattle.world_defs.specs.Mapping.{RoutePart}

-- the first of two parts of host 2's table, by mapper 0
abbrev pub first_part : RoutePart
first_part = record {
  epoch = 1;
  mapper = 0;
  dst = 2;
  part = 0;
  parts = 2;
  back = negsuc 2 ∷ [];
  entries = record { to = 0; walk = pos 3 ∷ [] } ∷ record { to = 1; walk = [] } ∷ [];
}
