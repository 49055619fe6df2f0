-- A map whose vertices and ports aren't numbered by least walks.
use Rattle.std.specs.Prelude.{true, false, [], ◌∷◌, pos, negsuc}
use Rattle.map_defs.specs.declared.vertex.MapVertex.TheVariants.{Host, Switch}
use Rattle.map_defs.specs.NetMap.{NetMap}

-- two hosts at ports +4 and +2 of a switch, at whose port +5 is port -1 of another that isn't of the core
abbrev pub shuffled_map : NetMap
shuffled_map = record {
  vertices = Host 1 ∷ Switch 0 ∷ Host 2 ∷ Switch 1 ∷ [];
  cables = record { v = 1; p = negsuc 0; w = 3; q = pos 5 } ∷ record { v = 2; p = pos 0; w = 3; q = pos 2 }
      ∷ record { v = 3; p = pos 4; w = 0; q = pos 0 } ∷ [];
  core = true ∷ false ∷ true ∷ true ∷ [];
}

-- the map of a ring of four switches with one host, as its mapper makes it: numbered by least walks already
abbrev pub ring_map : NetMap
ring_map = record {
  vertices = Host 0 ∷ Switch 0 ∷ Switch 1 ∷ Switch 2 ∷ Switch 3 ∷ [];
  cables = record { v = 0; p = pos 0; w = 1; q = pos 0 } ∷ record { v = 1; p = negsuc 1; w = 2; q = pos 0 }
      ∷ record { v = 1; p = negsuc 0; w = 3; q = pos 0 }
      ∷ record { v = 2; p = negsuc 0; w = 4; q = pos 0 } ∷ record { v = 3; p = pos 1; w = 4; q = negsuc 0 } ∷ [];
  core = true ∷ true ∷ true ∷ true ∷ true ∷ [];
}
