-- A map for a worked example.
use Rattle.std.specs.Prelude.{pos, true, [], ◌∷◌}
use Rattle.map_defs.specs.declared.vertex.MapVertex.TheVariants.{Host, Switch}
use Rattle.map_defs.specs.NetMap.{NetMap}

-- host 7 at a switch that is cabled to a second one by two cables
abbrev pub chain_map : NetMap
chain_map = record {
  vertices = Host 7 ∷ Switch 0 ∷ Switch 1 ∷ [];
  cables =
      record { v = 0; p = pos 0; w = 1; q = pos 0 }
      ∷ record { v = 1; p = pos 2; w = 2; q = pos 0 }
      ∷ record { v = 2; p = pos 3; w = 1; q = pos 4 }
      ∷ [];
  core = true ∷ true ∷ true ∷ [];
}
