use Rattle.std.proofs.Common.{◌≡◌, ◌++◌, map, take}
use Rattle.std.specs.Prelude.{flat_map}
use Rattle.run_defs.specs.LineText.{map_line_text, cable_line}
use Rattle.map_canon.proofs.printing.print_cables.Given as goal

abbrev pub invariant-loop-c : goal.invariant-loop-c
invariant-loop-c l = l.text.items ≡ l.initial.text.items ++ flat_map (map_line_text l.f) (map (cable_line l.m) (take l.c-index l.m.cables))
