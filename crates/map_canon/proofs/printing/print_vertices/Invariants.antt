use Rattle.std.proofs.Common.{◌≡◌, ◌++◌, take}
use Rattle.std.specs.Prelude.{flat_map}
use Rattle.run_defs.specs.LineText.{map_line_text, vertex_lines}
use Rattle.map_canon.proofs.printing.print_vertices.Given as goal

abbrev pub invariant-loop-v : goal.invariant-loop-v
invariant-loop-v l = l.text.items ≡ l.initial.text.items ++ flat_map (map_line_text l.f) (vertex_lines (take l.v l.fn.m.vertices) (take l.v l.fn.m.core))
