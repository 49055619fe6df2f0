-- The lines of a map that was made.
use Rattle.std.specs.Prelude.{ℕ, List, ◌∷◌}
use Rattle.run_defs.specs.declared.line.Line.TheVariants.{Map}
use Rattle.run_defs.specs.Output.{Piece, OneLine}
use Rattle.run_defs.specs.Run.{map_pieces}
use Rattle.map_making.specs.declared.making.MadeMap.{MadeMap}

-- the line of a map that was made, and its lines
abbrev pub map_lines : ℕ → MadeMap → ℕ → List Piece
map_lines host m packets = OneLine (Map host m.words m.asks packets) ∷ map_pieces m.words m.map
