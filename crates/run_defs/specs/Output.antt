-- What a command prints: lines, and the lines of a map.
use Rattle.std.specs.Prelude.{List, [], ◌∷◌}
use Rattle.map_defs.specs.NetMap.{NetMap}
use Rattle.run_defs.specs.declared.line.Line.{Line}

-- A piece of what was printed: one line, or all lines of a map.
pub data Piece : Type 0 where
  OneLine : Line → Piece
  MapLines : NetMap → Piece

-- each of these lines
abbrev pub lines : List Line → List Piece
lines [] = []
lines (l ∷ ls) = OneLine l ∷ lines ls
