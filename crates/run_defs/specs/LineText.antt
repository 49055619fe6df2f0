-- The text of each line of a report.
use Rattle.std.specs.Prelude.{ℕ, Bool, true, false, List, [], ◌∷◌, ◌++◌, map, slice_get, unwrap_or, codes, flat_map}
use Rattle.net_defs.specs.Network.{Network}
use Rattle.map_defs.specs.declared.vertex.MapVertex.{MapVertex}
use Rattle.map_defs.specs.declared.vertex.MapVertex.TheVariants.{Host as MapHost, Switch as MapSwitch}
use Rattle.map_defs.specs.declared.vertex.MapCable.{MapCable}
use Rattle.map_defs.specs.NetMap.{NetMap}
use Rattle.fab_text.specs.Written.{line_text as line_of}
use Rattle.line_table.specs.declared.kind.MapLineKind.{MapLineKind}
use Rattle.line_table.specs.declared.kind.MapLineKind.TheVariants.{Host as HostLine, Switch as SwitchLine}
use Rattle.line_table.specs.declared.kind.MapLineKind.TheVariants.{Cable as CableLine, End as EndLine}
use Rattle.line_table.specs.Form.{LineValue, Word, HostAt, TurnBy, VertexAt, fill}
use Rattle.line_table.specs.Table.{form_of, map_form}
use Rattle.run_defs.specs.declared.line.Line.{Line}
use Rattle.run_defs.specs.LineRows.{line_kind, line_values}
use Rattle.run_defs.specs.Output.{Piece, OneLine, MapLines}

-- The words of a line are those of its row with its values.
abbrev pub words_in : Network → Line → List (List ℕ)
words_in n l = fill n (form_of (line_kind l)) (line_values l)

-- The text of a line is its words with a space between them, and the byte that ends a line.
abbrev pub line_text : Network → Line → List ℕ
line_text n l = line_of (words_in n l)

-- A line of a map: its row, and its values.
pub record MapLine : Type 0 where
  pub kind : MapLineKind
  pub values : List LineValue

-- whether a switch of a map is in its core
abbrev pub core_word : Bool → List ℕ
core_word true = codes "core"
core_word false = codes "outside"

-- the line of a map's vertex: a host, or a switch with its mark
abbrev pub vertex_line : MapVertex → Bool → MapLine
vertex_line (MapHost h) core = record { kind = HostLine; values = HostAt h ∷ [] }
vertex_line (MapSwitch s) core =
    record { kind = SwitchLine; values = VertexAt (MapSwitch s) ∷ Word (core_word core) ∷ [] }

-- the lines of vertices, each with its mark
abbrev pub vertex_lines : List MapVertex → List Bool → List MapLine
vertex_lines (v ∷ vs) (c ∷ cs) = vertex_line v c ∷ vertex_lines vs cs
vertex_lines _ _ = []

-- the vertex of a map at a place of its list, where both ends of each of its cables are
abbrev pub vertex_numbered : NetMap → ℕ → MapVertex
vertex_numbered m v = unwrap_or (slice_get m.vertices v) (MapSwitch 0)

-- the line of a map's cable: its two ends, the ports of switches counted from where each was first entered
abbrev pub cable_line : NetMap → MapCable → MapLine
cable_line m c = record {
  kind = CableLine;
  values = VertexAt (vertex_numbered m c.v) ∷ TurnBy c.p ∷ VertexAt (vertex_numbered m c.w) ∷ TurnBy c.q ∷ [];
}

-- the line that ends a map
abbrev pub end_line : MapLine
end_line = record { kind = EndLine; values = [] }

-- the lines of a map before its end: those of its vertices, and of its cables
abbrev pub map_lines : NetMap → List MapLine
map_lines m = vertex_lines m.vertices m.core ++ map (cable_line m) m.cables

-- the text of a line of a map
abbrev pub map_line_text : Network → MapLine → List ℕ
map_line_text n l = line_of (fill n (map_form l.kind) l.values)

-- The text of a map.
abbrev pub map_text : Network → NetMap → List ℕ
map_text n m = flat_map (map_line_text n) (map_lines m) ++ map_line_text n end_line

-- the text of a line, or of a map's lines
abbrev pub piece_text : Network → Piece → List ℕ
piece_text n (OneLine l) = line_text n l
piece_text n (MapLines m) = map_text n m

-- the text of all that was printed
abbrev pub output_text : Network → List Piece → List ℕ
output_text n out = flat_map (piece_text n) out
