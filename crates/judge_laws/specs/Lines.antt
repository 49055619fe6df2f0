-- What a printed line says, as far as it is judged.
use Rattle.std.specs.Prelude.{◌≡◌, ℕ, suc, ◌<◌, ◌^◌, Bool, true, false, ◌&&◌, List, [], ◌∷◌, slice_get, codes, bytes_eq}
use Rattle.std.specs.Prelude.{if◌then◌else◌, Some}
use Rattle.net_defs.specs.Network.{Network}
use Rattle.map_defs.specs.declared.vertex.MapVertex.{MapVertex}
use Rattle.map_defs.specs.declared.vertex.MapVertex.TheVariants.{Host as MapHost, Switch as MapSwitch}
use Rattle.fab_script.specs.Ranges.{IsHost}
use Rattle.line_table.specs.declared.kind.LineKind.{LineKind}
use Rattle.line_table.specs.Apart.{is_apart}
use Rattle.line_table.specs.Fits.{AreOf}
use Rattle.line_table.specs.Table.{form_of}
use Rattle.line_table.specs.Texts.{host_name}
use Rattle.run_defs.specs.declared.line.Line.{Line}
use Rattle.run_defs.specs.declared.line.Line.TheVariants.{Broken}
use Rattle.run_defs.specs.LineRows.{line_kind, line_values}
use Rattle.run_defs.specs.LineText.{words_in}
use Rattle.report_lines.specs.declared.line.ReportLine.{ReportLine}
use Rattle.report_lines.specs.declared.line.ReportLine.TheVariants.{Broken as BrokenSaid, NoBroken as NoBrokenSaid}
use Rattle.report_lines.specs.Lines.{kinds_in}
use Rattle.report_lines.specs.Meaning.{meaning}

-- a number of 64 bits
abbrev pub IsCounted : ℕ → Type 0
IsCounted v = v < 2 ^ 64

-- a vertex of a map: its host is one of the fabric, its switch has a number of 32 bits
abbrev pub IsVertexIn : Network → MapVertex → Type 0
IsVertexIn n (MapHost h) = IsHost n h
IsVertexIn n (MapSwitch s) = s < 2 ^ 32

-- the two names of a line `broken` are `refused` and `noroutes`
abbrev pub are_refusal_words : Network → ℕ → ℕ → Bool
are_refusal_words n from to =
    bytes_eq (host_name n from) (codes "refused") && bytes_eq (host_name n to) (codes "noroutes")

-- the place of the first row whose form isn't apart from a kind's
abbrev pub place_in : List LineKind → LineKind → ℕ
place_in [] k = 0
place_in (j ∷ js) k = if is_apart (form_of j) (form_of k) then suc (place_in js k) else 0

-- a kind stands among these where its form is found
abbrev pub IsToldApart : List LineKind → LineKind → Type 0
IsToldApart ks k = slice_get ks (place_in ks k) ≡ Some k

-- What a printed line says, as far as it is judged: what its values mean, which are those of its row, where its row is
-- told apart from those before it that begin with its first word. A line `broken` of two hosts called `refused` and
-- `noroutes` says what the refusal says.
pub data Says (n : Network) : Line → ReportLine → Type 0 where
  by_row : (l : Line) (r : ReportLine) → AreOf n (form_of (line_kind l)) (line_values l)
      → IsToldApart (kinds_in (words_in n l)) (line_kind l) → meaning (line_kind l) (line_values l) ≡ Some r
      → Says n l r
  broken_line : (from to : ℕ) → IsHost n from → IsHost n to → are_refusal_words n from to ≡ false
      → Says n (Broken from to) (BrokenSaid from to)
  broken_names : (from to : ℕ) → IsHost n from → IsHost n to → are_refusal_words n from to ≡ true
      → Says n (Broken from to) NoBrokenSaid
