-- What a line of a report says by its words.
use Rattle.std.specs.Prelude.{ℕ, List, [], ◌∷◌, Option, Some, None, is_some, if◌then◌else◌}
use Rattle.net_defs.specs.Network.{Network}
use Rattle.line_table.specs.declared.kind.LineKind.{LineKind}
use Rattle.line_table.specs.Form.{LineValue}
use Rattle.line_table.specs.Matching.{matched}
use Rattle.line_table.specs.Table.{form_of}
use Rattle.report_lines.specs.declared.line.ReportLine.{ReportLine}
use Rattle.report_lines.specs.Meaning.{kinds_of, form_meaning, valued_meaning}

-- a line of which only the form is judged, or what the values of a kind say, where the words have its form; or else
-- what a later kind says
abbrev pub said_as : Option ReportLine → LineKind → Option (List LineValue) → Option ReportLine → Option ReportLine
said_as (Some line) k vs later = if is_some vs then Some line else later
said_as None k None later = later
said_as None k (Some vs) later = valued_meaning k vs

-- the meaning of the first of these kinds whose form the words have
abbrev pub first_said : Network → List LineKind → List (List ℕ) → Option ReportLine
first_said n [] ws = None
first_said n (k ∷ ks) ws = said_as (form_meaning k) k (matched n (form_of k) ws) (first_said n ks ws)

-- the kinds of lines that begin with the first of these words
abbrev pub kinds_in : List (List ℕ) → List LineKind
kinds_in [] = []
kinds_in (w ∷ ws) = kinds_of w

-- What a line of a report says by its words; none where it is of no form that a report has.
abbrev pub line_said : Network → List (List ℕ) → Option ReportLine
line_said n ws = first_said n (kinds_in ws) ws
