-- Each printed line is read as what it says. Its words have no blank in them, and are no comment.
use Rattle.std.proofs.Common.{◌≡◌, true, false, Some, ◌∙◌}
use Rattle.fab_text.specs.Line.{says_nothing}
use Rattle.fabric_file.specs.Plain.{ArePlain}
use Rattle.fabric_file.specs.Reading.{AreNamed}
use Rattle.line_table.proofs.Plain.{filled-plain, rows-plain}
use Rattle.line_table.proofs.Spoken.{filled-spoken, rows-spoken}
use Rattle.line_table.specs.Fits.{AreOf}
use Rattle.line_table.specs.Table.{form_of}
use Rattle.net_defs.specs.Network.{Network, IsFabric}
use Rattle.report_lines.specs.Lines.{line_said}
use Rattle.report_lines.specs.declared.line.ReportLine.{ReportLine}
use Rattle.run_defs.specs.LineRows.{line_kind, line_values}
use Rattle.run_defs.specs.LineText.{words_in}
use Rattle.run_defs.specs.declared.line.Line.{Line}
use Rattle.judge_laws.specs.Lines.{Says, broken_line, broken_names, by_row}
use Rattle.judge_laws.proofs.RowReading.{row-read, broken-read}

-- the values of a printed line are those of its row
pub line-fits : (n : Network) (l : Line) (r : ReportLine) → Says n l r → AreOf n (form_of (line_kind l)) (line_values l)
line-fits n l r (by_row _ _ fits apart means) = fits
line-fits n l r (broken_line from to sender receiver other) = (sender, (receiver, tt))
line-fits n l r (broken_names from to sender receiver same) = (sender, (receiver, tt))

-- all words of a printed line
pub line-plain : (n : Network) → IsFabric n → AreNamed n → (l : Line) (r : ReportLine) → Says n l r → ArePlain (words_in n l)
line-plain n is good l r says = filled-plain n is good (form_of (line_kind l)) (line_values l) (rows-plain (line_kind l)) (line-fits n l r says)

-- the first word of a printed line begins no comment
pub line-begins : (n : Network) (l : Line) (r : ReportLine) → Says n l r → says_nothing (words_in n l) ≡ false
line-begins n l r says = filled-spoken n (form_of (line_kind l)) (line_values l) (rows-spoken (line_kind l)) (line-fits n l r says)

-- whatever a printed line says is read
pub line-read : (n : Network) → IsFabric n → AreNamed n → (l : Line) (r : ReportLine) → Says n l r → line_said n (words_in n l) ≡ Some r
line-read n is good l r (by_row _ _ fits apart means) = row-read n is good (line_kind l) (line_values l) apart fits ∙ means
line-read n is good l r (broken_line from to sender receiver other) = broken-read n is good from to (sender, (receiver, tt)) false other
line-read n is good l r (broken_names from to sender receiver same) = broken-read n is good from to (sender, (receiver, tt)) true same
