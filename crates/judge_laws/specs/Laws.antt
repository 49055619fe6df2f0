-- What is proved of printed lines and answers: each is read as what it says.
use Rattle.std.specs.Prelude.{◌≡◌, ℕ, ◌+◌, List, ◌∷◌, ◌++◌, Some, Ok}
use Rattle.net_defs.specs.Network.{Network, IsFabric}
use Rattle.fab_text.specs.Line.{TextLine, words_of}
use Rattle.fabric_file.specs.Reading.{AreNamed}
use Rattle.run_defs.specs.declared.command.Command.{Command}
use Rattle.run_defs.specs.declared.line.Line.{Line}
use Rattle.run_defs.specs.LineText.{words_in, line_text, output_text}
use Rattle.run_defs.specs.Output.{Piece}
use Rattle.report_lines.specs.declared.line.ReportLine.{ReportLine}
use Rattle.report_lines.specs.Lines.{line_said}
use Rattle.answer_defs.specs.Answer.{Answer}
use Rattle.judge_defs.specs.Form.{Known, answer_from}
use Rattle.judge_laws.specs.Lines.{Says}
use Rattle.judge_laws.specs.Answers.{IsPrintedAnswer, lines_at}

-- Over a fabric whose names have the form of the text, the words of a printed line are read as what the line says.
abbrev pub PrintedLinesAreRead : Type 0
PrintedLinesAreRead =
    (n : Network) (l : Line) (r : ReportLine) → IsFabric n → AreNamed n → Says n l r
    → line_said n (words_in n l) ≡ Some r

-- The first line of a text, which has this number, is read as saying this, and the lines after it are those of the
-- rest.
pub record IsFirstLine (n : Network) (r : ReportLine) (number : ℕ) (text rest : List ℕ) : Type 0 where
  pub line : TextLine
  pub number_is : line.number ≡ number
  pub said : line_said n (words_of line.bytes) ≡ Some r
  pub left : lines_at number text ≡ line ∷ lines_at (number + 1) rest

-- So is a printed line in a text that it begins, whatever follows it.
abbrev pub PrintedLinesAreFirst : Type 0
PrintedLinesAreFirst =
    (n : Network) (l : Line) (r : ReportLine) (number : ℕ) (rest : List ℕ) → IsFabric n → AreNamed n → Says n l r
    → IsFirstLine n r number (line_text n l ++ rest) rest

-- The first lines of a text are read as this answer of a command, and the lines after them are those of the rest.
pub record IsFirstAnswer (n : Network) (k : Known) (c : Command) (a : Answer) (past number : ℕ) (text rest : List ℕ)
    : Type 0 where
  pub next : ℕ
  pub read : answer_from c k past n (lines_at number text) ≡ Ok (a, lines_at next rest)

-- So is a printed answer in a text that it begins, whatever follows it.
abbrev pub PrintedAnswersAreFirst : Type 0
PrintedAnswersAreFirst =
    (n : Network) (k : Known) (c : Command) (out : List Piece) (a : Answer) (past number : ℕ) (rest : List ℕ)
    → IsFabric n → AreNamed n → IsPrintedAnswer n k out c a
    → IsFirstAnswer n k c a past number (output_text n out ++ rest) rest
