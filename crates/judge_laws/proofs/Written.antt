-- A printed line is the first line of its text, and is read there as what it says.
use Rattle.std.proofs.Common.{◌≡◌, ◌++◌, ℕ, List, [], ◌∷◌, Some, false, refl, ap, ◌∙◌, true≢false}
use Rattle.net_defs.specs.Network.{Network, IsFabric}
use Rattle.fab_text.specs.Line.{says_nothing}
use Rattle.fab_text.specs.Written.{spaced, line_text as line_of}
use Rattle.fabric_file.specs.Reading.{AreNamed}
use Rattle.run_defs.specs.declared.line.Line.{Line}
use Rattle.run_defs.specs.LineText.{words_in, line_text}
use Rattle.report_lines.specs.declared.line.ReportLine.{ReportLine}
use Rattle.report_lines.specs.Lines.{line_said}
use Rattle.fabric_file.specs.Plain.{ArePlain}
use Rattle.fabric_file.proofs.PlainLines.{words-spaced, left-printed}
use Rattle.judge_laws.specs.Lines.{Says}
use Rattle.judge_laws.specs.Laws.{IsFirstLine}
use Rattle.judge_laws.proofs.Reading.{line-plain, line-begins, line-read}

-- a line of words
words-first : (n : Network) (r : ReportLine) (ws : List (List ℕ)) (number : ℕ) (rest : List ℕ) → ArePlain ws → says_nothing ws ≡ false → line_said n ws ≡ Some r
    → IsFirstLine n r number (line_of ws ++ rest) rest
words-first n r [] number rest plain begins said = absurd (true≢false begins)
words-first n r (w ∷ ws) number rest plain begins said = record {
  line = record { number = number; bytes = spaced (w ∷ ws); after = rest };
  number_is = refl;
  said = ap (line_said n) (words-spaced (w ∷ ws) plain) ∙ said;
  left = left-printed number w ws rest plain begins;
}

pub line-first : (n : Network) (l : Line) (r : ReportLine) (number : ℕ) (rest : List ℕ) → IsFabric n → AreNamed n → Says n l r → IsFirstLine n r number (line_text n l ++ rest) rest
line-first n l r number rest is good says =
    words-first n r (words_in n l) number rest (line-plain n is good l r says) (line-begins n l r says) (line-read n is good l r says)
