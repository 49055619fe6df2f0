-- What a command printed: its text, and the figures of its lines.
use Rattle.std.specs.Prelude.{ℕ, List, [], ◌∷◌, ◌++◌, flat_map, Option, Some, None}
use Rattle.net_defs.specs.Network.{Network}
use Rattle.run_defs.specs.declared.figure.Figure.{Figure}
use Rattle.run_defs.specs.declared.line.Line.{Line}
use Rattle.run_defs.specs.LineText.{output_text}
use Rattle.run_defs.specs.Output.{Piece}
use Rattle.run_defs.specs.Summary.{figures_in, mapping_lines, count_line, settle_lines}

-- What was printed: a text, and what a summary shows of it.
pub record PrintedState : Type 0 where
  pub text : List ℕ
  pub figures : List Figure

-- the text and the figures of pieces, in the names of a fabric
abbrev pub printed_of : Network → List Piece → PrintedState
printed_of n out = record { text = output_text n out; figures = figures_in out }

-- the figure that there may be, as a list
abbrev pub listed : Option Figure → List Figure
listed None = []
listed (Some figure) = figure ∷ []

-- the lines of a summary after its first: of each map, set of routes and installation, of the messages, and of each
-- settle
abbrev pub figure_lines : List Figure → List Line
figure_lines figures = flat_map mapping_lines figures ++ (count_line figures ∷ flat_map settle_lines figures)
