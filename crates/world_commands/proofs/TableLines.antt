-- The lines of tables after the line of an installation.
use Rattle.std.proofs.Common.{◌≡◌, ℕ, ◌∷◌, [], ◌++◌, List, map, refl, ap, ◌∙◌}
use Rattle.std.specs.Prelude.{flat_map}
use Rattle.net_defs.specs.Network.{Network}
use Rattle.world_defs.specs.World.{WorldState}
use Rattle.run_defs.specs.declared.line.Line.{Line}
use Rattle.run_defs.specs.LineText.{line_text, output_text}
use Rattle.run_defs.specs.Outcome.{table_line}
use Rattle.run_defs.specs.Output.{OneLine, lines}
use Rattle.run_defs.specs.Summary.{figures_in}
use Rattle.fab_report.specs.Printed.{PrintedState, printed_of}
use Rattle.fab_report.proofs.Printing.{followed}

-- the lines of tables, one after another
tables-text : (n : Network) (w : WorldState) (hosts : List ℕ) → flat_map (λ h. line_text n (table_line w h)) hosts ≡ output_text n (lines (map (table_line w) hosts))
tables-text n w [] = refl
tables-text n w (h ∷ hosts) = ap (λ t. line_text n (table_line w h) ++ t) (tables-text n w hosts)

tables-none : (w : WorldState) (hosts : List ℕ) → figures_in (lines (map (table_line w) hosts)) ≡ []
tables-none w [] = refl
tables-none w (h ∷ hosts) = tables-none w hosts

-- a line, and the tables after it
pub tables-told : (n : Network) (w : WorldState) (l : Line) (hosts tables : List ℕ) (before after : PrintedState) → before ≡ printed_of n (OneLine l ∷ [])
    → tables ≡ flat_map (λ h. line_text n (table_line w h)) hosts → after ≡ record { text = before.text ++ tables; figures = before.figures }
    → after ≡ printed_of n (lines (l ∷ map (table_line w) hosts))
tables-told n w l hosts tables before after first rest behind =
    followed n (OneLine l ∷ []) (lines (map (table_line w) hosts)) before after tables first (rest ∙ tables-text n w hosts) (tables-none w hosts) behind
