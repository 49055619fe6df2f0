-- What a line alone prints, and what more text after it.
use Rattle.std.proofs.Common.{ℕ, ◌≡◌, List, [], ◌∷◌, ◌++◌, ap, sym, ◌∙◌}
use Rattle.std.proofs.lemmas.Grind.{flat_map-append}
use Rattle.std.proofs.lemmas.List.{append-nil}
use Rattle.net_defs.specs.Network.{Network}
use Rattle.run_defs.specs.declared.figure.Figure.{Figure}
use Rattle.run_defs.specs.declared.line.Line.{Line}
use Rattle.run_defs.specs.LineText.{line_text, output_text, piece_text}
use Rattle.run_defs.specs.Output.{Piece, OneLine}
use Rattle.run_defs.specs.Summary.{figures_of, figures_in, piece_figures}
use Rattle.fab_report.specs.Printed.{PrintedState, printed_of}

-- the text and the figures of one line
pub line_printed : (n : Network) (l : Line) (text : List ℕ) (figures : List Figure) → text ≡ line_text n l → figures ≡ figures_of l
    → ◌≡◌ {A = PrintedState} (record { text = text; figures = figures }) (printed_of n (OneLine l ∷ []))
line_printed n l text figures e f =
    let t = e ∙ sym (append-nil (line_text n l)) in
    let k = f ∙ sym (append-nil (figures_of l)) in
    λ i. record { text = t i; figures = k i }

-- pieces without figures after others
pub followed : (n : Network) (out rest : List Piece) (before now : PrintedState) (more : List ℕ) → before ≡ printed_of n out → more ≡ output_text n rest → figures_in rest ≡ []
    → now ≡ record { text = before.text ++ more; figures = before.figures } → now ≡ printed_of n (out ++ rest)
followed n out rest before now more e f none g =
    let text = (λ i. (e i).text ++ f i) ∙ sym (flat_map-append (piece_text n) out rest) in
    let figures = ap (λ (p : PrintedState). p.figures) e ∙ sym (append-nil (figures_in out)) ∙ ap (λ ks. figures_in out ++ ks) (sym none) ∙ sym (flat_map-append piece_figures out rest) in
    g ∙ (λ i. record { text = text i; figures = figures i })
