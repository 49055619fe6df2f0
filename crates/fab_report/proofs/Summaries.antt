-- The text of a summary after its first line, part by part.
use Rattle.std.proofs.Common.{ℕ, ◌≡◌, Result, Ok, Err, OnOk, List, [], ◌∷◌, ◌++◌, refl, ap, sym, ◌∙◌}
use Rattle.std.specs.Prelude.{flat_map}
use Rattle.std.proofs.lemmas.Grind.{flat_map-append}
use Rattle.std.proofs.lemmas.List.{append_assoc}
use Rattle.net_defs.specs.Network.{Network}
use Rattle.run_defs.specs.declared.figure.Figure.{Figure}
use Rattle.run_defs.specs.declared.line.Line.{Line}
use Rattle.run_defs.specs.LineText.{line_text, output_text, piece_text}
use Rattle.run_defs.specs.Output.{Piece, lines}
use Rattle.run_defs.specs.Summary.{count_line, mapping_lines, settle_lines}
use Rattle.fab_report.specs.Printed.{figure_lines}

-- lines after others
lines-both : (xs ys : List Line) → lines (xs ++ ys) ≡ lines xs ++ lines ys
lines-both [] ys = refl
lines-both (x ∷ xs) ys = ap (λ t. Piece.OneLine x ∷ t) (lines-both xs ys)

texts-both : (n : Network) (xs ys : List Line) → output_text n (lines (xs ++ ys)) ≡ output_text n (lines xs) ++ output_text n (lines ys)
texts-both n xs ys = ap (output_text n) (lines-both xs ys) ∙ flat_map-append (piece_text n) (lines xs) (lines ys)

-- the lines that show figures, one after another
texts-all : (n : Network) (g : Figure → List Line) (ks : List Figure) → flat_map (λ k. output_text n (lines (g k))) ks ≡ output_text n (lines (flat_map g ks))
texts-all n g [] = refl
texts-all n g (k ∷ ks) = ap (λ t. output_text n (lines (g k)) ++ t) (texts-all n g ks) ∙ sym (texts-both n (g k) (flat_map g ks))

-- what an answer says where it is `Ok`, from what another says
pub on-ok : {T E : Type 0} (r : Result T E) (P Q : Type 0) → OnOk r P → (P → Q) → OnOk r Q
on-ok (Ok x) P Q p f = f p
on-ok (Err x) P Q p f = p

-- the parts that were written one after another
pub figures_written : (n : Network) (ks : List Figure) (t u v w : List ℕ)
    → u ≡ t ++ flat_map (λ k. output_text n (lines (mapping_lines k))) ks
    → v ≡ u ++ line_text n (count_line ks)
    → w ≡ v ++ flat_map (λ k. output_text n (lines (settle_lines k))) ks
    → w ≡ t ++ output_text n (lines (figure_lines ks))
figures_written n ks t u v w f g h =
    let maps = flat_map (λ k. output_text n (lines (mapping_lines k))) ks in
    let counts = line_text n (count_line ks) in
    let settles = flat_map (λ k. output_text n (lines (settle_lines k))) ks in
    h
    ∙ ap (λ x. x ++ settles) (g ∙ ap (λ x. x ++ counts) f)
    ∙ append_assoc (t ++ maps) counts settles
    ∙ append_assoc t maps (counts ++ settles)
    ∙ ap (λ x. t ++ (x ++ (counts ++ settles))) (texts-all n mapping_lines ks)
    ∙ ap (λ x. t ++ (output_text n (lines (flat_map mapping_lines ks)) ++ (counts ++ x))) (texts-all n settle_lines ks)
    ∙ ap (λ x. t ++ x) (sym (texts-both n (flat_map mapping_lines ks) (count_line ks ∷ flat_map settle_lines ks)))
