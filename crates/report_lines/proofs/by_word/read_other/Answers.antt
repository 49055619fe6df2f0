use Rattle.std.proofs.Common.{rules, ◌≡◌, ◌∷◌, true, codes, IfOk, ap, sym, subst, ◌∙◌}
use Rattle.std.specs.Prelude.{bytes_eq}
use Rattle.std.proofs.lemmas.Slice.Eq.{bytes_eq-Decides}
use Rattle.fab_text.specs.Line.{words_of}
use Rattle.report_lines.specs.Lines.{first_said}
use Rattle.report_lines.specs.Meaning.{map_kinds}
use Rattle.report_lines.specs.Reading.{route_said}
use Rattle.report_lines.proofs.Routes.{route_told}
use Rattle.report_lines.proofs.by_word.read_other.Goals as goal

pub returns-then-eq : goal.returns-then-eq
returns-then-eq c =
    let n = c.args.fabric.now in
    let first = c.args.first.now in
    let ws = words_of c.args.args in
    let test : bytes_eq first (codes "route") ≡ true = search rules in
    let same : first ≡ codes "route" = (bytes_eq-Decides first (codes "route")).0 test in
    let e : route_said n ws ≡ first_said n (map_kinds first) (first ∷ ws) =
    route_told n ws ∙ ap (λ w. first_said n (map_kinds w) (w ∷ ws)) (sym same) in
    subst (λ z. IfOk c.read_route.result (λ r. r ≡ z)) e c.read_route.ensures
