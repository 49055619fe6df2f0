use Rattle.std.proofs.Common.{[], ◌∷◌, ◌++◌, ap, codes, ◌∙◌}
use Rattle.std.proofs.lemmas.Result.{on_ok_weaker}
use Rattle.fab_text.specs.Written.{line_text}
use Rattle.line_table.specs.Texts.{turn_text}
use Rattle.map_canon.proofs.Printed.{port-same}
use Rattle.map_canon.proofs.printing.cable_line.Goals as goal

pub returns : goal.returns
returns c =
    let k = c.args.c in
    let p = c.port_word-p.ensures ∙ ap turn_text (port-same k.p c.requires.port_p) in
    let q = c.port_word-q.ensures ∙ ap turn_text (port-same k.q c.requires.port_q) in
    on_ok_weaker c.append_line.result
    (λ e. e ∙ (λ i. c.args.text.now.items ++ line_text (codes "cable" ∷ c.vertex_word-v.ensures i ∷ p i ∷ c.vertex_word-w.ensures i ∷ q i ∷ [])))
    c.append_line.ensures
