use Rattle.std.proofs.Common.{[], ◌∷◌, ◌++◌, ◌∙◌, codes, decimal}
use Rattle.std.proofs.lemmas.Result.{on_ok_weaker}
use Rattle.fab_text.specs.Written.{spaced}
use Rattle.line_table.specs.Texts.{host_name}
use Rattle.fab_report.specs.Words.{known_words}
use Rattle.fab_report.proofs.Parts.{map-words}
use Rattle.fab_report.proofs.Writing.{line_continued}
use Rattle.fab_report.proofs.mapping.map_line.Goals as goal

pub returns : goal.returns
returns c =
    on_ok_weaker c.append_map_words.result
    (line_continued c.args.text.now.items (codes "map") (host_name c.args.f.now c.args.host ∷ [])
    (known_words c.args.words ++ codes "asks" ∷ decimal c.args.asks ∷ codes "packets" ∷ decimal c.args.packets ∷ [])
    _ (map-words c.args.f.now c.args.host c.args.words c.args.asks c.args.packets)
    (c.in_ok-append_words.ensures ∙ (λ i. c.args.text.now.items ++ spaced (codes "map" ∷ c.name_of.ensures i ∷ []))))
    c.append_map_words.ensures
