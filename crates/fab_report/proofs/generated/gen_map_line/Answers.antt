use Rattle.std.proofs.Common.{[], ◌∷◌, ◌++◌, codes, decimal}
use Rattle.std.proofs.lemmas.Result.{on_ok_weaker}
use Rattle.fab_report.specs.Words.{known_words}
use Rattle.fab_report.proofs.Parts.{gen-words}
use Rattle.fab_report.proofs.Writing.{line_continued}
use Rattle.fab_report.proofs.generated.gen_map_line.Goals as goal

pub returns : goal.returns
returns c =
    on_ok_weaker c.append_map_words.result
    (λ f n. line_continued c.args.text.now.items (codes "map") []
    (known_words c.args.words ++ codes "asks" ∷ decimal c.args.asks ∷ codes "packets" ∷ decimal c.args.packets ∷ [])
    _ (gen-words n c.args.words c.args.asks c.args.packets) c.in_ok-append_words.ensures f)
    c.append_map_words.ensures
