use Rattle.std.proofs.Common.{[], ◌∷◌, codes, decimal}
use Rattle.std.proofs.lemmas.Result.{on_ok_weaker}
use Rattle.fab_report.specs.Words.{known_words}
use Rattle.fab_report.proofs.Writing.{followed_by}
use Rattle.fab_report.proofs.mapping.append_map_words.Goals as goal

pub returns : goal.returns
returns c =
    on_ok_weaker c.append_behind.result
    (followed_by c.args.text.now.items (known_words c.args.words) (codes "asks" ∷ decimal c.args.asks ∷ codes "packets" ∷ decimal c.args.packets ∷ []) c.in_ok-append_known.ensures)
    c.append_behind.ensures
