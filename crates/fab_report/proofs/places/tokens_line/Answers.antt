use Rattle.std.proofs.Common.{[], ◌∷◌, ◌++◌, codes, decimal, map, sym}
use Rattle.std.proofs.lemmas.Result.{on_ok_weaker}
use Rattle.line_table.specs.Texts.{host_name}
use Rattle.run_defs.specs.LineRows.{place_text}
use Rattle.fab_report.proofs.Writing.{line_continued}
use Rattle.run_defs.proofs.RowWords.{tokens-words}
use Rattle.fab_report.proofs.places.tokens_line.Goals as goal

pub returns : goal.returns
returns c =
    on_ok_weaker c.append_both.result
    (line_continued c.args.text.now.items (codes "tokens") (host_name c.args.f.now c.args.host ∷ decimal c.args.port ∷ codes "send" ∷ [])
    (map place_text c.args.sends.now ++ codes "recv" ∷ map place_text c.args.recvs.now)
    _ (sym (tokens-words c.args.f.now c.args.host c.args.port c.args.sends.now c.args.recvs.now))
    c.in_ok-begin_tokens.ensures)
    c.append_both.ensures
