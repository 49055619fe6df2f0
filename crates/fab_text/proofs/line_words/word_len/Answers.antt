use Rattle.std.proofs.Common.{length, unwrap_or, ap, ◌∙◌}
use Rattle.fab_text.specs.Line.{is_blank}
use Rattle.fab_text.proofs.Cutting.{unwrap_or-position}
use Rattle.fab_text.proofs.line_words.word_len.Goals as goal

pub returns : goal.returns
returns c = c.unwrap_or.ensures ∙ ap (λ o. unwrap_or o (length c.args.line.now)) c.word_end.ensures ∙ unwrap_or-position is_blank c.args.line.now
