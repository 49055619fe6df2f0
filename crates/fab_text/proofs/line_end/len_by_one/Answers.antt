use Rattle.std.proofs.Common.{length, unwrap_or, ap, ◌∙◌}
use Rattle.fab_text.specs.Line.{is_line_end}
use Rattle.fab_text.proofs.Cutting.{unwrap_or-position}
use Rattle.fab_text.proofs.line_end.len_by_one.Goals as goal

pub returns : goal.returns
returns c = c.unwrap_or.ensures ∙ ap (λ o. unwrap_or o (length c.args.text.now)) c.end_by_one.ensures ∙ unwrap_or-position is_line_end c.args.text.now
