use Rattle.std.proofs.Common.{◌++◌, sym, ap, ◌∙◌}
use Rattle.std.proofs.lemmas.Fmt.{decimal_digit}
use Rattle.line_writing.proofs.word.append_digit.Goals as goal

pub returns : goal.returns
returns c = c.in_ok-push.ensures.items ∙ ap (λ l. c.args.text.now.items ++ l) (sym (decimal_digit c.args.number c.requires))
