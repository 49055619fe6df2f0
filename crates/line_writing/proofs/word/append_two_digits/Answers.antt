use Rattle.std.proofs.Common.{◌++◌, ◌/◌, ◌%◌, ap, ◌∙◌, append_assoc, decimal}
use Rattle.std.proofs.lemmas.Result.{on_ok_weaker}
use Rattle.line_writing.proofs.Digits.{two_digits}
use Rattle.line_writing.proofs.word.append_two_digits.Goals as goal

pub returns : goal.returns
returns c =
    let old = c.args.text.now.items in
    let n = c.args.number in
    on_ok_weaker c.append_digit-2.result
    (λ e. e ∙ ap (λ l. l ++ decimal (n % 10)) c.in_ok-append_digit.ensures ∙ append_assoc old (decimal (n / 10)) (decimal (n % 10))
    ∙ ap (λ l. old ++ l) (two_digits n c.requires.0 c.requires.1))
    c.append_digit-2.ensures
