use Rattle.std.proofs.Common.{rules, ◌≡◌, [], ◌∷◌, codes, Some, ap, sym, ◌∙◌}
use Rattle.net_defs.specs.Network.{empty_network}
use Rattle.fab_text.specs.Line.{words_of}
use Rattle.line_table.specs.declared.kind.LineKind.TheVariants.{CallToken, CallRefused}
use Rattle.line_table.specs.Said.{value_said}
use Rattle.report_lines.specs.Reading.{call_rest}
use Rattle.report_lines.proofs.CallWords.{token_read}
use Rattle.report_lines.proofs.calls.took.Goals as goal

pub returns-in-None : goal.returns-in-None
returns-in-None c =
    let call = c.args.call in
    let port = c.args.port in
    let w = c.in_ok-next_word.field-0.now in
    let cut : words_of c.args.args ≡ codes "token" ∷ w ∷ [] = search rules in
    let read : value_said w ≡ Some c.in_ok-token.token = search rules in
    c.token_of.ensures ∙ token_read call port w c.in_ok-token.token read
    ∙ ap (call_rest empty_network call port (CallToken ∷ CallRefused ∷ []) 3) (sym cut)
