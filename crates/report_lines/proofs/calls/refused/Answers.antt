use Rattle.std.proofs.Common.{rules, ◌≡◌, [], ◌∷◌, true, ap, sym, ◌∙◌}
use Rattle.net_defs.specs.Network.{empty_network}
use Rattle.fab_text.specs.Line.{words_of}
use Rattle.line_table.specs.declared.kind.LineKind.TheVariants.{CallRefused}
use Rattle.line_table.specs.Matching.{is_among}
use Rattle.report_lines.specs.Reading.{call_rest}
use Rattle.report_lines.proofs.CallWords.{all_causes, refusal_read}
use Rattle.report_lines.proofs.calls.refused.Goals as goal

pub returns-in-None : goal.returns-in-None
returns-in-None c =
    let call = c.args.call in
    let port = c.args.port in
    let cause = c.in_ok-cause.cause.now in
    let cut : words_of c.args.args ≡ cause ∷ [] = search rules in
    let test : is_among all_causes cause ≡ true = search rules in
    c.refused_for.ensures ∙ refusal_read call port cause test
    ∙ ap (call_rest empty_network call port (CallRefused ∷ []) 4) (sym cut)
