use Rattle.std.proofs.Common.{rules, ◌≡◌, ◌∷◌, codes, IfOk, option_map, ap, sym, subst, ◌∙◌}
use Rattle.fab_text.specs.Line.{words_of}
use Rattle.report_lines.specs.Meaning.{tokens_line}
use Rattle.report_lines.specs.Reading.{both_said, tokens_said}
use Rattle.report_lines.proofs.Tokens.{tokens_told}
use Rattle.report_lines.proofs.polls.tokens_at.Goals as goal

pub returns-in-Some : goal.returns-in-Some
returns-in-Some c =
    let n = c.args.fabric.now in
    let port = c.args.port in
    let ws = words_of c.next_word.new.self in
    let cut : words_of c.args.args ≡ c.in-Some.word.now ∷ ws = search rules in
    let same : c.in-Some.word.now ≡ codes "send" = search rules in
    let e : option_map (tokens_line port) (both_said ws) ≡ tokens_said n port (words_of c.args.args) =
    tokens_told n port ws ∙ ap (tokens_said n port) (sym (cut ∙ ap (λ w. w ∷ ws) same)) in
    subst (λ z. IfOk c.shown.result (λ r. r ≡ z)) e c.shown.ensures
