use Rattle.std.proofs.Common.{arith, ap, length, sym, true≢false, ◌∙◌, ◌==◌}
use Rattle.fab_report.proofs.Hexadecimal.{hex_written}
use Rattle.fab_report.proofs.words.bytes_word.Goals as goal

pub returns-else-is_empty : goal.returns-else-is_empty
returns-else-is_empty c =
    hex_written c.args.bytes.now (λ none. absurd (true≢false (sym (c.is_empty.ensures ∙ ap (λ xs. length xs == 0) none) ∙ c.if-is_empty.false))) (λ i. let f = c.type_inv.bytes i in omega arith)
