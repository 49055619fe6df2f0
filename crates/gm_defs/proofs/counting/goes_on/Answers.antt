use Rattle.std.proofs.Common.{◌≡◌, ◌+◌, ◌++◌, ◌%◌, ◌∙◌, sym, ap, length}
use Rattle.std.proofs.lemmas.Slice.Eq.{bytes_eq-Decides}
use Rattle.gm_defs.specs.Blob.{counted}
use Rattle.gm_defs.proofs.Rounds.{counted-++}
use Rattle.gm_defs.proofs.counting.goes_on.Goals as goal

pub returns-then-is_counted-clause-bytes : goal.returns-then-is_counted-clause-bytes
returns-then-is_counted-clause-bytes c =
    let bytes = c.args.part.now in
    let start = c.start_of-start.result in
    let due = (c.from.result + c.args.len) % 256 in
    let same : bytes ≡ counted due (length bytes) = (bytes_eq-Decides bytes (counted due (length bytes))).0 (sym c.is_counted.ensures ∙ c.if-is_counted.true) in
    ap (λ xs. xs ++ bytes) (sym c.start_of-start.ensures)
    ∙ ap (λ xs. counted start c.args.len ++ xs) same
    ∙ counted-++ start c.args.len due (length bytes) (ap (λ n. (n + c.args.len) % 256) c.from.ensures)
