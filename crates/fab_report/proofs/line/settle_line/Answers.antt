use Rattle.std.proofs.lemmas.Result.{on_ok_weaker}
use Rattle.fab_report.proofs.Writing.{three_parts}
use Rattle.fab_report.proofs.line.settle_line.Goals as goal

pub returns : goal.returns
returns c =
    on_ok_weaker c.append_numbered-3.result
    (λ f. three_parts c.args.text.now.items _ _ _ c.in_ok-append_numbered.ensures c.in_ok-append_numbered-2.ensures f)
    c.append_numbered-3.ensures
