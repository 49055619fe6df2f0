use Rattle.std.proofs.Common.{◌∙◌, Ok, ap, arith}
use Rattle.circ_ears.proofs.Finding.{none-below, none-over}
use Rattle.circ_ears.proofs.search.next_path.Goals as goal

pub loop-k-preserved : goal.loop-k-preserved
loop-k-preserved c =
    none-below c.args.f.now c.args.old.now c.loop-k.k c.loop-k.invariant (c.path_over.ensures.none (c.in_ok-path.was ∙ ap Ok c.in_default.is))

pub returns-clause-none : goal.returns-clause-none
returns-clause-none c e = none-over c.args.f.now c.args.old.now (λ k l. c.loop-k.invariant k (omega arith))
