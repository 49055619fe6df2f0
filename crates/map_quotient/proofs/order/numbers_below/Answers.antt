use Rattle.std.proofs.Common.{List, ℕ, ◌+◌, subst, sym}
use Rattle.map_quotient.specs.Numbering.{AreNumbersBelow}
use Rattle.map_quotient.proofs.Sorting.{numbers-none, numbers-next}
use Rattle.map_quotient.proofs.order.numbers_below.Goals as goal

pub loop-n-init : goal.loop-n-init
loop-n-init c = subst (λ (ns : List ℕ). AreNumbersBelow 0 ns) (sym c.in_ok-numbers.ensures.items) numbers-none

pub loop-n-preserved : goal.loop-n-preserved
loop-n-preserved c = subst (λ (ns : List ℕ). AreNumbersBelow (c.loop-n.n + 1) ns) (sym c.in_ok-push.ensures.items) (numbers-next c.loop-n.n c.loop-n.numbers.items c.loop-n.invariant)
