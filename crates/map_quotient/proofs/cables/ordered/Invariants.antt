use Rattle.std.proofs.Common.{◌≡◌, ◌*◌}
use Rattle.map_quotient.specs.InOrder.{cables_below}
use Rattle.map_quotient.proofs.cables.ordered.Given as goal

abbrev pub invariant-loop-v : goal.invariant-loop-v
invariant-loop-v l = l.cables.items ≡ cables_below l.map (31 * l.v)
