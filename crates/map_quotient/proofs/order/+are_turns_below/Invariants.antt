use Rattle.std.proofs.Common.{length}
use Rattle.map_quotient.proofs.order.+are_turns_below.Given as goal

abbrev pub decreases-are_turns_below : goal.decreases-are_turns_below
decreases-are_turns_below l = length l.v.now
