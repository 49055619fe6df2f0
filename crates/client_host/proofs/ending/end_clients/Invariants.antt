-- The ports of the clients that are left are tied to them, and all others are closed.
use Rattle.client_host.specs.Tied.{IsEnding}
use Rattle.client_host.proofs.ending.end_clients.Given as goal

abbrev pub invariant-loop-slot : goal.invariant-loop-slot
invariant-loop-slot l = IsEnding l.node l.clients.items

abbrev pub decreases-loop-slot : goal.decreases-loop-slot
decreases-loop-slot l = goal.left-loop-slot l
