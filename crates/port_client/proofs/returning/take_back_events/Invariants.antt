-- The tokens of the events that are left go behind those that the client holds.
use Rattle.std.specs.VecDeque.{deque_len}
use Rattle.port_client.proofs.Returns.{TakesEvents}
use Rattle.port_client.proofs.returning.take_back_events.Given as goal

abbrev pub invariant-loop-event : goal.invariant-loop-event
invariant-loop-event l = TakesEvents l.initial.client l.client l.fn.events.items l.rest.items

abbrev pub decreases-loop-event : goal.decreases-loop-event
decreases-loop-event l = deque_len l.rest
