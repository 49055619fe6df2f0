-- The tokens that are left go behind those that the client holds.
use Rattle.std.specs.VecDeque.{deque_len}
use Rattle.port_client.proofs.Returns.{TakesSends}
use Rattle.port_client.proofs.returning.take_back_sends.Given as goal

abbrev pub invariant-loop-token : goal.invariant-loop-token
invariant-loop-token l = TakesSends l.initial.client l.client l.fn.sending.items l.rest.items

abbrev pub decreases-loop-token : goal.decreases-loop-token
decreases-loop-token l = deque_len l.rest
