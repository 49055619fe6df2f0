-- The tokens that are left go behind those that the client holds.
use Rattle.std.specs.VecDeque.{deque_len}
use Rattle.port_client.proofs.Returns.{TakesRecvs}
use Rattle.port_client.proofs.returning.take_back_recvs.Given as goal

abbrev pub invariant-loop-token : goal.invariant-loop-token
invariant-loop-token l = TakesRecvs l.initial.client l.client l.fn.provided.items l.rest.items

abbrev pub decreases-loop-token : goal.decreases-loop-token
decreases-loop-token l = deque_len l.rest
