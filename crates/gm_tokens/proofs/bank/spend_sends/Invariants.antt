use Rattle.std.specs.VecDeque.{deque_len}
use Rattle.gm_tokens.proofs.bank.spend_sends.Given as goal

abbrev pub decreases-loop-token : goal.decreases-loop-token
decreases-loop-token l = deque_len l.tokens
