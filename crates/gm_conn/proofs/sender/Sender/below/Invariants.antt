-- So many of the messages lie wholly below the number.
use Rattle.std.proofs.Common.{◌-◌, length}
use Rattle.gm_conn.proofs.Waiting.{IsWalked}
use Rattle.gm_conn.proofs.sender.Sender.below.Given as goal

abbrev pub invariant-loop-pieces : goal.invariant-loop-pieces
invariant-loop-pieces l = IsWalked l.initial.self l.initial.n l.place l.first

abbrev pub decreases-loop-pieces : goal.decreases-loop-pieces
decreases-loop-pieces l = length l.initial.self.waiting - l.place
