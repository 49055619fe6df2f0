-- Sending, giving up and the calls of clients leave what a host has staged on walks of the set.
use Rattle.std.proofs.Common.{ℕ, Option, Some}
use Rattle.world_defs.specs.Table.{TableState}
use Rattle.world_defs.specs.Node.{NodeState, Staged, Outgoing, Probe, TablePart, Reply, PartAnswer, FrameAnswer, Fragment, after_sending, given_up, node_expired}
use Rattle.world_defs.specs.Client.{ClientState, Called}
use Rattle.world_defs.proofs.Calls.{Call}
use Rattle.lawful_laws.proofs.Walks.{Era}
use Rattle.lawful_laws.proofs.Sends.{IsOwnStaged, IsOwn}

pub after_sending-own : (Fair : Type 0) (era : Era) (host : ℕ) (n : NodeState) (x : Outgoing) → IsOwn Fair era host n → IsOwn Fair era host (after_sending n x)
unfolding after_sending
after_sending-own Fair era host n (Probe walk looped) is = record { staged = tt; reply = is.reply; ack = is.ack }
after_sending-own Fair era host n (TablePart part by) is = record { staged = tt; reply = is.reply; ack = is.ack }
after_sending-own Fair era host n (Reply r) is = record { staged = is.staged; reply = tt; ack = is.ack }
after_sending-own Fair era host n (PartAnswer a) is = record { staged = is.staged; reply = is.reply; ack = tt }
after_sending-own Fair era host n (FrameAnswer lane next by) is = record { staged = is.staged; reply = is.reply; ack = is.ack }
after_sending-own Fair era host n (Fragment lane head part by) is = record { staged = is.staged; reply = is.reply; ack = is.ack }

pub given_up-own : (Fair : Type 0) (era : Era) (host : ℕ) (n : NodeState) → IsOwn Fair era host (given_up n)
given_up-own Fair era host n = record { staged = tt; reply = tt; ack = tt }

pub staged-own : (Fair : Type 0) (era : Era) (host : ℕ) (n : NodeState) (s : Staged) → IsOwnStaged Fair era host s → IsOwn Fair era host n → IsOwn Fair era host (record n { staged = Some s })
staged-own Fair era host n s new is = record { staged = new; reply = is.reply; ack = is.ack }

pub node_expired-own : (Fair : Type 0) (era : Era) (host : ℕ) (n : NodeState) (peer : ℕ) → IsOwn Fair era host n → IsOwn Fair era host (node_expired n peer)
node_expired-own Fair era host n peer is = record { staged = is.staged; reply = is.reply; ack = is.ack }

pub table-own : (Fair : Type 0) (era : Era) (host : ℕ) (n : NodeState) (t : TableState) → IsOwn Fair era host n → IsOwn Fair era host (record n { table = t })
table-own Fair era host n t is = record { staged = is.staged; reply = is.reply; ack = is.ack }

-- what its clients call for
pub call-own : (Fair : Type 0) (era : Era) (host : ℕ) {n : NodeState} {c : Option ClientState} {port : ℕ} {call : Called} → Call n c port call → IsOwn Fair era host n → IsOwn Fair era host call.node
call-own Fair era host Call.rests is = is
call-own Fair era host (Call.opens sends recvs d) is = record { staged = is.staged; reply = is.reply; ack = is.ack }
call-own Fair era host (Call.closes p d e) is = record { staged = is.staged; reply = is.reply; ack = is.ack }
call-own Fair era host (Call.provides size prio t ts p d e f g k) is = record { staged = is.staged; reply = is.reply; ack = is.ack }
call-own Fair era host (Call.accepts s t ts p d e f g k) is = record { staged = is.staged; reply = is.reply; ack = is.ack }
call-own Fair era host (Call.hands_sent t buffer p d e f g) is = record { staged = is.staged; reply = is.reply; ack = is.ack }
call-own Fair era host (Call.hands_received t buffer from sport prio len p d e f g) is = record { staged = is.staged; reply = is.reply; ack = is.ack }
