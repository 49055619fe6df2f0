-- What changes no table of a host: the calls of its clients, and what it sends.
use Rattle.std.proofs.Common.{◌≡◌, ℕ, Option, refl}
use Rattle.world_defs.specs.Node.{NodeState, Outgoing, Probe, TablePart, Reply, PartAnswer, FrameAnswer, Fragment, after_sending}
use Rattle.world_defs.specs.Client.{ClientState, Called}
use Rattle.world_defs.proofs.Calls.{Call}

pub call-table : {n : NodeState} {c : Option ClientState} {port : ℕ} {call : Called} → Call n c port call → call.node.table ≡ n.table
call-table Call.rests = refl
call-table (Call.opens sends recvs d) = refl
call-table (Call.closes p d e) = refl
call-table (Call.provides size prio t ts p d e f g k) = refl
call-table (Call.accepts s t ts p d e f g k) = refl
call-table (Call.hands_sent t buffer p d e f g) = refl
call-table (Call.hands_received t buffer from sport prio len p d e f g) = refl

pub sent-table : (n : NodeState) (x : Outgoing) → (after_sending n x).table ≡ n.table
unfolding after_sending
sent-table n (Probe walk looped) = refl
sent-table n (TablePart part by) = refl
sent-table n (Reply r) = refl
sent-table n (PartAnswer a) = refl
sent-table n (FrameAnswer peer next by) = refl
sent-table n (Fragment peer head part by) = refl
