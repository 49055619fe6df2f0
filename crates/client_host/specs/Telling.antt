-- What a client is told of what its host refused.
use Rattle.std.specs.Prelude.{ℕ, ◌<◌, ◌^◌, Bool, true, false, Option, Some, None, if◌then◌else◌}
use Rattle.gm_defs.specs.Port.{is_bad_size}
use Rattle.gm_port.specs.declared.ask.SendAsk.{SendAsk}
use Rattle.host_ports.specs.declared.ask.NodeClose.{NodeClose}
use Rattle.host_ports.specs.declared.ask.NodeClose.TheVariants.{NotOpen as NothingToClose, Busy as CloseBusy}
use Rattle.host_ports.specs.declared.ask.NodeClose.TheVariants.{Unread as CloseUnread, Filling as CloseFilling}
use Rattle.nic_node.specs.declared.refusal.NodeSend.{NodeSend}
use Rattle.nic_node.specs.declared.refusal.NodeSend.TheVariants.{NotOpen as NothingSends, TooLong as SendTooLong}
use Rattle.nic_node.specs.declared.refusal.NodeSend.TheVariants.{BufferShort, NoRoute as SendNoRoute}
use Rattle.nic_node.specs.declared.refusal.NodeSend.TheVariants.{Spent as SendSpent, NoMemory}
use Rattle.world_defs.specs.declared.client.ClientCause.{ClientCause}
use Rattle.world_defs.specs.declared.client.ClientCause.TheVariants.{NotOpen, TooLong, NoRoute, Spent, Busy, Unread}
use Rattle.world_defs.specs.declared.client.ClientCause.TheVariants.{BadSize, Filling}
use Rattle.world_defs.specs.declared.effect.Said.{Said}
use Rattle.world_defs.specs.declared.effect.Said.TheVariants.{Refused}
use Rattle.world_defs.specs.Node.{NodeState}
use Rattle.world_defs.specs.Client.{send_refusal}
use Rattle.world_defs.specs.Step.{wanted}

-- a refusal to close, as the client is told of it
abbrev pub close_cause : NodeClose → ClientCause
close_cause NothingToClose = NotOpen
close_cause (CloseBusy n) = Busy n
close_cause (CloseUnread n) = Unread n
close_cause (CloseFilling n) = Filling n

-- the count of a refusal to close is of 32 bits: that of tokens that are filling is so by its type
abbrev pub IsCounted : NodeClose → Type 0
IsCounted NothingToClose = Unit {0}
IsCounted (CloseBusy n) = n < 2 ^ 32
IsCounted (CloseUnread n) = n < 2 ^ 32
IsCounted (CloseFilling n) = Unit {0}

-- a buffer isn't provided for its size or its priority
abbrev pub size_cause : ℕ → ℕ → Option ClientCause
size_cause size prio = if is_bad_size size prio then Some BadSize else None

-- a message isn't accepted, as the client is told of it: no cause where memory ran out, and for a buffer that is too
-- short, which a client's never is
abbrev pub send_cause : NodeSend → Option ClientCause
send_cause NothingSends = Some NotOpen
send_cause SendTooLong = Some TooLong
send_cause BufferShort = None
send_cause SendNoRoute = Some NoRoute
send_cause SendSpent = Some Spent
send_cause NoMemory = None

-- why a message isn't accepted, whatever its port and its bytes are
abbrev pub ask_refusal : NodeState → SendAsk → Option ClientCause
ask_refusal n a = send_refusal n (wanted 0 a.dest a.dport a.prio a.len 0)

-- a call was refused
abbrev pub is_refused : Said → Bool
is_refused (Refused cause) = true
is_refused _ = false
