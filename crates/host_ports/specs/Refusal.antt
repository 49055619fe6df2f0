-- What the ports of a host refuse, and in which order.
use Rattle.std.specs.Prelude.{ℕ, List, Option, Some, None, option_map}
use Rattle.gm_defs.specs.Token.{PortState}
use Rattle.gm_port.specs.declared.ask.SendRefusal.{SendRefusal}
use Rattle.gm_port.specs.declared.ask.SendRefusal.TheVariants.{TooLong, BufferShort}
use Rattle.gm_port.specs.declared.ask.ProvideRefusal.{ProvideRefusal}
use Rattle.gm_port.specs.declared.ask.ProvideRefusal.TheVariants.{BadSize, BufferShort as Short}
use Rattle.gm_port.specs.declared.ask.CloseRefusal.{CloseRefusal}
use Rattle.gm_port.specs.declared.ask.CloseRefusal.TheVariants.{Busy, Unread, Filling}
use Rattle.gm_port.specs.Refusal.{send_refusal, provide_refusal, close_refusal}
use Rattle.host_ports.specs.declared.ask.NodeBegin.{NodeBegin}
use Rattle.host_ports.specs.declared.ask.NodeBegin.TheVariants.{Already}
use Rattle.host_ports.specs.declared.ask.PortSend.{PortSend}
use Rattle.host_ports.specs.declared.ask.PortSend.TheVariants.{NotOpen as NoSender, TooLong as SendTooLong}
use Rattle.host_ports.specs.declared.ask.PortSend.TheVariants.{BufferShort as SendShort}
use Rattle.host_ports.specs.declared.ask.NodeProvide.{NodeProvide}
use Rattle.host_ports.specs.declared.ask.NodeProvide.TheVariants.{NotOpen as NoProvider, BadSize as ProvideBadSize}
use Rattle.host_ports.specs.declared.ask.NodeProvide.TheVariants.{BufferShort as ProvideShort}
use Rattle.host_ports.specs.declared.ask.NodeClose.{NodeClose}
use Rattle.host_ports.specs.declared.ask.NodeClose.TheVariants.{NotOpen as NothingToClose, Busy as CloseBusy}
use Rattle.host_ports.specs.declared.ask.NodeClose.TheVariants.{Unread as CloseUnread, Filling as CloseFilling}

-- a port is not opened where it is open
abbrev pub begin_bar : Option PortState → Option NodeBegin
begin_bar None = None
begin_bar (Some p) = Some Already

-- a refusal of an open port, as one of the host's
abbrev pub send_word : SendRefusal → PortSend
send_word TooLong = SendTooLong
send_word BufferShort = SendShort

-- a refusal of a provided buffer, as the host's
abbrev pub provide_word : ProvideRefusal → NodeProvide
provide_word BadSize = ProvideBadSize
provide_word Short = ProvideShort

-- a refusal to close, as the host's
abbrev pub close_word : CloseRefusal → NodeClose
close_word (Busy n) = CloseBusy n
close_word (Unread n) = CloseUnread n
close_word (Filling n) = CloseFilling n

-- a send of so many bytes of a buffer is refused
abbrev pub send_bar : Option PortState → ℕ → List ℕ → Option PortSend
send_bar None len buffer = Some NoSender
send_bar (Some p) len buffer = option_map send_word (send_refusal len buffer)

-- a buffer is not provided with a size and a priority
abbrev pub provide_bar : Option PortState → List ℕ → ℕ → ℕ → Option NodeProvide
provide_bar None buffer size prio = Some NoProvider
provide_bar (Some p) buffer size prio = option_map provide_word (provide_refusal buffer size prio)

-- a port is not closed
abbrev pub close_bar : Option PortState → Option NodeClose
close_bar None = Some NothingToClose
close_bar (Some p) = option_map close_word (close_refusal p)
