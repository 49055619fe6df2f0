-- What a port refuses, and in which order.
use Rattle.std.specs.Prelude.{ℕ, List, nat_lt, if◌then◌else◌, Option, Some, None}
use Rattle.gm_defs.specs.Token.{PortState, room}
use Rattle.gm_defs.specs.Port.{is_too_long, is_bad_size, is_short, unfinished, unread, filling_count}
use Rattle.gm_port.specs.declared.ask.SendRefusal.{SendRefusal}
use Rattle.gm_port.specs.declared.ask.SendRefusal.TheVariants.{TooLong, BufferShort}
use Rattle.gm_port.specs.declared.ask.ProvideRefusal.{ProvideRefusal}
use Rattle.gm_port.specs.declared.ask.ProvideRefusal.TheVariants.{BadSize, BufferShort as Short}
use Rattle.gm_port.specs.declared.ask.CloseRefusal.{CloseRefusal}
use Rattle.gm_port.specs.declared.ask.CloseRefusal.TheVariants.{Busy, Unread, Filling}

-- a send of so many bytes of a buffer is refused
abbrev pub send_refusal : ℕ → List ℕ → Option SendRefusal
send_refusal len buffer =
    if is_too_long len then Some TooLong else if is_short buffer len then Some BufferShort else None

-- a buffer is not provided with a size and a priority
abbrev pub provide_refusal : List ℕ → ℕ → ℕ → Option ProvideRefusal
provide_refusal buffer size prio =
    if is_bad_size size prio then Some BadSize else if is_short buffer (room size) then Some Short else None

-- a port is not closed: busy first, then unread, then filling
abbrev pub close_refusal : PortState → Option CloseRefusal
close_refusal p =
    if nat_lt 0 (unfinished p) then Some (Busy (unfinished p))
    else if nat_lt 0 (unread p) then Some (Unread (unread p))
    else if nat_lt 0 (filling_count p) then Some (Filling (filling_count p)) else None
