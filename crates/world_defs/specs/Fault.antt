-- What a cable may do to a packet: lose, copy, delay or flip it. What becomes of packets where a cable is pulled. Limbo
-- keeps what is copied or delayed, until a replay.
use Rattle.std.specs.Prelude.{ℕ, ◌+◌, ◌-◌, ◌*◌, ◌/◌, ◌^◌, min, Bool, true, false, not, ◌&&◌, nat_eq, nat_le, List, []}
use Rattle.std.specs.Prelude.{◌∷◌, ◌++◌, find, slice_set}
use Rattle.std.specs.List.{filter}
use Rattle.std.specs.Prelude.{if◌then◌else◌, Option, Some, None, option_map, is_some}
use Rattle.std.specs.Map.{lookup, remove_entry}
use Rattle.net_defs.specs.declared.vertex.End.{End}
use Rattle.world_defs.specs.History.{may_plug, with_plugged, with_pulled, with_accepted}
use Rattle.world_defs.specs.Crossed.{leaving}
use Rattle.packet_defs.specs.Burst.{flipped, may_flip}
use Rattle.world_defs.specs.declared.replayed.Replayed.{Replayed}
use Rattle.world_defs.specs.declared.replayed.Replayed.TheVariants.{Back, Busy, Unknown}
use Rattle.world_defs.specs.Links.{Held, Caught, LinkState, packet_in, with_packet, emptied}

-- the packet of a channel is lost: true exactly where there was one
abbrev pub lose : LinkState → ℕ → Bool × LinkState
lose s c = (is_some (packet_in s c), emptied s c)

-- a reset takes a packet as a loss does
abbrev pub reset : LinkState → ℕ → Bool × LinkState
reset s c = lose s c

-- the serials are used up: their count, of 64 bits, stands at its last value
abbrev pub is_used_up : LinkState → Bool
is_used_up s = nat_eq s.next_serial (2 ^ 64 - 1)

-- the links with a channel's packet in limbo, under the next serial
abbrev pub with_caught : LinkState → ℕ → Held → LinkState
with_caught s c held = record s {
  limbo = s.limbo ++ (s.next_serial, record { channel = c; held = held }) ∷ [];
  next_serial = s.next_serial + 1;
}

-- a repeat of a channel with this packet
abbrev pub repeat_of : LinkState → ℕ → Option Held → Option ℕ × LinkState
repeat_of s c None = (None, s)
repeat_of s c (Some held) = if is_used_up s then (None, s) else (Some s.next_serial, with_caught s c held)

-- a copy of a channel's packet comes into limbo, with the packet's mark: its serial, if there is a packet and a
-- serial for it
abbrev pub repeat : LinkState → ℕ → Option ℕ × LinkState
repeat s c = repeat_of s c (packet_in s c)

-- a hold of a channel with this packet
abbrev pub hold_of : LinkState → ℕ → Option Held → Option ℕ × LinkState
hold_of s c None = (None, s)
hold_of s c (Some held) = if is_used_up s then (None, s) else (Some s.next_serial, with_caught (emptied s c) c held)

-- a channel's packet itself comes into limbo
abbrev pub hold : LinkState → ℕ → Option ℕ × LinkState
hold s c = hold_of s c (packet_in s c)

-- a flip of a channel with this packet: of one that no flip has met
abbrev pub flip_of : LinkState → ℕ → ℕ → ℕ → Option Held → Bool × LinkState
flip_of s c bit pattern None = (false, s)
flip_of s c bit pattern (Some held) =
    if not held.marked && may_flip held.wire bit pattern
    then (true, with_packet s c (Some (record held { wire = flipped held.wire bit pattern; marked = true })))
    else (false, s)

-- a burst flips bits of a channel's packet, once at most: true exactly where it does
abbrev pub flip : LinkState → ℕ → ℕ → ℕ → Bool × LinkState
flip s c bit pattern = flip_of s c bit pattern (packet_in s c)

-- the packet of a serial in limbo
abbrev pub caught_as : LinkState → ℕ → Option Caught
caught_as s serial = lookup (nat_eq serial) s.limbo

-- a packet goes back from limbo into its channel
abbrev pub released : LinkState → ℕ → Caught → LinkState
released s serial caught =
    record (with_packet s caught.channel (Some caught.held)) { limbo = remove_entry (nat_eq serial) s.limbo }

-- a replay of this packet of limbo: into its channel, where that is empty
abbrev pub replay_of : LinkState → ℕ → Option Caught → Replayed × LinkState
replay_of s serial None = (Unknown, s)
replay_of s serial (Some caught) =
    if is_some (packet_in s caught.channel) then (Busy caught.channel, s)
    else (Back caught.channel, released s serial caught)

-- a packet in limbo goes back into the channel that it was in, if that is empty
abbrev pub replay : LinkState → ℕ → Replayed × LinkState
replay s serial = replay_of s serial (caught_as s serial)

-- the least serial in limbo that isn't below a number
abbrev pub next_limbo : LinkState → ℕ → Option ℕ
next_limbo s from = option_map (λ e. e.0) (find (λ e. nat_le from e.0) s.limbo)

-- limbo without what was taken from the channels of a cable
abbrev pub without_cable : ℕ → List (ℕ × Caught) → List (ℕ × Caught)
without_cable k limbo = filter (λ e. not (nat_eq (e.1.channel / 2) k)) limbo

-- the cable of this number is pulled, with the packets in its channels and those in limbo that were in them
abbrev pub pulled : LinkState → ℕ → LinkState
pulled s k = record s {
  cables = with_pulled s.cables k;
  channels = slice_set (slice_set s.channels (2 * k) None) (2 * k + 1) None;
  limbo = without_cable k s.limbo;
}

-- the cable of the channel that leaves by a port is pulled
abbrev pub pull_by : LinkState → Option ℕ → Bool × LinkState
pull_by s None = (false, s)
pull_by s (Some c) = (true, pulled s (c / 2))

-- The cable at a port is pulled: true exactly where the port has one.
abbrev pub pull : LinkState → End → Bool × LinkState
pull s e = pull_by s (leaving s.cables e)

-- Two ports are joined by a new cable with empty channels: true exactly where they may be.
abbrev pub plug : LinkState → End → End → Bool × LinkState
plug s a b =
    if may_plug s.cables a b
    then (true, record s { cables = with_plugged s.cables a b; channels = s.channels ++ None ∷ None ∷ [] })
    else (false, s)

-- the most epochs that are counted
abbrev pub epoch_limit : ℕ
epoch_limit = 2 ^ 32 - 1

-- No cable is new any more, and the next epoch begins; its count stays at its last value.
abbrev pub accept : LinkState → LinkState
accept s = record s { cables = with_accepted s.cables; epoch = min (s.epoch + 1) epoch_limit }
