-- How far the packets in the links may still go, and links in which none can.
use Rattle.std.specs.Prelude.{ℕ, zero, suc, ◌+◌, Bool, true, false, not, ◌&&◌, List, [], ◌∷◌, length, Option, Some}
use Rattle.std.specs.Prelude.{None}
use Rattle.std.specs.List.{prefix_len}
use Rattle.packet_defs.specs.RouteByte.{is_route_byte}
use Rattle.packet_defs.specs.Packet.{head}
use Rattle.world_defs.specs.declared.moved.Moved.{Moved}
use Rattle.world_defs.specs.declared.moved.Moved.TheVariants.{To, AtHost, Dropped, Blocked, Empty}
use Rattle.world_defs.specs.Links.{Held, LinkState, is_idle}
use Rattle.world_defs.specs.Advance.{advance}

-- the hops left of a packet: one more than the route bytes at its front
abbrev pub hops_left : List ℕ → ℕ
hops_left wire = 1 + prefix_len is_route_byte (head wire)

-- the hops left of a packet in a channel; none where the channel is empty
abbrev pub hops_of : Option Held → ℕ
hops_of None = 0
hops_of (Some held) = hops_left held.wire

-- the hops left of the packets in channels
abbrev pub hops_in : List (Option Held) → ℕ
hops_in [] = 0
hops_in (p ∷ ps) = hops_of p + hops_in ps

-- the hops left of all packets in the channels
abbrev pub total_hops : LinkState → ℕ
total_hops s = hops_in s.channels

-- an advance changed something
abbrev pub changes : Moved (List ℕ) → Bool
changes (To next) = true
changes (AtHost h wire) = true
changes (Dropped why) = true
changes (Blocked next) = false
changes Empty = false

-- no advance of a channel below this number changes anything
abbrev pub is_still_below : LinkState → ℕ → Bool
is_still_below s zero = true
is_still_below s (suc c) = not (changes (advance s c).0) && is_still_below s c

-- the links are stuck: some channel holds a packet, and no advance changes anything
abbrev pub is_stuck : LinkState → Bool
is_stuck s = not (is_idle s) && is_still_below s (length s.channels)
