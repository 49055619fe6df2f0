-- One packet, alone in the links.
use Rattle.std.specs.Prelude.{◌≡◌, ℕ, List, [], Option, Some, None, if◌then◌else◌}
use Rattle.net_defs.specs.declared.place.Place.{Place}
use Rattle.net_defs.specs.declared.place.Place.TheVariants.{Host as AtHostPlace, Nothing as Stuck}
use Rattle.world_defs.specs.History.{CableHistory}
use Rattle.packet_defs.specs.Packet.{head}
use Rattle.packet_defs.specs.Host.{has_route}
use Rattle.world_defs.specs.declared.moved.Moved.{Moved}
use Rattle.world_defs.specs.declared.moved.Moved.TheVariants.{To, AtHost, Dropped, Blocked, Empty}
use Rattle.world_defs.specs.Links.{Held, LinkState, packet_in}
use Rattle.world_defs.specs.Lone.{lone, dropped_place}

-- the bytes of what a channel holds; none where it is empty
abbrev pub wire_of : Option Held → List ℕ
wire_of None = []
wire_of (Some held) = held.wire

-- the bytes of a channel's packet
abbrev pub wire_in : LinkState → ℕ → List ℕ
wire_in s c = wire_of (packet_in s c)

-- the links hold the packet of this channel and nothing else
abbrev pub IsAlone : LinkState → ℕ → Type 0
IsAlone s c = s ≡ lone s.cables c (wire_in s c)

-- where a packet ended that a step of its channel took out of the links
abbrev pub left_at : CableHistory → ℕ → Moved (List ℕ) → Place
left_at h c (AtHost a wire) = if has_route (head wire) then Stuck else AtHostPlace a
left_at h c (Dropped why) = dropped_place h c why
left_at h c (To next) = Stuck
left_at h c (Blocked next) = Stuck
left_at h c Empty = Stuck
