-- Packets in links, for worked examples.
use Rattle.std.specs.Prelude.{ℕ, pos, ℤ, List, [], ◌∷◌}
use Rattle.net_defs.specs.Network.{Network}
use Rattle.net_defs.specs.Examples.{two_hosts, self_cabled, host_end, switch_end}
use Rattle.packet_defs.specs.declared.kind.Kind.TheVariants.{Mapping}
use Rattle.packet_defs.specs.Packet.{packet_of}
use Rattle.world_defs.specs.Links.{LinkState, empty_links, put}
use Rattle.world_defs.specs.Advance.{advance}
use Rattle.world_defs.specs.Fault.{hold, repeat, pull, plug}

-- a mapping packet of a route, without payload
abbrev pub probe : List ℤ → List ℕ
probe route = packet_of route Mapping []

-- one such packet in a channel of idle links
abbrev pub alone : Network → ℕ → List ℤ → LinkState
alone n c route = (put (empty_links n) c (probe route)).1

-- links after advances of these channels, in order
abbrev pub advanced : LinkState → List ℕ → LinkState
advanced s [] = s
advanced s (c ∷ cs) = advanced (advance s c).1 cs

-- a packet of one turn +3 in the channel of host 0, and one in the channel from the switch to host 1, which it wants
abbrev pub in_the_way : LinkState
in_the_way = (put (alone two_hosts 0 (pos 3 ∷ [])) 3 (probe [])).1

-- two packets of one turn 0, each in the channel that the other wants
abbrev pub face_to_face : LinkState
face_to_face = (put (alone self_cabled 6 (pos 0 ∷ [])) 7 (probe (pos 0 ∷ []))).1

-- the packet of host 0 in limbo, and its channel empty
abbrev pub delayed : LinkState
delayed = (hold (alone two_hosts 0 (pos 3 ∷ [])) 0).1

-- a copy of that packet in limbo, and its channel full
abbrev pub copied : LinkState
copied = (repeat (alone two_hosts 0 (pos 3 ∷ [])) 0).1

-- a packet of host 1 in limbo
abbrev pub held_on_b : LinkState
held_on_b = (hold (alone two_hosts 2 []) 2).1

-- the packet of host 0 on its way, and the cable of host 1 pulled
abbrev pub without_b : LinkState
without_b = (pull (alone two_hosts 0 (pos 3 ∷ [])) (switch_end 0 5)).1

-- and plugged again
abbrev pub with_b : LinkState
with_b = (plug without_b (host_end 1) (switch_end 0 5)).1
