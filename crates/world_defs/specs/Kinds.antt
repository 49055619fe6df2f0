-- The type of a packet: the two bytes after its route bytes.
use Rattle.std.specs.Prelude.{ℕ, ◌+◌, ◌*◌, Bool, true, false, List, ◌∷◌, drop, Option, Some, None}
use Rattle.std.specs.List.{prefix_len}
use Rattle.packet_defs.specs.declared.kind.Kind.{Kind}
use Rattle.packet_defs.specs.declared.kind.Kind.TheVariants.{Mapping, Gm}
use Rattle.packet_defs.specs.Packet.{head}
use Rattle.packet_defs.specs.RouteByte.{is_route_byte}
use Rattle.packet_defs.specs.Host.{kind_of}

-- a packet's head after its route bytes
abbrev pub unrouted : List ℕ → List ℕ
unrouted wire = drop (prefix_len is_route_byte (head wire)) (head wire)

-- the kind that two bytes say
abbrev pub kind_in : List ℕ → Option Kind
kind_in (high ∷ low ∷ rest) = kind_of (256 * high + low)
kind_in _ = None

-- a kind is that of mapping
abbrev pub is_of_mapping : Option Kind → Bool
is_of_mapping (Some Mapping) = true
is_of_mapping _ = false

-- a packet is of the mapper's type after its route bytes
abbrev pub is_mapping : List ℕ → Bool
is_mapping wire = is_of_mapping (kind_in (unrouted wire))

-- a kind is that of messages
abbrev pub is_of_gm : Option Kind → Bool
is_of_gm (Some Gm) = true
is_of_gm _ = false

-- a packet is of the type of messages after its route bytes
abbrev pub is_gm : List ℕ → Bool
is_gm wire = is_of_gm (kind_in (unrouted wire))
