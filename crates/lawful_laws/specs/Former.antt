-- Packets that needn't go by an adopted route: probes and replies, those built before the current epoch, and parts and
-- acknowledgements of parts of an epoch before it, or of an epoch in which a cable was plugged.
use Rattle.std.specs.Prelude.{◌≡◌, ℤ, ℕ, ◌<◌, Bool, true, false, List, nat_lt}
use Rattle.packet_defs.specs.declared.kind.Kind.TheVariants.{Mapping}
use Rattle.packet_defs.specs.Packet.{packet_of}
use Rattle.world_defs.specs.History.{was_plugged}
use Rattle.world_defs.specs.Links.{Held}
use Rattle.world_defs.specs.Mapping.{MappingBody, mapping_bytes}
use Rattle.world_defs.specs.Mapping.MappingBody.{Part, PartAck}
use Rattle.world_defs.specs.World.{WorldState, epoch_of}

-- a part, or the acknowledgement of one
abbrev pub is_of_parts : MappingBody → Bool
is_of_parts (Part p) = true
is_of_parts (PartAck epoch host part) = true
is_of_parts _ = false

-- a part, or the acknowledgement of one, of an epoch before this one
abbrev pub is_former : ℕ → MappingBody → Bool
is_former number (Part p) = nat_lt p.epoch number
is_former number (PartAck epoch host part) = nat_lt epoch number
is_former number _ = false

-- The packet of a body of the mapper's protocol of which a test holds.
pub record IsPacketOf (test : MappingBody → Bool) (wire : List ℕ) : Type 0 where
  pub route : List ℤ
  pub body : MappingBody
  pub written : wire ≡ packet_of route Mapping (mapping_bytes body)
  pub holds : test body ≡ true

-- A packet that needn't be lawful: of a probe or a reply, built before the current epoch, or of a part or the
-- acknowledgement of one: of an epoch before it, or where a cable was plugged since it began.
pub data IsExcused (IsProbe : List ℕ → Type 0) (w : WorldState) (held : Held) : Type 0 where
  probe : IsProbe held.wire → IsExcused IsProbe w held
  older : held.born < epoch_of w → IsExcused IsProbe w held
  former : IsPacketOf (is_former (epoch_of w)) held.wire → IsExcused IsProbe w held
  plugged : was_plugged w.links.cables ≡ true → IsPacketOf is_of_parts held.wire → IsExcused IsProbe w held
