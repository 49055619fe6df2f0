-- Probes and their replies: they go by walks that a mapper tries out, and not by adopted routes.
use Rattle.std.specs.Prelude.{◌≡◌, ℤ, ℕ, Bool, true, false, List, Some, Ok}
use Rattle.std.specs.List.{AllByRecursion}
use Rattle.net_defs.specs.Turn.{IsTurn}
use Rattle.packet_defs.specs.declared.kind.Kind.{Kind}
use Rattle.packet_defs.specs.declared.kind.Kind.TheVariants.{Mapping, Gm}
use Rattle.packet_defs.specs.Packet.{packet_of}
use Rattle.packet_defs.specs.Host.{body_of}
use Rattle.world_defs.specs.Kinds.{unrouted}
use Rattle.world_defs.specs.Mapping.{MappingBody, mapping_bytes, is_route, is_mapping, decode_mapping}
use Rattle.world_defs.specs.Mapping.MappingBody.{HostProbe, HostReply, Loopback, Part, PartAck}
use Rattle.world_defs.specs.declared.event.Event.{Event}
use Rattle.world_defs.specs.declared.event.Event.TheVariants.{Ask}
use Rattle.world_defs.specs.Acts.{Act, Happens}

-- a host probe, a loopback probe and a probe reply are probes; a part and a part's acknowledgement aren't
abbrev pub is_probe : MappingBody → Bool
is_probe (HostProbe number mapper back) = true
is_probe (HostReply number host) = true
is_probe (Loopback number mapper) = true
is_probe (Part p) = false
is_probe (PartAck epoch host part) = false

-- A packet of a probe or a reply is the bytes of some route and of its body, whatever the walk that a mapper asked.
pub record IsProbe (wire : List ℕ) : Type 0 where
  pub route : List ℤ
  pub body : MappingBody
  pub written : wire ≡ packet_of route Mapping (mapping_bytes body)
  pub probe : is_probe body ≡ true

-- A packet that is read as a probe or a reply: so says the body after its route bytes.
pub record IsReadAsProbe (wire : List ℕ) : Type 0 where
  pub payload : List ℕ
  pub body : MappingBody
  pub there : body_of (unrouted wire) ≡ Ok (Mapping, payload)
  pub says : decode_mapping payload ≡ Some body
  pub probe : is_probe body ≡ true

-- a probe of turns whose body is by the rules is read as one
abbrev pub ProbeIsRead : Type 0
ProbeIsRead =
    (route : List ℤ) (body : MappingBody) → AllByRecursion IsTurn route → is_mapping body ≡ true → is_probe body ≡ true
    → IsReadAsProbe (packet_of route Mapping (mapping_bytes body))

-- and no probe is read as anything else: as a frame, a part or an acknowledgement
abbrev pub ProbeIsNothingElse : Type 0
ProbeIsNothingElse =
    (wire : List ℕ) (kind : Kind) (payload : List ℕ) → IsProbe wire → body_of (unrouted wire) ≡ Ok (kind, payload)
    → (kind ≡ Mapping) × ((b : MappingBody) → decode_mapping payload ≡ Some b → is_probe b ≡ true)

-- so the packet of a frame or of its acknowledgement is no probe, by any route
abbrev pub GmIsNoProbe : Type 0
GmIsNoProbe = (route : List ℤ) (payload : List ℕ) → ¬ IsProbe (packet_of route Gm payload)

-- nor is the packet of a part or of a part's acknowledgement
abbrev pub PartIsNoProbe : Type 0
PartIsNoProbe = (route : List ℤ) (body : MappingBody) → is_probe body ≡ false
    → ¬ IsProbe (packet_of route Mapping (mapping_bytes body))

-- an event that asks a walk asks one of at most 64 turns, each from -15 to 15
abbrev pub IsWalkEvent : Event → Type 0
IsWalkEvent (Ask h walk looped) = is_route walk ≡ true
IsWalkEvent _ = Unit {0}

-- and so does an act
abbrev pub IsWalkAct : Act → Type 0
IsWalkAct (Happens e) = IsWalkEvent e
IsWalkAct _ = Unit {0}
