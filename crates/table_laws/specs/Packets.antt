-- Where packets come from: what holds of the kind and the payload of every packet that hosts build holds of every
-- packet that a host can read.
use Rattle.std.specs.Prelude.{◌≡◌, ℕ, ◌<◌, ℤ, false, List}
use Rattle.packet_defs.specs.declared.kind.Kind.{Kind}
use Rattle.packet_defs.specs.Packet.{packet_of}
use Rattle.world_defs.specs.Links.{Held}
use Rattle.world_defs.specs.Mark.{HasTrueMark}
use Rattle.world_defs.specs.LinkStep.{Step, Put, Flip}

-- A packet as it was built, or what switches left of it: some route, and a kind and a payload of which this holds.
pub record Built (G : Kind → List ℕ → Type 0) (wire : List ℕ) : Type 0 where
  pub route : List ℤ
  pub kind : Kind
  pub payload : List ℕ
  pub written : wire ≡ packet_of route kind payload
  pub good : G kind payload

-- A packet is honest: its mark says whether its CRC has a difference, and without a mark it is as it was built.
pub record IsHonest (G : Kind → List ℕ → Type 0) (held : Held) : Type 0 where
  pub mark : HasTrueMark held
  pub built : held.marked ≡ false → Built G held.wire

-- a step of the links of an epoch that puts in only what this holds of, and whose flips have patterns of eight bits
abbrev pub IsGoodStep : (ℕ → Held → Type 0) → ℕ → Step → Type 0
IsGoodStep F epoch (Put c wire) = F c (record { wire = wire; marked = false; born = epoch })
IsGoodStep F epoch (Flip c bit pattern) = pattern < 256
IsGoodStep F epoch _ = Unit {0}
