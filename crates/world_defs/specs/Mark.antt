-- What the mark of a flip says of a packet.
use Rattle.std.specs.Prelude.{◌≡◌, ℕ, ◌<◌, Bool, true, false, List, IfSome}
use Rattle.std.specs.List.{AllByRecursion}
use Rattle.net_defs.specs.Network.{Network}
use Rattle.packet_defs.specs.Packet.{difference}
use Rattle.world_defs.specs.Links.{Held, LinkState, empty_links}
use Rattle.world_defs.specs.LinkStep.{Step, Put, Flip, stepped_all}

-- a mark says whether the difference of the CRC is that of a flipped packet
abbrev pub Tells : Bool → List ℕ → Type 0
Tells true wire = 0 < difference wire
Tells false wire = difference wire ≡ 0

-- a marked packet has a difference, and one without mark has none
abbrev pub HasTrueMark : Held → Type 0
HasTrueMark held = Tells held.marked held.wire

-- So have all packets in channels and in limbo.
pub record HasTrueMarks (s : LinkState) : Type 0 where
  pub in_channels : AllByRecursion (λ p. IfSome p HasTrueMark) s.channels
  pub in_limbo : AllByRecursion (λ e. HasTrueMark e.1.held) s.limbo

-- a new packet has no difference, and a pattern has eight bits
abbrev pub IsFair : Step → Type 0
IsFair (Put c wire) = difference wire ≡ 0
IsFair (Flip c bit pattern) = pattern < 256
IsFair _ = Unit {0}

-- links without packets have no false mark
abbrev pub EmptyHasTrueMarks : Type 0
EmptyHasTrueMarks = (n : Network) → HasTrueMarks (empty_links n)

-- marks stay true
abbrev pub MarksStayTrue : Type 0
MarksStayTrue = (s : LinkState) (xs : List Step) → AllByRecursion IsFair xs → HasTrueMarks s
    → HasTrueMarks (stepped_all s xs)
