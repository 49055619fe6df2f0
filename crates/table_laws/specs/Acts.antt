-- What holds of tables after every list of acts.
use Rattle.std.specs.Prelude.{◌≡◌, ℕ, ◌<◌, ◌≤◌, pos, List, [], ◌∷◌, Some, Ok}
use Rattle.net_defs.specs.Network.{Network}
use Rattle.packet_defs.specs.declared.kind.Kind.TheVariants.{Mapping, Gm}
use Rattle.packet_defs.specs.Packet.{packet_of, difference}
use Rattle.packet_defs.specs.Burst.{flipped}
use Rattle.packet_defs.specs.Host.{decode}
use Rattle.world_defs.specs.History.{IsHistory, fabric_at}
use Rattle.world_defs.specs.Links.{Held, packet_in}
use Rattle.world_defs.specs.Mapping.{RoutePart, Part, decode_mapping}
use Rattle.net_defs.specs.Dependencies.{IsBefore, HasNoCycle}
use Rattle.world_defs.specs.Table.{Adoption, ActiveTable, last_epoch, at_in}
use Rattle.world_defs.specs.World.{WorldState, host_count, node_at, epoch_of}
use Rattle.world_defs.specs.Sound.{installed_channels}
use Rattle.world_defs.specs.Acts.{AreAdoptable, IsReached}
use Rattle.table_laws.specs.Set.{IsPart, IsActive, IsTable}

-- Why an act that may happen flips eight bits at most: a burst of nine, with the divisor's own bits, leaves no
-- difference. Here it changes both turns of a packet.
abbrev pub WidePatternIsUnseen : Type 0
WidePatternIsUnseen =
    (flipped (packet_of (pos 1 ∷ pos 0 ∷ []) Gm (7 ∷ [])) 7 263 ≡ packet_of (pos 3 ∷ pos 14 ∷ []) Gm (7 ∷ []))
    × (difference (flipped (packet_of (pos 1 ∷ pos 0 ∷ []) Gm (7 ∷ [])) 7 263) ≡ 0)

-- each host's table is of the adopted set
abbrev pub TablesAreOfSet : Type 0
TablesAreOfSet = (n : Network) (w : WorldState) → IsReached n w → (h : ℕ) → h < host_count w
    → IsTable w.adopted h (node_at w h).table

-- what is active is exactly the set's routes from its host, by the set's epoch; without a set nothing is
abbrev pub ActiveIsOfSet : Type 0
ActiveIsOfSet = (n : Network) (w : WorldState) (h : ℕ) (t : ActiveTable) → IsReached n w
    → (node_at w h).table.active ≡ Some t → IsActive w.adopted h t

-- the adopted set has an epoch from 1 on, and was adoptable in the fabric as it stood then
abbrev pub AdoptedIsAdoptable : Type 0
AdoptedIsAdoptable = (n : Network) (w : WorldState) (a : Adoption) → IsReached n w → w.adopted ≡ Some a
    → ((0 < a.epoch) × (a.epoch ≤ last_epoch)) × AreAdoptable (fabric_at w.links.cables a.at) a.routes

-- The cables are a history that begins with the fabric; they were accepted at the adoption.
pub record HasHistory (n : Network) (w : WorldState) : Type 0 where
  pub history : IsHistory w.links.cables
  pub first : fabric_at w.links.cables 0 ≡ n
  pub accepted : w.links.cables.accepted ≡ at_in w.adopted
  pub began : at_in w.adopted ≤ w.links.cables.changes

-- so it is after every list of acts
abbrev pub CablesAreHistory : Type 0
CablesAreHistory = (n : Network) (w : WorldState) → IsReached n w → HasHistory n w

-- the links count the epochs of adopted sets
abbrev pub LinksAreOfEpoch : Type 0
LinksAreOfEpoch = (n : Network) (w : WorldState) → IsReached n w → w.links.epoch ≡ epoch_of w

-- whatever a host would read as a part of a packet on its way is a part of the adopted set, or of an epoch before it
abbrev pub PartsAreOfSet : Type 0
PartsAreOfSet =
    (n : Network) (w : WorldState) (c : ℕ) (held : Held) (payload : List ℕ) (p : RoutePart) → IsReached n w
    → packet_in w.links c ≡ Some held
    → decode held.wire ≡ Ok (Mapping, payload) → decode_mapping payload ≡ Some (Part p) → IsPart w.adopted p.dst p

-- the channels of the installed routes wait in no cycle
abbrev pub InstalledHasNoCycle : Type 0
InstalledHasNoCycle = (n : Network) (w : WorldState) → IsReached n w → HasNoCycle (IsBefore (installed_channels w))
