-- Ways added one after another to what is known of where ways begin.
use Rattle.std.specs.Prelude.{◌≡◌, ℕ, pos, nat_eq, if◌then◌else◌, List, [], ◌∷◌, ◌++◌, Option, Some, None}
use Rattle.net_defs.specs.Turn.{IsTurn}
use Rattle.port_align.specs.declared.end.NodePort.{NodePort}
use Rattle.replicate_merge.specs.declared.meeting.Meeting.{Meeting}
use Rattle.replicate_merge.specs.declared.meeting.HostNode.{HostNode}
use Rattle.replicate_merge.specs.declared.way.Spot.{Spot}
use Rattle.replicate_merge.specs.declared.way.Spot.TheVariants.{Address, Port}
use Rattle.replicate_merge.specs.Work.{LearnsEnd}
use Rattle.replicate_merge.specs.Ends.{end_at}

-- the node that is known of a host's address
abbrev pub node_of_host : List HostNode → ℕ → Option ℕ
node_of_host [] address = None
node_of_host (h ∷ hs) address = if nat_eq h.address address then Some h.node else node_of_host hs address

-- a host is cabled by its port 0
abbrev pub host_end : Option ℕ → Option NodePort
host_end None = None
host_end (Some n) = Some (record { node = n; port = pos 0 })

-- what is known of a spot: a node of a host's address, or a far end of a port of a class
abbrev pub known_at : List HostNode → List (Option NodePort) → Spot → Option NodePort
known_at hosts ends (Address address) = host_end (node_of_host hosts address)
known_at hosts ends (Port class port) = end_at ends class port

-- a spot at a port is one at a port from -15 to 15
abbrev pub IsTurnSpot : Spot → Type 0
IsTurnSpot (Address address) = Unit {0}
IsTurnSpot (Port class port) = IsTurn port

-- The end of a way was learnt, where none was known of where the way begins; else it is to be one with the end that
-- is known there.
pub data AddsEnd (begin : Spot) (end : NodePort) (old new : Spot
    → Option NodePort) (before after : List Meeting) : Type 0 where
  is_learnt : LearnsEnd old new begin end → after ≡ before → AddsEnd begin end old new before after
  is_met : (first : NodePort) → old begin ≡ Some first → ((s : Spot) → new s ≡ old s)
      → after ≡ before ++ record { first = first; second = end } ∷ [] → AddsEnd begin end old new before after
