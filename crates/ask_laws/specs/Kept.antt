-- What an ask leaves as it was.
use Rattle.std.specs.Prelude.{◌≡◌, ℕ, ◌≤◌, ℤ, List, nat_eq, None}
use Rattle.std.specs.Map.{lookup}
use Rattle.world_defs.specs.Later.{OnlyPulled}
use Rattle.world_defs.specs.Node.{NodeState}
use Rattle.world_defs.specs.World.{WorldState, host_count, node_at}
use Rattle.world_defs.specs.Logs.{ask}
use Rattle.world_defs.specs.EightBits.{HasByteFaults}
use Rattle.ask_laws.specs.Premises.{CanAsk}

-- A host's connections and ports are as before.
pub record SamePorts (n m : NodeState) : Type 0 where
  pub lanes : m.lanes ≡ n.lanes
  pub ports : m.ports ≡ n.ports

-- A host's table, connections and ports are as before.
pub record SameNode (n m : NodeState) : Type 0 where
  pub table : m.table ≡ n.table
  pub lanes : m.lanes ≡ n.lanes
  pub ports : m.ports ≡ n.ports

-- Cables are pulled at most; each host is the same in what is to stay of it; the clients and the adopted routes are as
-- before; no fault is planned anew; and no count falls.
pub record IsKept (Same : NodeState → NodeState → Type 0) (w v : WorldState) : Type 0 where
  pub pulled : OnlyPulled w.links.cables v.links.cables
  pub hosts : host_count v ≡ host_count w
  pub nodes : (h : ℕ) → Same (node_at w h) (node_at v h)
  pub clients : v.clients ≡ w.clients
  pub adopted : v.adopted ≡ w.adopted
  pub unplanned : (number : ℕ) → lookup (nat_eq number) w.plan ≡ None → lookup (nat_eq number) v.plan ≡ None
  pub byte_flips : HasByteFaults w → HasByteFaults v
  pub injected : w.injected ≤ v.injected
  pub struck : w.struck ≤ v.struck
  pub harmed : w.harmed ≤ v.harmed

-- what an ask leaves of a world, each host's table, connections and ports among it
abbrev pub IsAskKept : WorldState → WorldState → Type 0
IsAskKept w v = IsKept SameNode w v

-- an ask keeps them
abbrev pub AskKeeps : Type 0
AskKeeps = (made : ℕ) (w : WorldState) (mapper tries : ℕ) (walk : List ℤ) → CanAsk made w mapper walk
    → IsAskKept w (ask made mapper tries walk w).world

-- and the mapper can ask again, by another walk
abbrev pub CanAskAgain : Type 0
CanAskAgain = (made : ℕ) (w : WorldState) (mapper tries : ℕ) (walk next : List ℤ) → CanAsk made w mapper walk
    → CanAsk made w mapper next → CanAsk made (ask made mapper tries walk w).world mapper next
