-- What an ask is made over.
use Rattle.std.specs.Prelude.{◌≡◌, ℕ, ◌<◌, ◌≤◌, true, ℤ, List, length, nat_le}
use Rattle.std.specs.List.{AllByRecursion}
use Rattle.net_defs.specs.Turn.{IsTurn}
use Rattle.world_defs.specs.History.{CableHistory, IsHistory}
use Rattle.world_defs.specs.Links.{is_idle}
use Rattle.world_defs.specs.World.{WorldState, host_count}
use Rattle.world_defs.specs.EightBits.{HasByteFaults}
use Rattle.world_laws.specs.Shape.{IsWorld}

-- Cables of which none was plugged since so many changes: so the fabric that stood then has all that stand.
pub record HasStood (number : ℕ) (h : CableHistory) : Type 0 where
  pub history : IsHistory h
  pub made : number ≤ h.changes
  pub unplugged : AllByRecursion (λ x. nat_le x.plugged number ≡ true) h.wires

-- An ask of a mapper that was made after so many changes of cables: none was plugged since, the links are idle, the
-- mapper is a host, the walk has at most 64 turns, and each planned flip has a pattern of eight bits.
pub record CanAsk (number : ℕ) (w : WorldState) (mapper : ℕ) (walk : List ℤ) : Type 0 where
  pub stood : HasStood number w.links.cables
  pub world : IsWorld w
  pub idle : is_idle w.links ≡ true
  pub is_host : mapper < host_count w
  pub turns : AllByRecursion IsTurn walk
  pub few_turns : length walk ≤ 64
  pub byte_flips : HasByteFaults w
