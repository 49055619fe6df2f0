-- Which channels of the links are full.
use Rattle.std.specs.Prelude.{◌≡◌, ℕ, ◌<◌, ◌≤◌, length, Option, None, true, is_some}
use Rattle.world_defs.specs.Links.{LinkState, packet_in}
use Rattle.link_model.specs.FullSlots.{full_from}

-- the least channel that isn't below a number and holds a packet
abbrev pub next_full : LinkState → ℕ → Option ℕ
next_full s from = full_from s.channels from

-- A channel holds a packet, and of those from a number on it is the least.
pub record IsNextFull (s : LinkState) (from c : ℕ) : Type 0 where
  pub above : from ≤ c
  pub there : c < length s.channels
  pub full : is_some (packet_in s c) ≡ true
  pub passed : (k : ℕ) → from ≤ k → k < c → packet_in s k ≡ None
