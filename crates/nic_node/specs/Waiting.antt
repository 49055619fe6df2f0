-- To which peers something isn't acknowledged.
use Rattle.std.specs.Prelude.{◌≡◌, ℕ, ◌<◌, ◌≤◌}
use Rattle.world_defs.specs.Node.{NodeState, unacknowledged_to}

-- The least peer of so many that isn't below an address, and to which something isn't acknowledged.
pub record IsNextUnacked (n : NodeState) (hosts from peer : ℕ) : Type 0 where
  pub above : from ≤ peer
  pub there : peer < hosts
  pub waits : 0 < unacknowledged_to n peer
  pub passed : (k : ℕ) → from ≤ k → k < peer → unacknowledged_to n k ≡ 0
