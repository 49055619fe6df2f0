-- When the answers of a journal can be those of a fabric.
use Rattle.std.specs.Prelude.{ℕ, List}
use Rattle.net_defs.specs.Network.{Network, IsFabric}
use Rattle.journal_defs.specs.declared.entry.Entry.{Entry}
use Rattle.journal_defs.specs.Truth.{IsTrueWhereFound}

-- The answers other than Nothing are true of one fabric.
pub record IsTrueOfOne (host : ℕ) (j : List Entry) : Type 0 where
  pub fabric : Network
  pub is_fabric : IsFabric fabric
  pub told : IsTrueWhereFound fabric host j
