-- Descriptors in a ring, which isn't made before there is something to hold.
use Rattle.std.specs.Prelude.{ℕ, ◌-◌, ◌≤◌, List, [], length, Option, Some, None}
use Rattle.circular_buffer.specs.Buffer.{Buffer}
use Rattle.gm_conn.specs.declared.desc.Desc.{Desc}

-- The descriptors, oldest first, and the room for more.
pub record Descs : Type 0 where
  pub items : List Desc
  pub spare : ℕ

-- what a ring holds, where it is made
abbrev pub held_in : Option (Buffer Desc) → Descs
held_in None = record { items = []; spare = 0 }
held_in (Some b) = record { items = b.items; spare = b.capacity - length b.items }

-- a ring holds no more than it can
abbrev pub IsRoomy : Option (Buffer Desc) → Type 0
IsRoomy None = Unit {0}
IsRoomy (Some b) = length b.items ≤ b.capacity
