-- The bytes of a buffer, wherever they are held.
use Rattle.std.specs.Prelude.{◌≡◌, ℕ, ◌≤◌, Bool, true, false, List, [], length, replicate, vec_capacity}
use Rattle.gm_defs.specs.Blob.{counted}
use Rattle.reg_mem.specs.declared.held.Held.{Held}
use Rattle.reg_mem.specs.declared.held.Held.TheVariants.{Own, Zeros, Counted, Shared}
use Rattle.reg_mem.specs.declared.held.Sharing.{Sharing}

-- the buffer's own bytes, zeros or bytes that count up that weren't written, or bytes that it shares with messages
abbrev pub held_bytes : Held → List ℕ
held_bytes (Own bytes) = bytes.items
held_bytes (Zeros len room) = replicate len 0
held_bytes (Counted first len room) = counted first len
held_bytes (Shared both) = both.value.whole

-- they are written, and no message shares them
abbrev pub is_own : Held → Bool
is_own (Own bytes) = true
is_own (Zeros len room) = false
is_own (Counted first len room) = false
is_own (Shared both) = false

-- there is room for shared bytes, in which nothing is
abbrev pub IsRoomy : Sharing → Type 0
IsRoomy s = (s.room.items ≡ []) × (length s.whole ≤ vec_capacity s.room)

-- where messages share them, or they weren't written, there is room for them, in which nothing is
abbrev pub HasRoom : Held → Type 0
HasRoom (Own bytes) = Unit {0}
HasRoom (Zeros len room) = (room.items ≡ []) × (len ≤ vec_capacity room) × (len ≤ 65536)
HasRoom (Counted first len room) = (room.items ≡ []) × (len ≤ vec_capacity room) × (len ≤ 65536)
HasRoom (Shared both) = IsRoomy both.value
