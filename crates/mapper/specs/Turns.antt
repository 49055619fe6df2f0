-- The turns of a node in the order in which they are asked.
use Rattle.std.specs.Prelude.{◌≡◌, ℕ, ℤ, pos, ◌-ℤ◌, List, [], ◌∷◌, ◌++◌, nat_lt, if◌then◌else◌}

-- the turn that is asked as number k, from 0: -15 to -1, and then 1 to 15
abbrev pub turn_at : ℕ → ℤ
turn_at k = if nat_lt k 15 then pos k -ℤ pos 15 else pos k -ℤ pos 14

-- a walk goes on from these turns by one more
abbrev pub IsOnward : List ℤ → List ℤ → Type 0
IsOnward front w = (turn : ℤ) × (w ≡ front ++ turn ∷ [])
