-- The bytes of a blob, wherever they are held.
use Rattle.std.specs.Prelude.{ℕ, List, ◌≡◌, ◌≤◌, ◌+◌, ◌%◌, ◌∷◌, [], length, map, take, refl}
use Rattle.std.specs.List.{range_with_len}
use Rattle.gm_defs.specs.declared.blob.Held.{Held}
use Rattle.gm_defs.specs.declared.blob.Held.TheVariants.{Own, Front, Counted}

-- so many bytes that count up: the first is this, and each is one more than the one before it, modulo 256
abbrev pub counted : ℕ → ℕ → List ℕ
counted first len = map (λ i. (first + i) % 256) (range_with_len 0 len)

-- after 255 comes 0
past_the_greatest : counted 254 4 ≡ 254 ∷ 255 ∷ 0 ∷ 1 ∷ []
past_the_greatest = refl

-- its own bytes, so many of a block, or bytes that count up
abbrev pub held_bytes : Held → List ℕ
held_bytes (Own bytes) = bytes.items
held_bytes (Front block len) = take len block.value.items
held_bytes (Counted first len) = counted first len

-- the block has so many, and of those that count up there are so many
abbrev pub IsWithin : Held → Type 0
IsWithin (Own bytes) = Unit {0}
IsWithin (Front block len) = len ≤ length block.value.items
IsWithin (Counted first len) = len ≤ 65536
