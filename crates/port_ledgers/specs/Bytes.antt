-- Bytes that count up.
use Rattle.std.specs.Prelude.{ℕ, ◌+◌, ◌%◌, Bool, true, ◌&&◌, List, [], ◌∷◌, nat_eq}

-- each byte is one more than the one before it, and the first is this, modulo 256
abbrev pub counts_up : ℕ → List ℕ → Bool
counts_up due [] = true
counts_up due (b ∷ bs) = nat_eq b (due % 256) && counts_up (due + 1) bs
