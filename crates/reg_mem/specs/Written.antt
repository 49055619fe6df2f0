-- What a buffer has after bytes were written into it.
use Rattle.std.specs.Prelude.{ℕ, ◌+◌, List, ◌++◌, length, take, drop}

-- a buffer with these bytes from a place on; before and after them its own bytes stay
abbrev pub written : List ℕ → ℕ → List ℕ → List ℕ
written buffer at part = take at buffer ++ part ++ drop (at + length part) buffer
