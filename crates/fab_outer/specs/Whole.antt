-- What `read_all` and `write_all` leave.
use Rattle.std.specs.Prelude.{◌≡◌, ℕ, ◌<◌, ◌≤◌, List, ◌++◌, length, Option, IfSome}
use Rattle.std.specs.Io.KnownBytes.{Appends, Consumes, IsAtEnd}

-- This content was all that was left.
abbrev pub IsWhole : Option (List ℕ) → Option (List ℕ) → List ℕ → Type 0
IsWhole before now content = Consumes before now content × IsAtEnd now

-- More than so many bytes were left. Silent where the source doesn't show them.
abbrev pub IsLonger : Option (List ℕ) → ℕ → Type 0
IsLonger before limit = IfSome before (λ left. limit < length left)

-- So many bytes went from the front of what was left.
abbrev pub HasGone : Option (List ℕ) → Option (List ℕ) → ℕ → Type 0
HasGone before now n = (went : List ℕ) × Consumes before now went × (length went ≡ n)

-- At most so many bytes went from the front of what was left.
abbrev pub GoesOn : Option (List ℕ) → Option (List ℕ) → ℕ → Type 0
GoesOn before now most = (went : List ℕ) × Consumes before now went × (length went ≤ most)

-- A sink took these bytes from the front of some.
abbrev pub TakesPrefix : Option (List ℕ) → Option (List ℕ) → List ℕ → Type 0
TakesPrefix before now bytes = (part : List ℕ) × (rest : List ℕ) × (bytes ≡ part ++ rest) × Appends before now part

-- A sink took bytes from the front of some, and not all of them: a proper prefix.
abbrev pub TakesProperPrefix : Option (List ℕ) → Option (List ℕ) → List ℕ → Type 0
TakesProperPrefix before now bytes =
    (part : List ℕ) × (rest : List ℕ) × (bytes ≡ part ++ rest) × (0 < length rest) × Appends before now part

-- So many bytes went from a source to the end of a content.
abbrev pub Appended : Option (List ℕ) → Option (List ℕ) → List ℕ → List ℕ → ℕ → Type 0
Appended before now old new n = (went : List ℕ) × Consumes before now went × (new ≡ old ++ went) × (length went ≡ n)
