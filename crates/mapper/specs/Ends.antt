-- How the growth of a journal ended.
use Rattle.std.specs.Prelude.{◌≡◌, ℕ, ◌≤◌, List}
use Rattle.net_defs.specs.Network.{Network}
use Rattle.journal_defs.specs.declared.entry.Entry.{Entry}
use Rattle.journal_defs.specs.Truth.{IsTrueJournal}
use Rattle.journal_defs.specs.Growth.{IsGrown, IsEndedAtLimit, IsClosed}
use Rattle.mapper.specs.declared.mapping.MapEnd.{MapEnd}
use Rattle.mapper.specs.declared.mapping.MapEnd.TheVariants.{Closed, OpenAtDepth, OpenAtNodes}

-- A journal's end, which is one of three: at the limit of nodes; else closed; else open, since the depth cut the
-- growth.
abbrev pub IsEnd : ℕ → List Entry → MapEnd → Type 0
IsEnd host j OpenAtNodes = IsEndedAtLimit j
IsEnd host j Closed = (¬ IsEndedAtLimit j) × IsClosed host j
IsEnd host j OpenAtDepth = (¬ IsEndedAtLimit j) × (¬ IsClosed host j)

-- Each journal of true answers that has grown to a greater depth is this one.
abbrev pub IsOneDeeper : Network → ℕ → ℕ → List Entry → Type 0
IsOneDeeper n host depth j = (more : ℕ) (l : List Entry) → depth ≤ more → IsTrueJournal n host l → IsGrown host more l
    → l ≡ j
