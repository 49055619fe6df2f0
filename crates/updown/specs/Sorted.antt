-- Vertices sorted by level, then by number.
use Rattle.std.specs.Prelude.{ℕ, List, map, length, slice_index}
use Rattle.std.specs.List.Sorted.{IsPermutation, IsSorted}
use Rattle.std.specs.Ordering.{nat_cmp, ordering_then}
use Rattle.std.specs.declared.cmp.Ordering.{Ordering}
use Rattle.journal_defs.specs.Counting.{numbers_below}

-- by level, and vertices of one level by number
abbrev pub by_level : ℕ × ℕ → ℕ × ℕ → Ordering
by_level x y = ordering_then (nat_cmp x.0 y.0) (nat_cmp x.1 y.1)

-- each vertex with its level
abbrev pub levelled : List ℕ → List (ℕ × ℕ)
levelled ls = map (λ v. (slice_index ls v, v)) (numbers_below (length ls))

-- These are all vertices with their levels, sorted.
pub record AreByLevel (ls : List ℕ) (vertices : List (ℕ × ℕ)) : Type 0 where
  pub all : IsPermutation (levelled ls) vertices
  pub rise : IsSorted by_level vertices
