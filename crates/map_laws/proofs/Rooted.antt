-- What growth gives a journal: its nodes are a tree, and the empty walk is its root.
use Rattle.std.proofs.Common.{◌≡◌, ◌<◌, List, [], length, true, subst, arith, ◌⊎◌, inl, inr}
use Rattle.std.specs.Prelude.{ℕ}
use Rattle.journal_defs.specs.declared.entry.Entry.{Entry}
use Rattle.journal_defs.specs.Tree.{is_asked, nodes}
use Rattle.journal_defs.specs.Growth.{IsGrown, IsEndedByDepth, IsEndedAtLimit, node_limit}
use Rattle.map_laws.proofs.Asks.{HasTree, growing-tree}
use Rattle.map_laws.proofs.Near.{starts}

-- The empty walk is asked, and what stands before an asked turn is a switch node.
pub record IsRooted (j : List Entry) : Type 0 where
  pub rooted : is_asked j [] ≡ true
  pub tree : HasTree j

pub grown-rooted : (host depth : ℕ) (j : List Entry) → IsGrown host depth j → IsRooted j
grown-rooted host depth j g = record { rooted = by g.ended (starts host depth j g.growing); tree = growing-tree host depth j g.growing }
  where
    by : IsEndedByDepth host depth j ⊎ IsEndedAtLimit j → (j ≡ []) ⊎ (is_asked j [] ≡ true) → is_asked j [] ≡ true
    by (inl e) s = e.started
    by (inr e) (inl s) = let p : node_limit < length (nodes []) = subst (λ i. node_limit < length (nodes i)) s e.passed in absurd (omega arith)
    by (inr e) (inr s) = s
