-- A node and its ways added to the tables of joined classes.
use Rattle.std.specs.Prelude.{◌≡◌, ◌↔◌, ℕ, Bool, true, List, [], ◌∷◌, ◌++◌}
use Rattle.journal_defs.specs.declared.entry.Entry.{Entry}
use Rattle.journal_defs.specs.Growth.{IsExpanded}
use Rattle.journal_defs.specs.Tree.{Node, IsNode}
use Rattle.journal_defs.specs.Tree.Node.{Reached}
use Rattle.replicate_merge.specs.declared.settling.Joined.{Joined}
use Rattle.replicate_merge.specs.declared.way.Way.{Way}
use Rattle.replicate_merge.specs.Truth.{IsTrueOfOne}
use Rattle.replicate_merge.specs.Ways.{Has, IsWay}
use Rattle.replicate_merge.specs.Rounds.{IsSettlingIn}

-- An entry's node and its ways may be added to the tables of the entries before it.
pub record IsGrowing (host : ℕ) (j : List Entry) (e : Entry) (ns : List Node) (ways : List Way) (t : Joined)
    (more : List Way) (marked : Bool) : Type 0 where
  pub settled : IsSettlingIn host j j ns ways t []
  pub truth : IsTrueOfOne host (j ++ e ∷ [])
  pub node : IsNode (j ++ e ∷ []) (Reached e.walk)
  pub own : (marked ≡ true) ↔ IsExpanded j e.walk
  pub each : (w : Way) → Has more w → IsWay host (j ++ e ∷ []) (ns ++ Reached e.walk ∷ []) w

-- They may be those of some journal.
pub record MayGrow (ns : List Node) (t : Joined) (more : List Way) (marked : Bool) : Type 0 where
  pub host : ℕ
  pub journal : List Entry
  pub entry : Entry
  pub before : List Node
  pub ways : List Way
  pub after : ns ≡ before ++ Reached entry.walk ∷ []
  pub is : IsGrowing host journal entry before ways t more marked

-- The tables with the node and its ways, for each journal whose they may be.
abbrev pub Grows : List Node → List Way → Bool → Joined → Joined → Type 0
Grows ns more marked old new = (host : ℕ) (j : List Entry) (e : Entry) (before : List Node) (ways : List Way)
    → ns ≡ before ++ Reached e.walk ∷ [] → IsGrowing host j e before ways old more marked
    → IsSettlingIn host (j ++ e ∷ []) j ns (ways ++ more) new []
