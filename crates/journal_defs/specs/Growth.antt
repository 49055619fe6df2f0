-- How a mapper's journal grows to a depth, and when it is closed.
use Rattle.std.specs.Prelude.{◌≡◌, ◌⊎◌, ℕ, suc, ◌<◌, ◌≤◌, ℤ, negsuc, ◌<ℤ◌, true, false, List, [], ◌∷◌, ◌++◌, length}
use Rattle.journal_defs.specs.declared.entry.Entry.{Entry}
use Rattle.journal_defs.specs.Walks.{walk_below, IsOnward}
use Rattle.journal_defs.specs.Tree.{Node, IsNode, IsSwitchNode, is_asked, nodes}
use Rattle.journal_defs.specs.Tree.Node.{Reached}
use Rattle.journal_defs.specs.Replicates.{Replicates}

-- all 30 turns of a node are asked
pub record IsExpanded (j : List Entry) (w : List ℤ) : Type 0 where
  pub asked : (t : ℤ) → IsOnward t → is_asked j (w ++ t ∷ []) ≡ true

-- some turn of a node is asked
pub record IsBegun (j : List Entry) (w : List ℤ) : Type 0 where
  pub node : IsNode j (Reached w)
  pub turn : ℤ
  pub onward : IsOnward turn
  pub asked : is_asked j (w ++ turn ∷ []) ≡ true

-- no node has some but not all of its turns asked
pub record IsAtRest (j : List Entry) : Type 0 where
  pub expanded : (w : List ℤ) → IsBegun j w → IsExpanded j w

-- a node is a replicate of an expanded node
pub record HasExpanded (host : ℕ) (j : List Entry) (u : Node) : Type 0 where
  pub member : List ℤ
  pub offset : ℤ
  pub one_class : Replicates host j u (Reached member) offset
  pub expanded : IsExpanded j member

-- the least turn of a node that isn't asked
pub record IsLeastUnasked (j : List Entry) (w : List ℤ) (t : ℤ) : Type 0 where
  pub onward : IsOnward t
  pub unasked : is_asked j (w ++ t ∷ []) ≡ false
  pub lesser : (s : ℤ) → IsOnward s → s <ℤ t → is_asked j (w ++ s ∷ []) ≡ true

-- a walk crosses its host's cable, and one for each turn
abbrev pub crossed : List ℤ → ℕ
crossed w = suc (length w)

-- The node to expand next is the least switch that crosses fewer than so many cables and whose class has no expanded
-- member.
pub record IsChosen (host depth : ℕ) (j : List Entry) (w : List ℤ) : Type 0 where
  pub switch : IsSwitchNode j w
  pub near : crossed w < depth
  pub fresh : ¬ HasExpanded host j (Reached w)
  pub lesser : (v : List ℤ) → IsSwitchNode j v → walk_below v w ≡ true → HasExpanded host j (Reached v)

-- The next ask to a depth is the empty walk first; then the least turn of the least node that is begun and not
-- expanded; with none left, the turn -15 of the next node.
pub data NextAsk (host depth : ℕ) (j : List Entry) (x : List ℤ) : Type 0 where
  first : j ≡ [] → x ≡ [] → NextAsk host depth j x
  goes_on : (w : List ℤ) (t : ℤ) → IsBegun j w → IsLeastUnasked j w t
      → ((v : List ℤ) → IsBegun j v → walk_below v w ≡ true → IsExpanded j v) → x ≡ w ++ t ∷ [] → NextAsk host depth j x
  begins : (w : List ℤ) → IsAtRest j → IsChosen host depth j w → x ≡ w ++ negsuc 14 ∷ [] → NextAsk host depth j x

-- each entry was the next ask after the entries before it
pub data IsGrowing (host depth : ℕ) : List Entry → Type 0 where
  nothing : IsGrowing host depth []
  more : {j : List Entry} → (before : List Entry) (e : Entry) → IsGrowing host depth before
      → NextAsk host depth before e.walk → j ≡ before ++ e ∷ [] → IsGrowing host depth j

-- the most nodes that a journal keeps, the mapper's host among them
abbrev pub node_limit : ℕ
node_limit = 65536

-- there is no next ask
pub record IsEndedByDepth (host depth : ℕ) (j : List Entry) : Type 0 where
  pub started : is_asked j [] ≡ true
  pub at_rest : IsAtRest j
  pub expanded : (w : List ℤ) → IsSwitchNode j w → crossed w < depth → HasExpanded host j (Reached w)
  pub kept : length (nodes j) ≤ node_limit

-- the last entry makes more nodes than the limit
pub record IsEndedAtLimit (j : List Entry) : Type 0 where
  pub before : List Entry
  pub last : Entry
  pub whole : j ≡ before ++ last ∷ []
  pub kept : length (nodes before) ≤ node_limit
  pub passed : node_limit < length (nodes j)

-- a journal that has grown to a depth
pub record IsGrown (host depth : ℕ) (j : List Entry) : Type 0 where
  pub growing : IsGrowing host depth j
  pub ended : IsEndedByDepth host depth j ⊎ IsEndedAtLimit j

-- each class of switches has an expanded member
pub record IsClosed (host : ℕ) (j : List Entry) : Type 0 where
  pub expanded : (w : List ℤ) → IsSwitchNode j w → HasExpanded host j (Reached w)
