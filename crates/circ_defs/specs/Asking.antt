-- In which order the whole tree is asked, and where the asking ends.
use Rattle.std.specs.Prelude.{◌≡◌, ℕ, ◌<◌, ◌≤◌, ℤ, false, true, List, [], ◌∷◌, ◌++◌, length, if◌then◌else◌}
use Rattle.net_defs.specs.Network.{Network}
use Rattle.journal_defs.specs.declared.entry.Entry.{Entry}
use Rattle.journal_defs.specs.Walks.{walk_below, IsOnward}
use Rattle.journal_defs.specs.Tree.{IsSwitchNode, is_asked, is_found, nodes}
use Rattle.journal_defs.specs.Growth.{crossed, node_limit}
use Rattle.circ_defs.specs.Circuit.{circuit_answer}

-- a walk of the whole tree to a depth: the empty one, or a switch node that crosses fewer cables with a turn more
pub data IsOfTree (depth : ℕ) (j : List Entry) (x : List ℤ) : Type 0 where
  first : x ≡ [] → IsOfTree depth j x
  onward : (w : List ℤ) (t : ℤ) → IsSwitchNode j w → crossed w < depth → IsOnward t → x ≡ w ++ t ∷ []
      → IsOfTree depth j x

-- The next ask is the least walk of the tree, in the order of walks, that isn't asked.
pub record IsNextOfTree (depth : ℕ) (j : List Entry) (x : List ℤ) : Type 0 where
  pub of_tree : IsOfTree depth j x
  pub unasked : is_asked j x ≡ false
  pub least : (y : List ℤ) → IsOfTree depth j y → is_asked j y ≡ false → walk_below y x ≡ false

-- each entry is the circuit answer to the next ask after the entries before it
pub data IsTreeGrowing (n : Network) (host depth : ℕ) : List Entry → Type 0 where
  nothing : IsTreeGrowing n host depth []
  more : {j : List Entry} → (before : List Entry) (e : Entry) → IsTreeGrowing n host depth before
      → IsNextOfTree depth before e.walk → e.answer ≡ circuit_answer n host e.walk → j ≡ before ++ e ∷ []
      → IsTreeGrowing n host depth j

-- every walk of the tree is asked, and its nodes keep the limit
pub record IsTreeEnded (depth : ℕ) (j : List Entry) : Type 0 where
  pub asked : (x : List ℤ) → IsOfTree depth j x → is_asked j x ≡ true
  pub kept : length (nodes j) ≤ node_limit

-- what a journal found: its entries other than Nothing
abbrev pub found_of : List Entry → List Entry
found_of [] = []
found_of (e ∷ j) = if is_found e.answer then e ∷ found_of j else found_of j
