-- The tree of a journal: the mapper's host, and the walks that found a host or a switch.
use Rattle.std.specs.Prelude.{◌≡◌, ℕ, ℤ, pos, Bool, true, false, List, [], ◌∷◌, ◌++◌, map, if◌then◌else◌, Option, Some}
use Rattle.std.specs.Prelude.{None, is_some}
use Rattle.net_defs.specs.declared.place.Answer.{Answer}
use Rattle.net_defs.specs.declared.place.Answer.TheVariants.{Host, Switch, Nothing}
use Rattle.net_defs.specs.Network.{Apart}
use Rattle.journal_defs.specs.declared.entry.Entry.{Entry}
use Rattle.net_defs.specs.Turn.{same_turns}
use Rattle.journal_defs.specs.Walks.{walk_below}

-- no walk stands twice in a journal
abbrev pub IsJournal : List Entry → Type 0
IsJournal j = Apart (map (λ e. e.walk) j)

-- the answer to a walk, where it stands in the journal
abbrev pub answered : List Entry → List ℤ → Option Answer
answered [] w = None
answered (e ∷ j) w = if same_turns e.walk w then Some e.answer else answered j w

-- the walk was asked
abbrev pub is_asked : List Entry → List ℤ → Bool
is_asked j w = is_some (answered j w)

-- a host or a switch was found
abbrev pub is_found : Answer → Bool
is_found (Host h) = true
is_found Switch = true
is_found Nothing = false

-- the answer, if there is one, is a host or a switch
abbrev pub has_found : Option Answer → Bool
has_found None = false
has_found (Some a) = is_found a

-- A node is the mapper's host, or what a walk reached. Its ports count from the port by which it was entered.
pub data Node : Type 0 where
  Mapper : Node
  Reached : List ℤ → Node

-- the mapper is a node, and so is a walk that found something
abbrev pub is_node : List Entry → Node → Bool
is_node j Mapper = true
is_node j (Reached w) = has_found (answered j w)

-- a node of the journal
abbrev pub IsNode : List Entry → Node → Type 0
IsNode j u = is_node j u ≡ true

-- a walk that found a switch
abbrev pub IsSwitchNode : List Entry → List ℤ → Type 0
IsSwitchNode j w = answered j w ≡ Some Switch

-- the address of the host that an answer found
abbrev pub host_in : Option Answer → Option ℕ
host_in (Some (Host h)) = Some h
host_in _ = None

-- the address of a node that is a host
abbrev pub host_of : ℕ → List Entry → Node → Option ℕ
host_of host j Mapper = Some host
host_of host j (Reached w) = host_in (answered j w)

-- the nodes of the walks, in the journal's order
abbrev pub reached : List Entry → List Node
reached [] = []
reached (e ∷ j) = if is_found e.answer then Reached e.walk ∷ reached j else reached j

-- all nodes: the mapper's host is the first
abbrev pub nodes : List Entry → List Node
nodes j = Mapper ∷ reached j

-- the mapper's host stands before each walk
abbrev pub node_below : Node → Node → Bool
node_below u Mapper = false
node_below Mapper (Reached w) = true
node_below (Reached v) (Reached w) = walk_below v w

-- Port p of a node leads to port i of another. A node's turn p leads to port 0 of the node that it reaches; so does
-- the mapper's own port 0. Each is read both ways.
pub data Leads (j : List Entry) : Node → ℤ → Node → ℤ → Type 0 where
  onward : {w x : List ℤ} {p : ℤ} → IsNode j (Reached w) → IsNode j (Reached x) → x ≡ w ++ p ∷ []
      → Leads j (Reached w) p (Reached x) (pos 0)
  back : {w x : List ℤ} {p : ℤ} → IsNode j (Reached w) → IsNode j (Reached x) → x ≡ w ++ p ∷ []
      → Leads j (Reached x) (pos 0) (Reached w) p
  out : IsNode j (Reached []) → Leads j Mapper (pos 0) (Reached []) (pos 0)
  home : IsNode j (Reached []) → Leads j (Reached []) (pos 0) Mapper (pos 0)
