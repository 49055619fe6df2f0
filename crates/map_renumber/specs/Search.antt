-- A search through a map by levels: which vertices were found, with their entry ports.
use Rattle.std.specs.Prelude.{◌≡◌, ◌⊎◌, ℕ, suc, ◌+◌, ◌<◌, ℤ, pos, ◌+ℤ◌, ◌-ℤ◌, true, false, List, [], ◌∷◌, ◌++◌, map}
use Rattle.std.specs.Prelude.{length, slice_get, slice_index_or, take, unwrap_or, Option, Some, None}
use Rattle.net_defs.specs.Turn.{IsTurn}
use Rattle.journal_defs.specs.Tree.{Node, node_below}
use Rattle.journal_defs.specs.Tree.Node.{Mapper, Reached}
use Rattle.map_defs.specs.declared.vertex.MapCable.{MapCable}
use Rattle.map_defs.specs.NetMap.{NetMap, MapPort, first_end, second_end, map_far, is_switch_vertex}
use Rattle.fabric_map.specs.Growing.{cable_refusal}
use Rattle.map_renumber.specs.Canon.{entered, start_port}

-- the vertex has this number
abbrev pub HasNumber : List (Option ℕ) → ℕ → ℕ → Type 0
HasNumber numbers x v = slice_get numbers x ≡ Some (Some v)

-- the turn of a place from 0 to 30
abbrev pub turn_at : ℕ → ℤ
turn_at k = pos k -ℤ pos 15

-- the node behind a node's port
abbrev pub after : Node → ℤ → Node
after Mapper t = Reached []
after (Reached w) t = Reached (w ++ t ∷ [])

-- how many have nothing
abbrev pub free : List (Option ℕ) → ℕ
free [] = 0
free (None ∷ os) = suc (free os)
free (Some x ∷ os) = free os

-- a place of a vertex comes before another, or before the next vertex
abbrev pub IsDone : ℕ → ℕ → ℕ → ℕ → Type 0
IsDone v s next k = (v < next) ⊎ ((v ≡ next) × (s < k))

-- the search goes on from vertex 0 and from switches
abbrev pub GoesOn : NetMap → ℕ → MapPort → Type 0
GoesOn m v d = (v ≡ 0) ⊎ (is_switch_vertex m d.v ≡ true)

-- a node was found behind a port of an earlier one
pub record IsBehind (m : NetMap) (found : List MapPort) (ways : List Node) (next k : ℕ) (u : Node)
    (d : MapPort) : Type 0 where
  pub vertex : ℕ
  pub place : ℕ
  pub way : Node
  pub entry : MapPort
  pub done : IsDone vertex place next k
  pub is_way : slice_get ways vertex ≡ Some way
  pub is_entry : slice_get found vertex ≡ Some entry
  pub is_after : u ≡ after way (turn_at place)
  pub far : map_far m (record { v = entry.v; p = entry.p +ℤ turn_at place }) ≡ Some d
  pub at_start : vertex ≡ 0 → place ≡ 15

-- What is known of a search that has gone on from all vertices before one, and from the first places of that one.
pub record IsSearch (m : NetMap) (found : List MapPort) (numbers : List (Option ℕ)) (ways : List Node)
    (next k : ℕ) : Type 0 where
  pub counted : length numbers ≡ length m.vertices
  pub left : free numbers + length found ≡ length m.vertices
  pub one_each : length ways ≡ length found
  pub start_way : slice_get ways 0 ≡ Some Mapper
  pub start_entry : slice_get found 0 ≡ Some start_port
  pub placed : (v : ℕ) (d : MapPort) → slice_get found v ≡ Some d → HasNumber numbers d.v v
  pub named : (x v : ℕ) → HasNumber numbers x v → (p : ℤ) × (slice_get found v ≡ Some (record { v = x; p = p }))
  pub enters : (v : ℕ) (u : Node) (d : MapPort) → slice_get ways v ≡ Some u → slice_get found v ≡ Some d
      → entered m u ≡ Some d
  pub least : (v : ℕ) (u : Node) (d : MapPort) (x : Node) (q : ℤ) → slice_get ways v ≡ Some u
      → slice_get found v ≡ Some d → entered m x ≡ Some (record { v = d.v; p = q }) → node_below x u ≡ false
  pub rising : (v w : ℕ) (u x : Node) → v < w → slice_get ways v ≡ Some u → slice_get ways w ≡ Some x
      → node_below u x ≡ true
  pub behind : (v : ℕ) (u : Node) (d : MapPort) → slice_get ways v ≡ Some u → slice_get found v ≡ Some d
      → (v ≡ 0) ⊎ IsBehind m found ways next k u d
  pub closed : (v s : ℕ) (d e : MapPort) → IsDone v s next k → s < 31 → slice_get found v ≡ Some d → GoesOn m v d
      → map_far m (record { v = d.v; p = d.p +ℤ turn_at s }) ≡ Some e → (x : ℕ) × HasNumber numbers e.v x

-- a port as the code has it
abbrev pub port_of_pair : ℕ × ℤ → MapPort
port_of_pair d = record { v = d.0; p = d.1 }

-- A search that has come so far, whatever its ways are.
pub record IsSearchTo (m : NetMap) (found : List (ℕ × ℤ)) (numbers : List (Option ℕ)) (next k : ℕ) : Type 0 where
  pub ways : List Node
  pub search : IsSearch m (map port_of_pair found) numbers ways next k

-- The search goes on from the vertex of a number, which was found.
pub record GoesOnFrom (m : NetMap) (found : List (ℕ × ℤ)) (next : ℕ) : Type 0 where
  pub entry : ℕ × ℤ
  pub there : slice_get found next ≡ Some entry
  pub goes : GoesOn m next (port_of_pair entry)

-- the number of a vertex
abbrev pub number_of : List (Option ℕ) → ℕ → ℕ
number_of numbers x = unwrap_or (slice_index_or numbers x None) 0

-- the port by which the vertex of a number was entered
abbrev pub entry_of : List MapPort → ℕ → ℤ
entry_of found v = (slice_index_or found v start_port).p

-- a port by the new numbers
abbrev pub moved_port : List MapPort → List (Option ℕ) → MapPort → MapPort
moved_port found numbers d = record { v = number_of numbers d.v; p = d.p -ℤ entry_of found (number_of numbers d.v) }

-- a cable by the new numbers
abbrev pub moved_cable : List MapPort → List (Option ℕ) → MapCable → MapCable
moved_cable found numbers c = record {
  v = (moved_port found numbers (first_end c)).v;
  p = (moved_port found numbers (first_end c)).p;
  w = (moved_port found numbers (second_end c)).v;
  q = (moved_port found numbers (second_end c)).p;
}

-- a map with these cables more by the new numbers
abbrev pub with_moved : NetMap → List MapPort → List (Option ℕ) → List MapCable → NetMap
with_moved k found numbers cs = record {
  vertices = k.vertices;
  cables = k.cables ++ map (moved_cable found numbers) cs;
  core = k.core;
}

-- Each of these cables is refused for nothing by its new numbers, after those before it.
abbrev pub AreTaken : NetMap → List MapPort → List (Option ℕ) → List MapCable → Type 0
AreTaken k found numbers cs = (i : ℕ) (c : MapCable) → slice_get cs i ≡ Some c
    → cable_refusal (with_moved k found numbers (take i cs)) (moved_cable found numbers c) ≡ None

-- A port of a vertex that has a number, with the port by which that was entered: both are turns from some port.
pub record IsKnown (found : List (ℕ × ℤ)) (numbers : List (Option ℕ)) (d : MapPort) : Type 0 where
  pub number : ℕ
  pub is_number : HasNumber numbers d.v number
  pub entry : ℕ × ℤ
  pub there : slice_get found number ≡ Some entry
  pub in_range : IsTurn d.p
  pub entry_in_range : IsTurn entry.1
