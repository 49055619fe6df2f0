-- The cables that the walks of a journal show.
use Rattle.std.specs.Prelude.{◌≡◌, ℕ, ◌+◌, ◌<◌, ℤ, pos, ◌+ℤ◌, false, List, [], ◌∷◌, ◌++◌, length, slice_get}
use Rattle.std.specs.Prelude.{slice_index_or, unwrap_or, is_some, if◌then◌else◌, Option, Some, None}
use Rattle.net_defs.specs.Turn.{IsTurn}
use Rattle.map_defs.specs.declared.vertex.MapCable.{MapCable}
use Rattle.map_defs.specs.NetMap.{NetMap, MapPort, first_end, map_far}
use Rattle.fabric_map.specs.Growing.{with_cable, cable_refusal}
use Rattle.probe.specs.Keeping.{has_walk}
use Rattle.replicate_merge.specs.Table.{ClassTable}
use Rattle.replicate_merge.specs.Ways.{frame_at}
use Rattle.map_quotient.specs.Numbering.{class_at, IsVertexOf}

-- the vertex of a class
abbrev pub vertex_at : List (Option ℕ) → ℕ → ℕ
vertex_at vertices class = unwrap_or (slice_index_or vertices class None) 0

-- a port of a node as one of its class's vertex
abbrev pub port_of : ClassTable → List (Option ℕ) → ℕ → ℤ → MapPort
port_of c vertices n p = record { v = vertex_at vertices (class_at c n); p = p +ℤ (frame_at c.frames n).offset }

-- the cable between a port of a node, and the port by which another was entered
abbrev pub cable_between : ClassTable → List (Option ℕ) → ℕ → ℤ → ℕ → MapCable
cable_between c vertices m p n = record {
  v = (port_of c vertices m p).v;
  p = (port_of c vertices m p).p;
  w = (port_of c vertices n (pos 0)).v;
  q = (port_of c vertices n (pos 0)).p;
}

-- What the walk to a node shows: a cable from the mapper's host, or from the node in front; nothing where that was
-- not found.
pub data TellsCable (walks : List (List ℤ)) (c : ClassTable) (vertices : List (Option ℕ)) (walk : List ℤ) (n : ℕ)
    (o : Option MapCable) : Type 0 where
  from_mapper : walk ≡ [] → o ≡ Some (cable_between c vertices 0 (pos 0) n) → TellsCable walks c vertices walk n o
  from_node : (front : List ℤ) (turn : ℤ) (at : ℕ) → walk ≡ front ++ turn ∷ [] → slice_get walks at ≡ Some front
      → o ≡ Some (cable_between c vertices (at + 1) turn n) → TellsCable walks c vertices walk n o
  from_none : (front : List ℤ) (turn : ℤ) → walk ≡ front ++ turn ∷ [] → has_walk walks front ≡ false → o ≡ None
      → TellsCable walks c vertices walk n o

-- a map with one cable more, where there is none at its first end
abbrev pub joined : NetMap → MapCable → NetMap
joined m c = if is_some (map_far m (first_end c)) then m else with_cable m c

-- a map with the cable that a walk shows, if it shows one
abbrev pub joined_by : NetMap → Option MapCable → NetMap
joined_by m None = m
joined_by m (Some c) = joined m c

-- A map with the cables more that the first walks show.
pub data JoinsBelow (walks : List (List ℤ)) (c : ClassTable) (vertices : List (Option ℕ)) (first : NetMap) : ℕ
    → NetMap → Type 0 where
  start : (m : NetMap) → m ≡ first → JoinsBelow walks c vertices first 0 m
  next : (k at : ℕ) (old new : NetMap) (walk : List ℤ) (o : Option MapCable) → k ≡ at + 1
      → JoinsBelow walks c vertices first at old → slice_get walks at ≡ Some walk
      → TellsCable walks c vertices walk (at + 1) o → new ≡ joined_by old o → JoinsBelow walks c vertices first k new

-- The cable that the next walk shows is refused for nothing, where there is none at its first end.
abbrev pub AreTaken : List (List ℤ) → ClassTable → List (Option ℕ) → NetMap → Type 0
AreTaken walks c vertices first = (at : ℕ) (m : NetMap) (walk : List ℤ) (x : MapCable)
    → JoinsBelow walks c vertices first at m → slice_get walks at ≡ Some walk
    → TellsCable walks c vertices walk (at + 1) (Some x) → map_far m (first_end x) ≡ None → cable_refusal m x ≡ None

-- each node's class has a vertex
abbrev pub HaveVertices : ClassTable → List (Option ℕ) → Type 0
HaveVertices c vertices = (n : ℕ) → n < length c.nodes → (v : ℕ) × IsVertexOf vertices (class_at c n) v

-- the last turn of a walk is a turn, where its front was found too
abbrev pub EndInTurns : List (List ℤ) → Type 0
EndInTurns walks = (at m : ℕ) (front : List ℤ) (turn : ℤ) → slice_get walks at ≡ Some (front ++ turn ∷ [])
    → slice_get walks m ≡ Some front → IsTurn turn
