-- Marks of vertices: one of each, by number.
use Rattle.std.specs.Prelude.{ℕ, Bool, true, false, ◌&&◌, ◌||◌, not, List, [], ◌∷◌, map, length, nat_eq, is_some}
use Rattle.std.specs.Prelude.{slice_index_or, slice_set, if◌then◌else◌}
use Rattle.journal_defs.specs.Counting.{numbers_below}
use Rattle.journal_defs.specs.Edges.{is_among}
use Rattle.map_defs.specs.declared.vertex.MapCable.{MapCable}
use Rattle.map_defs.specs.NetMap.{NetMap, host_of_vertex}
use Rattle.map_defs.specs.Core.{is_outside}

-- whether each vertex of a map is among these
abbrev pub marks_of : NetMap → List ℕ → List Bool
marks_of m vs = map (λ u. is_among nat_eq vs u) (numbers_below (length m.vertices))

-- the second vertex has no mark, and the first has one
abbrev pub spreads : List Bool → ℕ → ℕ → Bool
spreads marks v w = slice_index_or marks v false && not (slice_index_or marks w false)

-- the marks after it got one
abbrev pub spread : List Bool → ℕ → ℕ → List Bool
spread marks v w = if spreads marks v w then slice_set marks w true else marks

-- both ways of a cable
abbrev pub spread_by : List Bool → MapCable → List Bool
spread_by marks c = spread (spread marks c.v c.w) c.w c.v

-- a mark goes along a cable, one way or the other
abbrev pub spreads_by : List Bool → MapCable → Bool
spreads_by marks c = spreads marks c.v c.w || spreads (spread marks c.v c.w) c.w c.v

-- one cable after the other
abbrev pub spread_along : List MapCable → List Bool → List Bool
spread_along [] marks = marks
spread_along (c ∷ cs) marks = spread_along cs (spread_by marks c)

-- some vertex gets a mark on the way
abbrev pub spreads_along : List MapCable → List Bool → Bool
spreads_along [] marks = false
spreads_along (c ∷ cs) marks = spreads_by marks c || spreads_along cs (spread_by marks c)

-- a cable joins a vertex to a host
abbrev pub joins_host : NetMap → MapCable → ℕ → Bool
joins_host m c v = (nat_eq c.v v && is_some (host_of_vertex m c.w)) || (nat_eq c.w v && is_some (host_of_vertex m c.v))

-- marks of either list
abbrev pub either : List Bool → List Bool → List Bool
either [] cs = []
either (b ∷ bs) [] = b ∷ bs
either (b ∷ bs) (c ∷ cs) = (b || c) ∷ either bs cs

-- for each vertex whether some cable cuts it off
abbrev pub outside_of : NetMap → List Bool
outside_of m = map (is_outside m) (numbers_below (length m.vertices))
