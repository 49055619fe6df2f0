-- Steps of a way: where it begins and ends, where it passes a vertex, and how it is read backwards.
use Rattle.std.specs.Prelude.{ℕ, ◌+◌, Bool, false, ◌||◌, List, [], ◌∷◌, map, if◌then◌else◌, slice_get, reverse}
use Rattle.std.specs.Prelude.{Option, Some, None}
use Rattle.std.specs.List.{list_any, position}
use Rattle.net_defs.specs.declared.vertex.Vertex.{Vertex}
use Rattle.net_defs.specs.declared.vertex.Vertex.TheVariants.{Host}
use Rattle.net_defs.specs.declared.vertex.Cable.{Cable}
use Rattle.net_defs.specs.Network.{Network, same_vertex}
use Rattle.journal_defs.specs.Part.{is_host}
use Rattle.circ_defs.specs.Ways.{Step}

-- a step in the other direction
abbrev pub crossed_back : Step → Step
crossed_back s = record { cable = s.cable; out = s.into; into = s.out }

-- steps, read backwards
abbrev pub back_over : List Step → List Step
back_over ss = reverse (map crossed_back ss)

-- the vertex that steps leave first
abbrev pub start_of : List Step → Vertex
start_of [] = Host 0
start_of (s ∷ ss) = s.out.v

-- the vertex that steps from a vertex lead to
abbrev pub end_from : Vertex → List Step → Vertex
end_from v [] = v
end_from v (s ∷ ss) = end_from s.into.v ss

-- the vertex that steps lead to
abbrev pub end_of : List Step → Vertex
end_of ss = end_from (Host 0) ss

-- whether steps lead to a host
abbrev pub ends_at_host : List Step → Bool
ends_at_host ss = is_host (end_of ss)

-- whether steps begin at a vertex
abbrev pub begins_at : List Step → Vertex → Bool
begins_at [] v = false
begins_at (s ∷ ss) v = same_vertex s.out.v v

-- a step more
abbrev pub one_more : Option ℕ → Option ℕ
one_more None = None
one_more (Some k) = Some (k + 1)

-- how many of these steps lead to a vertex that they pass
abbrev pub steps_to : List Step → Vertex → Option ℕ
steps_to ss v = if begins_at ss v then Some 0 else one_more (position (λ s. same_vertex s.into.v v) ss)

-- whether a cable, if there is one, ends at a vertex
abbrev pub ends_there : Option Cable → Vertex → Bool
ends_there None v = false
ends_there (Some c) v = same_vertex c.a.v v || same_vertex c.b.v v

-- whether the cable of a number ends at a vertex
abbrev pub ends_at : Network → ℕ → Vertex → Bool
ends_at n k v = ends_there (slice_get n.cables k) v

-- whether one of these cables ends at a vertex
abbrev pub is_touched : Network → List ℕ → Vertex → Bool
is_touched n ks v = list_any (λ k. ends_at n k v) ks
