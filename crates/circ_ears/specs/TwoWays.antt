-- Two walks to any two vertices of paths, made path by path, and the return walk that they give a further path.
use Rattle.std.specs.Prelude.{ℕ, Bool, true, false, not, List, [], ◌∷◌, ◌++◌, length, take, drop, nat_eq, nat_le}
use Rattle.std.specs.Prelude.{if◌then◌else◌, Option, Some, None}
use Rattle.net_defs.specs.declared.vertex.Vertex.{Vertex}
use Rattle.circ_defs.specs.Ways.{Step}
use Rattle.circ_defs.specs.PathList.{Ear}
use Rattle.circ_ears.specs.Trails.{back_over, begins_at, end_of, ends_at_host, start_of, steps_to}

-- Two walks to two vertices: one from the mapper's host, the other, from the second vertex, over its body and tail to
-- a host; swapped, the second vertex is the one to which the first leads.
pub record Two : Type 0 where
  pub there : List Step
  pub body : List Step
  pub tail : List Step
  pub swapped : Bool

-- the same walks, of the vertices in the other order
abbrev pub flipped : Two → Two
flipped t = record { there = t.there; body = t.body; tail = t.tail; swapped = not t.swapped }

-- the first walk goes on over steps, and the second comes over others first
abbrev pub extended : List Step → List Step → Two → Two
extended a b t = record { there = t.there ++ a; body = b ++ t.body; tail = t.tail; swapped = t.swapped }

-- steps lead on from the first vertex, and others lead to the second
abbrev pub both : List Step → List Step → Two → Two
both a b t = if t.swapped then extended (back_over b) (back_over a) t else extended a b t

-- steps lead on from the first vertex, and others to a host
abbrev pub apart_at_host : List Step → List Step → Two → Two
apart_at_host a b t = record { there = t.there ++ a; body = b; tail = []; swapped = false }

-- two walks over the mapper's own cable
abbrev pub own_two : List Step → Vertex → Vertex → Two
own_two p x y = record {
  there = if begins_at p x then [] else p;
  body = [];
  tail = if begins_at p y then [] else back_over p;
  swapped = false;
}

-- two walks to two vertices of a path, the first before the second
abbrev pub along : List Step → ℕ → ℕ → Two → Two
along p i j t = if ends_at_host p then apart_at_host (take i p) (drop j p) t else both (take i p) (drop j p) t

-- two walks to two vertices of a path
abbrev pub between : List Step → ℕ → ℕ → Two → Two
between p i j t = if nat_le i j then along p i j t else flipped (along p j i t)

-- two walks to vertices at these places of a path, or of the paths before it, from two walks there
abbrev pub over_path : List Step → Option ℕ → Option ℕ → Two → Two
over_path p None None t = t
over_path p (Some i) None t = both (take i p) [] t
over_path p None (Some j) t = flipped (both (take j p) [] t)
over_path p (Some i) (Some j) t = between p i j t

-- the vertex to which a path's second walk is to lead: where it ends, or where it begins if its end is a host
abbrev pub far_end_of : List Step → Vertex
far_end_of p = if ends_at_host p then start_of p else end_of p

-- the first vertex whose walk is asked of the paths before a path
abbrev pub first_before : List Step → Option ℕ → Option ℕ → Vertex → Vertex
first_before p None None x = x
first_before p (Some i) j x = start_of p
first_before p None (Some j) x = start_of p

-- the second vertex whose walk is asked of the paths before a path
abbrev pub second_before : List Step → Option ℕ → Option ℕ → Vertex → Vertex → Vertex
second_before p None None x y = y
second_before p (Some i) None x y = y
second_before p None (Some j) x y = x
second_before p (Some i) (Some j) x y = far_end_of p

-- two walks to two vertices of paths, the path taken last in front
abbrev pub two_of : List (List Step) → Vertex → Vertex → Two
two_of [] x y = record { there = []; body = []; tail = []; swapped = false }
two_of (p ∷ ps) x y = if nat_eq (length ps) 0 then own_two p x y
    else over_path p (steps_to p x) (steps_to p y)
    (two_of ps (first_before p (steps_to p x) (steps_to p y) x) (second_before p (steps_to p x) (steps_to p y) x y))

-- a path with the return walk that two walks give it
abbrev pub ear_by : List Step → Two → Ear
ear_by p t = if ends_at_host p then record { before = t.there; path = p; after = [] }
    else record { before = t.there; path = if t.swapped then back_over p else p; after = t.body ++ t.tail }

-- a path with its return walk over the paths before it
unfoldable pub ear_of : List (List Step) → List Step → Ear
ear_of ps p = ear_by p (two_of ps (start_of p) (far_end_of p))
