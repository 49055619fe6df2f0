-- The search for a next path: ways from a first step on, a way more for each vertex that is new.
use Rattle.std.specs.Prelude.{◌≡◌, ◌<◌, ℕ, zero, suc, Bool, true, ◌&&◌, ◌||◌, not, List, [], ◌∷◌, ◌++◌, nat_eq}
use Rattle.std.specs.Prelude.{slice_get, slice_index_or, if◌then◌else◌, Option, Some, None}
use Rattle.std.specs.List.{list_any}
use Rattle.net_defs.specs.declared.vertex.Vertex.{Vertex}
use Rattle.net_defs.specs.declared.vertex.Cable.{Cable}
use Rattle.net_defs.specs.Network.{Network, same_vertex}
use Rattle.journal_defs.specs.Part.{is_host}
use Rattle.circ_defs.specs.Ways.{IsPath, Step}
use Rattle.circ_ears.specs.Trails.{end_of, is_touched}

-- whether a path may end at a vertex: at a host, or at an old cable
abbrev pub may_end : Network → List ℕ → Vertex → Bool
may_end n old v = is_host v || is_touched n old v

-- whether one of these ways leads to a vertex
abbrev pub is_reached : List (List Step) → Vertex → Bool
is_reached ws v = list_any (λ w. same_vertex (end_of w) v) ws

-- whether a way leads over a step to a vertex to which none of these ways leads
abbrev pub leads_on : List (List Step) → List Step → Step → Bool
leads_on ws w s = same_vertex (end_of w) s.out.v && not (is_reached ws s.into.v)

-- the ways, and after them the one at a place with a step more, if it leads on to a vertex that is new
abbrev pub led_on : ℕ → Step → List (List Step) → List (List Step)
led_on at s ws = if leads_on ws (slice_index_or ws at []) s then ws ++ (slice_index_or ws at [] ++ s ∷ []) ∷ []
    else ws

-- led on over a cable, either way
abbrev pub led_over : ℕ → ℕ → Option Cable → List (List Step) → List (List Step)
led_over at k None ws = ws
led_over at k (Some c) ws = led_on at (record { cable = k; out = c.b; into = c.a })
    (led_on at (record { cable = k; out = c.a; into = c.b }) ws)

-- led on over a cable that isn't the first one
abbrev pub led_beside : Network → ℕ → ℕ → ℕ → List (List Step) → List (List Step)
led_beside n beside at k ws = if nat_eq k beside then ws else led_over at k (slice_get n.cables k) ws

-- led on over all cables below a number, one by one
abbrev pub led_over_all : Network → ℕ → ℕ → ℕ → List (List Step) → List (List Step)
led_over_all n beside at zero ws = ws
led_over_all n beside at (suc k) ws = led_beside n beside at k (led_over_all n beside at k ws)

-- a path begins with a step
pub record IsBegunBy (s : Step) (p : List Step) : Type 0 where
  pub rest : List Step
  pub is : p ≡ s ∷ rest

-- no path begins with this step
abbrev pub HasNoPathBy : Network → List ℕ → Step → Type 0
HasNoPathBy n old s = (p : List Step) → IsPath n old p → ¬ IsBegunBy s p

-- no path begins over the cable of this number
abbrev pub HasNoPathOver : Network → List ℕ → ℕ → Type 0
HasNoPathOver n old k = (p : List Step) (s : Step) → IsPath n old p → s.cable ≡ k → ¬ IsBegunBy s p

-- there is no next path
abbrev pub HasNoPath : Network → List ℕ → Type 0
HasNoPath n old = (p : List Step) → ¬ IsPath n old p
