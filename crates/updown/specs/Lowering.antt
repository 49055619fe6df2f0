-- Levels that are lowered along cables: a vertex is at most one level above its neighbour.
use Rattle.std.specs.Prelude.{ℕ, ◌+◌, Bool, false, ◌||◌, List, [], ◌∷◌, nat_lt, slice_index, slice_set, if◌then◌else◌}
use Rattle.map_defs.specs.declared.vertex.MapCable.{MapCable}

-- the second vertex is too high above the first
abbrev pub lowers : List ℕ → ℕ → ℕ → Bool
lowers levels v w = nat_lt (slice_index levels v + 1) (slice_index levels w)

-- the levels after that is mended
abbrev pub lowered : List ℕ → ℕ → ℕ → List ℕ
lowered levels v w = if lowers levels v w then slice_set levels w (slice_index levels v + 1) else levels

-- both ways of a cable
abbrev pub lowered_by : List ℕ → MapCable → List ℕ
lowered_by levels c = lowered (lowered levels c.v c.w) c.w c.v

-- a level is lowered along a cable, one way or the other
abbrev pub lowers_by : List ℕ → MapCable → Bool
lowers_by levels c = lowers levels c.v c.w || lowers (lowered levels c.v c.w) c.w c.v

-- one cable after the other
abbrev pub lowered_along : List MapCable → List ℕ → List ℕ
lowered_along [] levels = levels
lowered_along (c ∷ cs) levels = lowered_along cs (lowered_by levels c)

-- some level is lowered on the way
abbrev pub lowers_along : List MapCable → List ℕ → Bool
lowers_along [] levels = false
lowers_along (c ∷ cs) levels = lowers_by levels c || lowers_along cs (lowered_by levels c)
