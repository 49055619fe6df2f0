-- The ways of a node, and of the cable in front of it.
use Rattle.std.specs.Prelude.{◌≡◌, ℕ, ◌+◌, ℤ, pos, false, List, [], ◌∷◌, ◌++◌, slice_get, Option, Some}
use Rattle.net_defs.specs.declared.place.Answer.{Answer}
use Rattle.net_defs.specs.declared.place.Answer.TheVariants.{Host as HostAnswer}
use Rattle.probe.specs.Keeping.{has_walk}
use Rattle.replicate_merge.specs.declared.way.Way.{Way}
use Rattle.replicate_merge.specs.declared.way.Way.TheVariants.{Host, Cable}

-- the way of a node that is a host
abbrev pub host_ways : Option Answer → ℕ → List Way
host_ways (Some (HostAnswer address)) n = Host address n ∷ []
host_ways _ n = []

-- the ways between a node and the one in front of it, both ways
abbrev pub both_ways : ℕ → ℤ → ℕ → List Way
both_ways m p n = Cable m p n (pos 0) ∷ Cable n (pos 0) m p ∷ []

-- The ways of cables that were added for the node that a walk reached: from the mapper's host, from the node in front
-- of it, or none where that isn't there.
pub data AddsCables (walks : List (List ℤ)) (walk : List ℤ) (n : ℕ) (old new : List Way) : Type 0 where
  from_mapper : walk ≡ [] → new ≡ old ++ both_ways 0 (pos 0) n → AddsCables walks walk n old new
  from_node : (front : List ℤ) (turn : ℤ) (at : ℕ) → walk ≡ front ++ turn ∷ [] → slice_get walks at ≡ Some front
      → new ≡ old ++ both_ways (at + 1) turn n → AddsCables walks walk n old new
  from_none : (front : List ℤ) (turn : ℤ) → walk ≡ front ++ turn ∷ [] → has_walk walks front ≡ false → new ≡ old
      → AddsCables walks walk n old new
