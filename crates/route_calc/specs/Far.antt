-- Distances to a host by legal channels.
use Rattle.std.specs.Prelude.{◌≡◌, ℕ, ◌+◌, ◌*◌, ◌<◌, Bool, List, nat_le, slice_index_or, if◌then◌else◌}
use Rattle.map_defs.specs.NetMap.{NetMap}
use Rattle.route_calc.specs.Reaching.{reaches}

-- the place of a vertex among distances: one for packets that went up alone, and one for those that went down
abbrev pub place_in : ℕ → Bool → ℕ
place_in v down = if down then 2 * v + 1 else 2 * v

-- the distance of a vertex: 255 where none is known
abbrev pub far_at : List ℕ → ℕ → Bool → ℕ
far_at far v down = slice_index_or far (place_in v down) 255

-- Each distance is the fewest channels that lead to a vertex, up to 254 of them.
pub record AreDistances (m : NetMap) (order : List ℕ) (to : ℕ) (far : List ℕ) : Type 0 where
  pub each : (k v : ℕ) (down : Bool) → k < 255 → nat_le (far_at far v down) k ≡ reaches m order to k v down
