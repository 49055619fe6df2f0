-- Distances that are lowered, sweep by sweep.
use Rattle.std.specs.Prelude.{◌≡◌, ℕ, ◌+◌, ◌-◌, ◌*◌, ◌<◌, ◌≤◌, Bool, true, false, not, ◌&&◌, ◌||◌, List, [], ◌∷◌}
use Rattle.std.specs.Prelude.{length, replicate, nat_lt, nat_le, slice_set, if◌then◌else◌, Some}
use Rattle.journal_defs.specs.Counting.{total}
use Rattle.map_defs.specs.NetMap.{NetMap, MapPort, map_far, is_switch_vertex}
use Rattle.map_defs.specs.Orientation.{is_up}
use Rattle.route_calc.specs.declared.entered.Exit.{Exit}
use Rattle.route_calc.specs.Reaching.{may_go, port_of_place, reaches}
use Rattle.route_calc.specs.Far.{place_in, far_at}
use Rattle.route_calc.specs.Exits.{is_open}

-- the first distances to a host: none is known but its own
abbrev pub first_far : ℕ → ℕ → List ℕ
first_far count to = slice_set (slice_set (replicate (2 * count) 255) (place_in to false) 0) (place_in to true) 0

-- the lesser of a distance and that of one more port, if it may be taken
abbrev pub least_with : List ℕ → Bool → ℕ → Exit → ℕ
least_with far down least x = if is_open down x && nat_lt (far_at far x.next.v x.next.down) least
    then far_at far x.next.v x.next.down else least

-- the least of a distance and those that ports lead to
abbrev pub nearest_after : List ℕ → Bool → ℕ → List Exit → ℕ
nearest_after far down least [] = least
nearest_after far down least (x ∷ xs) = nearest_after far down (least_with far down least x) xs

-- a distance is more than one above the nearest that its ports lead to
abbrev pub lowers : List ℕ → List Exit → ℕ → Bool → Bool
lowers far xs v down = nat_lt (nearest_after far down 255 xs + 1) (far_at far v down)

-- the distances after that is mended
abbrev pub lowered : List ℕ → List Exit → ℕ → Bool → List ℕ
lowered far xs v down = if lowers far xs v down
    then slice_set far (place_in v down) (nearest_after far down 255 xs + 1) else far

-- Distances that channels bear out, with the host itself at 0.
pub record AreSound (m : NetMap) (order : List ℕ) (to : ℕ) (far : List ℕ) : Type 0 where
  pub near : (v : ℕ) (down : Bool) → far_at far v down < 255 → reaches m order to (far_at far v down) v down ≡ true
  pub there : (down : Bool) → far_at far to down ≡ 0

-- Distances that were lowered, or stayed, and whether one was lowered.
pub record IsStep (m : NetMap) (order : List ℕ) (old new : List ℕ) (told : Bool) : Type 0 where
  pub long : length new ≡ length old
  pub sound : (to : ℕ) → AreSound m order to old → AreSound m order to new
  pub less : told ≡ true → total new < total old
  pub same : told ≡ false → new ≡ old

-- No legal channel of a switch leads to one that is more than one nearer.
pub record IsLowest (m : NetMap) (order : List ℕ) (far : List ℕ) (v : ℕ) (down : Bool) : Type 0 where
  pub settled : is_switch_vertex m v ≡ true → (k : ℕ) (e : MapPort) → k < 31 → map_far m (port_of_place v k) ≡ Some e
      → may_go down (is_up m order (port_of_place v k)) ≡ true
      → far_at far v down ≤ far_at far e.v (not (is_up m order (port_of_place v k))) + 1

-- the vertex at a place of a sweep, and whether it is looked at for packets that went down: these first, from the
-- last vertex on
abbrev pub sweep : ℕ → ℕ → ℕ × Bool
sweep count k = if nat_lt k count then (count - 1 - k, true) else (k - count, false)

-- Nothing can be lowered at the first places of a sweep.
pub record AreLowest (m : NetMap) (order : List ℕ) (far : List ℕ) (count : ℕ) : Type 0 where
  pub each : (k : ℕ) → k < count → IsLowest m order far (sweep (length m.vertices) k).0 (sweep (length m.vertices) k).1

-- Channels of a vertex between switches lead up to lesser numbers, and down to none that is lesser.
pub record IsNumbered (m : NetMap) (order : List ℕ) (v : ℕ) : Type 0 where
  pub up : (k : ℕ) (e : MapPort) → k < 31 → is_switch_vertex m v ≡ true → is_switch_vertex m e.v ≡ true
      → map_far m (port_of_place v k) ≡ Some e → is_up m order (port_of_place v k) ≡ true → e.v < v
  pub down : (k : ℕ) (e : MapPort) → k < 31 → is_switch_vertex m v ≡ true → is_switch_vertex m e.v ≡ true
      → map_far m (port_of_place v k) ≡ Some e → is_up m order (port_of_place v k) ≡ false → v ≤ e.v

-- vertices are numbered as they stand in the order, where that counts
abbrev pub AreNumbered : NetMap → List ℕ → Type 0
AreNumbered m order = (v : ℕ) → IsNumbered m order v

-- a port of a vertex leads to a host, or up to a lesser number, or down to one that isn't
abbrev pub leads_in_order : NetMap → ℕ → Exit → Bool
leads_in_order m v x = not (is_switch_vertex m x.next.v)
    || (if x.next.down then nat_le v x.next.v else nat_lt x.next.v v)
