-- Which vertices lead to another by legal channels, seen from there: how far they are, and by which port they go on.
use Rattle.std.specs.Prelude.{ℕ, zero, suc, pos, ◌-ℤ◌, Bool, false, ◌&&◌, ◌||◌, not, List, nat_eq, is_some, Option}
use Rattle.std.specs.Prelude.{Some, None}
use Rattle.map_defs.specs.NetMap.{NetMap, MapPort, map_far, is_switch_vertex}
use Rattle.map_defs.specs.Orientation.{is_up}
use Rattle.route_calc.specs.First.{first_below}

-- after a channel that went down only a channel down is legal
abbrev pub may_go : Bool → Bool → Bool
may_go down up = not down || not up

-- a channel may be taken, and the vertex at its far end is near
abbrev pub leads_over : (ℕ → Bool → Bool) → Bool → Bool → Option MapPort → Bool
leads_over near down up None = false
leads_over near down up (Some f) = may_go down up && near f.v (not up)

-- a channel leads to a vertex that is near
abbrev pub leads_near : NetMap → List ℕ → (ℕ → Bool → Bool) → Bool → MapPort → Bool
leads_near m order near down d = leads_over near down (is_up m order d) (map_far m d)

-- the port at a place of a vertex
abbrev pub port_of_place : ℕ → ℕ → MapPort
port_of_place v k = record { v = v; p = pos k -ℤ pos 15 }

-- the place of the least port of a vertex that leads to one that is near
abbrev pub least_exit : NetMap → List ℕ → (ℕ → Bool → Bool) → ℕ → Bool → Option ℕ
least_exit m order near v down = first_below 31 (λ k. leads_near m order near down (port_of_place v k))

-- what is near, for a packet that went down already or didn't, and the switches that are one channel away from it
abbrev pub one_further : NetMap → List ℕ → (ℕ → Bool → Bool) → ℕ → Bool → Bool
one_further m order near v down = near v down || (is_switch_vertex m v && is_some (least_exit m order near v down))

-- at most so many legal channels lead to a vertex, where a packet went down already or didn't
abbrev pub reaches : NetMap → List ℕ → ℕ → ℕ → ℕ → Bool → Bool
reaches m order to zero v down = nat_eq v to
reaches m order to (suc k) v down = one_further m order (reaches m order to k) v down
