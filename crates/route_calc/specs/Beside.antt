-- Two hosts at one switch, and the ways to one of them by those to the other.
use Rattle.std.specs.Prelude.{◌≡◌, ℕ, ℤ, ◌+ℤ◌, ◌-ℤ◌, Bool, true, false, not, ◌&&◌, List, [], ◌∷◌, nat_eq, slice_set}
use Rattle.std.specs.Prelude.{if◌then◌else◌, Option, Some, None}
use Rattle.std.specs.List.{list_any}
use Rattle.map_defs.specs.NetMap.{NetMap, is_switch_vertex}
use Rattle.route_calc.specs.declared.entered.Entered.{Entered}
use Rattle.route_calc.specs.declared.entered.Exit.{Exit}
use Rattle.route_calc.specs.Far.{place_in}
use Rattle.route_calc.specs.Firsts.{IsFirst}

-- a port leads down to a vertex
abbrev pub leads_down_to : ℕ → Exit → Bool
leads_down_to v x = x.next.down && nat_eq x.next.v v

-- two vertices hang at a switch with these ports, each by a channel down
abbrev pub are_hung : NetMap → ℕ → ℕ → ℕ → List Exit → Bool
are_hung m s a b xs = not (nat_eq a b)
    && (is_switch_vertex m s && (list_any (leads_down_to a) xs && list_any (leads_down_to b) xs))

-- the distances to the second of two vertices, by those to the first
abbrev pub far_beside : List ℕ → ℕ → ℕ → List ℕ
far_beside far a b = slice_set (slice_set (slice_set (slice_set far (place_in a false) 255) (place_in a true) 255)
    (place_in b false) 0) (place_in b true) 0

-- The first ports for new distances are those for the old ones but at a switch, where they are looked for.
pub record AreFirstsBeside (exits : List (List Exit)) (far : List ℕ) (s : ℕ) (old new : List ℕ) : Type 0 where
  pub free : ℕ
  pub down : ℕ
  pub is : new ≡ slice_set (slice_set old (place_in s false) free) (place_in s true) down
  pub is_free : IsFirst exits far s false free
  pub is_down : IsFirst exits far s true down

-- two hosts hang at one switch, where their cables lead up
abbrev pub hang_at_one : NetMap → Entered → Entered → Bool
hang_at_one m p q = nat_eq p.v q.v && (is_switch_vertex m p.v && (not p.down && not q.down))

-- how much greater the port is that leads to the second of two hosts at one switch
abbrev pub ports_apart : NetMap → Option Entered → Option Entered → Option ℤ
ports_apart m None q = None
ports_apart m (Some p) None = None
ports_apart m (Some p) (Some q) = if hang_at_one m p q then Some (q.port -ℤ p.port) else None

-- a turn and those after it, with so much more at the last: with 2 more, -1 +3 is -1 +5
abbrev pub turn_moved : ℤ → ℤ → List ℤ → List ℤ
turn_moved more t [] = (t +ℤ more) ∷ []
turn_moved more t (u ∷ us) = t ∷ turn_moved more u us

-- turns with so much more at the last
abbrev pub turns_moved : ℤ → List ℤ → List ℤ
turns_moved more [] = []
turns_moved more (t ∷ ts) = turn_moved more t ts
