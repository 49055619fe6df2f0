-- The turns by the first ports that lead so near.
use Rattle.std.specs.Prelude.{ℕ, zero, suc, ℤ, ◌-ℤ◌, Bool, ◌&&◌, List, [], ◌∷◌, nat_le, if◌then◌else◌, Option, Some}
use Rattle.std.specs.Prelude.{None, option_map}
use Rattle.route_calc.specs.declared.entered.Entered.{Entered}
use Rattle.route_calc.specs.declared.entered.Exit.{Exit}
use Rattle.route_calc.specs.Far.{far_at}
use Rattle.route_calc.specs.Exits.{exits_at, is_open}
use Rattle.route_calc.specs.Ways.{then_turns}

-- a port may be taken, and leads within so many channels
abbrev pub leads_within : List ℕ → ℕ → Bool → Exit → Bool
leads_within far left down x = is_open down x && nat_le (far_at far x.next.v x.next.down) left

-- the first port that leads within so many channels
abbrev pub first_exit : List ℕ → ℕ → Bool → List Exit → Option Exit
first_exit far left down [] = None
first_exit far left down (x ∷ xs) = if leads_within far left down x then Some x else first_exit far left down xs

-- the turn to a port, and where it leads
abbrev pub turn_by : Entered → Option Exit → Option (ℤ × Entered)
turn_by e x = option_map (λ o. (o.port -ℤ e.port, o.next)) x

-- the turns by first ports over so many channels
abbrev pub turns_on : List (List Exit) → List ℕ → ℕ → Entered → List ℤ
turns_on exits far zero e = []
turns_on exits far (suc k) e = then_turns (turn_by e (first_exit far k e.down (exits_at exits e.v)))
    (turns_on exits far k)
