-- The least turns to a host, one after the other.
use Rattle.std.specs.Prelude.{◌≡◌, ℕ, zero, suc, ◌<◌, ℤ, pos, ◌-ℤ◌, Bool, true, false, not, List, [], ◌∷◌}
use Rattle.std.specs.Prelude.{Option, Some, None, option_map}
use Rattle.map_defs.specs.NetMap.{NetMap, MapPort, map_far}
use Rattle.map_defs.specs.Orientation.{is_up}
use Rattle.route_calc.specs.declared.entered.Entered.{Entered}
use Rattle.route_calc.specs.Reaching.{reaches, least_exit, port_of_place}

-- where a channel leads
abbrev pub entered_by : NetMap → List ℕ → MapPort → Option Entered
entered_by m order d = option_map (λ f. record { v = f.v; port = f.p; down = not (is_up m order d) }) (map_far m d)

-- a turn, and where it leads
abbrev pub turned_by : NetMap → List ℕ → Entered → Option ℕ → Option (ℤ × Entered)
turned_by m order e None = None
turned_by m order e (Some k) = option_map (λ next.
    ((pos k -ℤ pos 15) -ℤ e.port, next)) (entered_by m order (port_of_place e.v k))

-- the least turn to what is near, and where it leads
abbrev pub best_turn : NetMap → List ℕ → (ℕ → Bool → Bool) → Entered → Option (ℤ × Entered)
best_turn m order near e = turned_by m order e (least_exit m order near e.v e.down)

-- a turn, and those from where it leads
abbrev pub then_turns : Option (ℤ × Entered) → (Entered → List ℤ) → List ℤ
then_turns None rest = []
then_turns (Some t) rest = t.0 ∷ rest t.1

-- the least turns over so many channels
abbrev pub best_turns : NetMap → List ℕ → ℕ → ℕ → Entered → List ℤ
best_turns m order to zero e = []
best_turns m order to (suc k) e = then_turns (best_turn m order (reaches m order to k) e) (best_turns m order to k)

-- over so many channels, and over no fewer, a vertex leads to another
pub record IsDistance (m : NetMap) (order : List ℕ) (to k v : ℕ) (down : Bool) : Type 0 where
  pub near : reaches m order to k v down ≡ true
  pub least : (j : ℕ) → j < k → reaches m order to j v down ≡ false
