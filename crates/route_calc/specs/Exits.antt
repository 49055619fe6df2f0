-- The cabled ports of each vertex, from the least on.
use Rattle.std.specs.Prelude.{ℕ, zero, suc, pos, ◌-ℤ◌, Bool, not, ◌||◌, List, [], ◌++◌, map, length, slice_index_or}
use Rattle.std.specs.Prelude.{Option, option_map, option_to_list}
use Rattle.journal_defs.specs.Counting.{numbers_below}
use Rattle.net_defs.specs.Turn.{IsTurn}
use Rattle.map_defs.specs.NetMap.{NetMap}
use Rattle.route_calc.specs.declared.entered.Exit.{Exit}
use Rattle.route_calc.specs.Reaching.{port_of_place}
use Rattle.route_calc.specs.Ways.{entered_by}

-- a port, and the one that its channel enters, are from -15 to 15
abbrev pub IsInRange : Exit → Type 0
IsInRange x = IsTurn x.port × IsTurn x.next.port

-- the port at a place of a vertex, where a cable is at it
abbrev pub exit_at : NetMap → List ℕ → ℕ → ℕ → Option Exit
exit_at m order v k = option_map (λ e. record { port = pos k -ℤ pos 15; next = e })
    (entered_by m order (port_of_place v k))

-- the cabled ports at the first places of a vertex
unfoldable pub exits_below : NetMap → List ℕ → ℕ → ℕ → List Exit
exits_below m order v zero = []
exits_below m order v (suc k) = exits_below m order v k ++ option_to_list (exit_at m order v k)

-- the cabled ports of a vertex
abbrev pub exits_of : NetMap → List ℕ → ℕ → List Exit
exits_of m order v = exits_below m order v 31

-- the cabled ports of each vertex
abbrev pub all_exits : NetMap → List ℕ → List (List Exit)
all_exits m order = map (exits_of m order) (numbers_below (length m.vertices))

-- the ports of a vertex in a list of all: none where it is no vertex
abbrev pub exits_at : List (List Exit) → ℕ → List Exit
exits_at exits v = slice_index_or exits v []

-- after a channel down only a channel down is legal
abbrev pub is_open : Bool → Exit → Bool
is_open down x = not down || x.next.down
