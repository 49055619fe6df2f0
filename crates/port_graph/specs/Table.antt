-- A table of far ends: each port that a fabric may have has a place in it.
use Rattle.std.specs.Prelude.{◌≡◌, ℕ, ◌+◌, ◌*◌, Bool, true, ◌&&◌, ◌||◌, List, length, nat_eq, nat_lt, slice_index_or}
use Rattle.std.specs.Prelude.{Option, None}
use Rattle.net_defs.specs.declared.vertex.Vertex.{Vertex}
use Rattle.net_defs.specs.declared.vertex.Vertex.TheVariants.{Host, Switch}
use Rattle.net_defs.specs.declared.vertex.End.{End}
use Rattle.net_defs.specs.declared.vertex.Cable.{Cable}
use Rattle.net_defs.specs.Network.{far_end}

-- an end that some fabric may have: of 128 hosts with port 0, and of 64 switches with 16 ports
abbrev pub may_stand : Vertex → ℕ → Bool
may_stand (Host h) p = nat_lt h 128 && nat_lt p 1
may_stand (Switch s) p = nat_lt s 64 && nat_lt p 16

-- an end that may have a place in the table
abbrev pub is_possible : End → Bool
is_possible e = may_stand e.v e.p

-- the place of a port: the hosts first, then 16 places for each switch
abbrev pub place_of_port : Vertex → ℕ → ℕ
place_of_port (Host h) p = h
place_of_port (Switch s) p = 128 + 16 * s + p

-- the place of an end
abbrev pub place_of_end : End → ℕ
place_of_end e = place_of_port e.v e.p

-- what the table has at an end: nothing past its length
abbrev pub entry : List (Option End) → End → Option End
entry table e = slice_index_or table (place_of_end e) None

-- The table is empty or full, and has the far end of each end that a fabric may have.
pub record IsTableOf (cables : List Cable) (table : List (Option End)) : Type 0 where
  pub size : (nat_eq (length table) 0 || nat_eq (length table) 1152) ≡ true
  pub far_ends : (e : End) → is_possible e ≡ true → entry table e ≡ far_end cables e
