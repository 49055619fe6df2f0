-- A table for hops: from the channel that a packet leaves, by its front byte, to the channel that it enters.
use Rattle.std.specs.Prelude.{◌≡◌, ℕ, zero, suc, ◌+◌, ◌*◌, ◌<◌, ◌≤◌, ℤ, List, [], ◌++◌, take, drop, replicate, length}
use Rattle.std.specs.Prelude.{Option, None, option_and_then, slice_index_or, slice_set}
use Rattle.net_defs.specs.declared.vertex.Vertex.{Vertex}
use Rattle.net_defs.specs.declared.vertex.Vertex.TheVariants.{Host, Switch}
use Rattle.net_defs.specs.declared.vertex.End.{End}
use Rattle.net_defs.specs.Route.{exit_at}
use Rattle.world_defs.specs.History.{CableHistory, fabric_now}
use Rattle.world_defs.specs.Crossed.{leaving, life_head}
use Rattle.packet_defs.specs.RouteByte.{turn_of}

-- the channel by which a turn leaves where an end was entered: none by a turn to no port, and at a port without cable
abbrev pub turned_from : CableHistory → End → ℤ → Option ℕ
turned_from h e turn = option_and_then (leaving h) (exit_at (fabric_now h) e.v e.p turn)

-- the channel that a packet enters which leaves another with this byte in front: none by a byte that is no route byte
abbrev pub next_channel : CableHistory → ℕ → ℕ → Option ℕ
next_channel h c byte =
    option_and_then (λ e. option_and_then (turned_from h e) (turn_of byte)) (life_head h c)

-- the channels that leave a switch by its ports, of a table of such channels
abbrev pub port_channels : List (Option ℕ) → ℕ → List (Option ℕ)
port_channels out s = take 16 (drop (128 + 16 * s) out)

-- The places of a switch: its ports, 48 without a channel, its ports again. A route byte counts turns modulo 64, so
-- from an entry port a turn above 0 leads on among the first ports or past them, and one below 0 to the second ports
-- or to before them.
abbrev pub hop_row : List (Option ℕ) → ℕ → List (Option ℕ)
hop_row out s = (port_channels out s ++ replicate 48 None) ++ port_channels out s

-- the places of so many switches
abbrev pub hop_rows : List (Option ℕ) → ℕ → List (Option ℕ)
hop_rows out zero = []
hop_rows out (suc s) = hop_rows out s ++ hop_row out s

-- the places of so many switches, and then those of hosts, which send nothing on
abbrev pub hop_table : List (Option ℕ) → ℕ → List (Option ℕ)
hop_table out switches = hop_rows out switches ++ replicate 64 None

-- The table of hops has the channels of the other table: twice those of each port of a switch, and none elsewhere.
pub record IsHopTable (out : List (Option ℕ)) (switches : ℕ) (hops : List (Option ℕ)) : Type 0 where
  pub size : length hops ≡ 80 * switches + 64
  pub first : (s p : ℕ) → s < switches → p < 16
      → slice_index_or hops (80 * s + p) None ≡ slice_index_or out (128 + 16 * s + p) None
  pub gap : (s q : ℕ) → s < switches → 16 ≤ q → q < 64 → slice_index_or hops (80 * s + q) None ≡ None
  pub second : (s p : ℕ) → s < switches → p < 16
      → slice_index_or hops (80 * s + p + 64) None ≡ slice_index_or out (128 + 16 * s + p) None
  pub last : (i : ℕ) → i < 64 → slice_index_or hops (80 * switches + i) None ≡ None

-- the place of turn 0 of what enters a vertex by a port, among so many switches
abbrev pub hops_from : ℕ → Vertex → ℕ → ℕ
hops_from switches (Host h) p = 80 * switches
hops_from switches (Switch s) p = 80 * s + p

-- the table of hops with another channel, or none, at a port
abbrev pub with_hop : Vertex → ℕ → Option ℕ → List (Option ℕ) → List (Option ℕ)
with_hop (Host h) p to hops = hops
with_hop (Switch s) p to hops = slice_set (slice_set hops (80 * s + p) to) (80 * s + p + 64) to
