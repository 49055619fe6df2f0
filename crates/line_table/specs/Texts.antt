-- The words of single values: names, turns, vertices of a map, and bytes.
use Rattle.std.specs.Prelude.{ℕ, zero, suc, ◌+◌, ◌/◌, ◌%◌, ℤ, pos, negsuc, List, [], ◌∷◌, ◌++◌, nat_lt, codes}
use Rattle.std.specs.Prelude.{decimal, flat_map, if◌then◌else◌}
use Rattle.net_defs.specs.declared.vertex.Vertex.TheVariants.{Host}
use Rattle.net_defs.specs.Network.{Network}
use Rattle.net_defs.specs.Building.{name_of}
use Rattle.map_defs.specs.declared.vertex.MapVertex.{MapVertex}
use Rattle.map_defs.specs.declared.vertex.MapVertex.TheVariants.{Host as MapHost, Switch as MapSwitch}

-- a host's name
abbrev pub host_name : Network → ℕ → List ℕ
host_name n h = name_of n (Host h)

-- a turn, or a port of a map: `0`, `+3`, `-3`
abbrev pub turn_text : ℤ → List ℕ
turn_text (pos zero) = codes "0"
turn_text (pos (suc k)) = codes "+" ++ decimal (suc k)
turn_text (negsuc k) = codes "-" ++ decimal (suc k)

-- a vertex of a map: a host by its name, a switch by its number
abbrev pub vertex_text : Network → MapVertex → List ℕ
vertex_text n (MapHost h) = host_name n h
vertex_text n (MapSwitch s) = codes "#" ++ decimal s

-- a hexadecimal digit, lower case
abbrev pub hex_digit : ℕ → ℕ
hex_digit d = if nat_lt d 10 then 48 + d else 87 + d

-- bytes as two digits each, or `-` for none
abbrev pub hex_text : List ℕ → List ℕ
hex_text [] = codes "-"
hex_text (b ∷ bs) = flat_map (λ x. hex_digit (x / 16) ∷ hex_digit (x % 16) ∷ []) (b ∷ bs)

-- a number with its place: `NUMBER=PLACE`
abbrev pub entry_text : ℕ → List ℕ → List ℕ
entry_text v place = decimal v ++ codes "=" ++ place
