-- What is printed of a fabric: a line for each host, each switch and each cable, in their order.
use Rattle.std.specs.Prelude.{◌≡◌, ℕ, ◌+◌, List, [], ◌∷◌, ◌++◌, length, flat_map, Ok, codes, decimal}
use Rattle.net_defs.specs.declared.vertex.Cable.{Cable}
use Rattle.net_defs.specs.Network.{Network, NamedSwitch}
use Rattle.net_defs.specs.Building.{name_of}
use Rattle.fab_text.specs.Written.{line_text}
use Rattle.fabric_file.specs.Reading.{fabric_reading}

-- `host NAME`
abbrev pub host_words : List ℕ → List (List ℕ)
host_words name = codes "host" ∷ name ∷ []

-- `switch NAME PORTS`
abbrev pub switch_words : NamedSwitch → List (List ℕ)
switch_words s = codes "switch" ∷ s.name ∷ decimal s.ports ∷ []

-- `cable V P W Q`
abbrev pub cable_words : Network → Cable → List (List ℕ)
cable_words n c = codes "cable" ∷ name_of n c.a.v ∷ decimal c.a.p ∷ name_of n c.b.v ∷ decimal c.b.p ∷ []

-- a line for each host
abbrev pub hosts_text : Network → List ℕ
hosts_text n = flat_map (λ name. line_text (host_words name)) n.hosts

-- a line for each switch
abbrev pub switches_text : Network → List ℕ
switches_text n = flat_map (λ s. line_text (switch_words s)) n.switches

-- a line for each cable
abbrev pub cables_text : Network → List ℕ
cables_text n = flat_map (λ c. line_text (cable_words n c)) n.cables

-- The text of a fabric, up to its line `script`.
abbrev pub fabric_text : Network → List ℕ
fabric_text n = hosts_text n ++ (switches_text n ++ cables_text n)

-- the line `script`
abbrev pub script_line : List ℕ
script_line = line_text (codes "script" ∷ [])

-- the number of a fabric's lines
abbrev pub fabric_lines : Network → ℕ
fabric_lines n = length n.hosts + length n.switches + length n.cables

-- A text and then a line `script` are read as the fabric, whatever follows.
abbrev pub IsReadBack : Network → List ℕ → Type 0
IsReadBack n text =
    (rest : List ℕ) → fabric_reading (text ++ (script_line ++ rest))
    ≡ Ok (record { fabric = n; next = length text + length script_line; line = fabric_lines n + 1 })
