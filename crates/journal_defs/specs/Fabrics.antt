-- Fabrics for worked examples.
use Rattle.std.specs.Prelude.{ℕ, List, [], ◌∷◌, codes, map, ◌++◌}
use Rattle.net_defs.specs.declared.vertex.Cable.{Cable}
use Rattle.net_defs.specs.Network.{Network, NamedSwitch}
use Rattle.net_defs.specs.Examples.{host_end, switch_end, joined}

-- a switch of a name and so many ports
abbrev pub switch_named : List ℕ → ℕ → NamedSwitch
switch_named name ports = record { name = name; ports = ports }

-- Hosts a and b on one cable.
abbrev pub one_cable : Network
one_cable = record { hosts = codes "a" ∷ codes "b" ∷ []; switches = []; cables = joined (host_end 0) (host_end 1) ∷ [] }

-- Two cables between switches s and t, which have a host each.
abbrev pub parallel : Network
parallel = record {
  hosts = codes "a" ∷ codes "b" ∷ [];
  switches = switch_named (codes "s") 8 ∷ switch_named (codes "t") 8 ∷ [];
  cables =
      joined (host_end 0) (switch_end 0 0)
      ∷ joined (switch_end 0 1) (switch_end 1 3)
      ∷ joined (switch_end 0 2) (switch_end 1 6)
      ∷ joined (host_end 1) (switch_end 1 4)
      ∷ [];
}

-- Three switches in a line, with a host at each end.
abbrev pub line : Network
line = record {
  hosts = codes "a" ∷ codes "b" ∷ [];
  switches = switch_named (codes "s") 8 ∷ switch_named (codes "t") 8 ∷ switch_named (codes "u") 8 ∷ [];
  cables =
      joined (host_end 0) (switch_end 0 0)
      ∷ joined (switch_end 0 1) (switch_end 1 2)
      ∷ joined (switch_end 1 5) (switch_end 2 4)
      ∷ joined (switch_end 2 7) (host_end 1)
      ∷ [];
}

-- the four cables of a ring of four switches
abbrev pub ring : List Cable
ring =
    joined (switch_end 0 0) (switch_end 1 1)
    ∷ joined (switch_end 1 0) (switch_end 2 1)
    ∷ joined (switch_end 2 0) (switch_end 3 1)
    ∷ joined (switch_end 3 0) (switch_end 0 1)
    ∷ []

-- the four switches of a ring, of four ports each
abbrev pub ring_switches : List NamedSwitch
ring_switches = map (λ name. switch_named name 4) (codes "s0" ∷ codes "s1" ∷ codes "s2" ∷ codes "s3" ∷ [])

-- A ring of four switches with one host.
abbrev pub lonely_ring : Network
lonely_ring = record {
  hosts = codes "a" ∷ [];
  switches = ring_switches;
  cables = ring ++ joined (host_end 0) (switch_end 0 2) ∷ [];
}

-- A ring of four switches with a host each.
abbrev pub ring_of_four : Network
ring_of_four = record {
  hosts = codes "a" ∷ codes "b" ∷ codes "c" ∷ codes "d" ∷ [];
  switches = ring_switches;
  cables =
      ring
      ++ joined (host_end 0) (switch_end 0 2)
      ∷ joined (host_end 1) (switch_end 1 2)
      ∷ joined (host_end 2) (switch_end 2 2)
      ∷ joined (host_end 3) (switch_end 3 2)
      ∷ [];
}
