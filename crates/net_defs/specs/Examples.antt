-- Fabrics for worked examples.
use Rattle.std.specs.Prelude.{ℕ, [], ◌∷◌, codes}
use Rattle.net_defs.specs.declared.vertex.Vertex.TheVariants.{Host, Switch}
use Rattle.net_defs.specs.declared.vertex.Cable.{Cable}
use Rattle.net_defs.specs.declared.vertex.End.{End}
use Rattle.net_defs.specs.Network.{Network}

-- the one port of a host
abbrev pub host_end : ℕ → End
host_end h = record { v = Host h; p = 0 }

-- a port of a switch
abbrev pub switch_end : ℕ → ℕ → End
switch_end s p = record { v = Switch s; p = p }

-- a cable between two ends
abbrev pub joined : End → End → Cable
joined d e = record { a = d; b = e }

-- Hosts a and b at ports 2 and 5 of a switch of eight ports.
abbrev pub two_hosts : Network
two_hosts = record {
  hosts = codes "a" ∷ codes "b" ∷ [];
  switches = record { name = codes "s"; ports = 8 } ∷ [];
  cables = joined (host_end 0) (switch_end 0 2) ∷ joined (host_end 1) (switch_end 0 5) ∷ [];
}

-- A switch t that is cabled to itself, behind a switch s that has both hosts.
abbrev pub self_cabled : Network
self_cabled = record {
  hosts = codes "a" ∷ codes "b" ∷ [];
  switches = record { name = codes "s"; ports = 4 } ∷ record { name = codes "t"; ports = 4 } ∷ [];
  cables =
      joined (host_end 0) (switch_end 0 0)
      ∷ joined (host_end 1) (switch_end 0 1)
      ∷ joined (switch_end 0 3) (switch_end 1 0)
      ∷ joined (switch_end 1 1) (switch_end 1 2)
      ∷ [];
}
