-- The entries of a map from names to numbers of ports, as a list of named vertices.
use Rattle.std.specs.Prelude.{ℕ, List, map, Vec}
use Rattle.std.specs.declared.hash.FoldHasher.{FoldHasher}
use Rattle.std.specs.declared.hash.BuildHasherDefault.{BuildHasherDefault}
use Rattle.std.specs.declared.alloc.Global.{Global}
use Rattle.indexmap.specs.IndexMap.{IndexMap}
use Rattle.net_defs.specs.declared.vertex.Cable.{Cable}
use Rattle.net_defs.specs.Network.{NamedSwitch, Network}

-- names with the number of ports of each, in the order in which they came
abbrev pub Entries : Type 0
Entries = IndexMap (Vec ℕ Global) ℕ (BuildHasherDefault FoldHasher)

-- an entry as a named vertex
abbrev pub named_entry : Vec ℕ Global × ℕ → NamedSwitch
named_entry e = record { name = e.0.items; ports = e.1 }

-- the named vertices of the entries
abbrev pub named : Entries → List NamedSwitch
named m = map named_entry m.entries

-- the fabric of hosts, switches and cables
abbrev pub network_of : List NamedSwitch → List NamedSwitch → List Cable → Network
network_of hosts switches cables = record { hosts = map (λ h. h.name) hosts; switches = switches; cables = cables }
