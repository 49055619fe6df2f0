-- When a map can be printed, and that its text is read back.
use Rattle.std.specs.Prelude.{◌≡◌, ℕ, ◌<◌, List, length, Ok}
use Rattle.std.specs.List.{AllByRecursion}
use Rattle.net_defs.specs.Network.{Network, IsFabric}
use Rattle.map_defs.specs.declared.vertex.MapVertex.{MapVertex}
use Rattle.map_defs.specs.declared.vertex.MapVertex.TheVariants.{Host, Switch}
use Rattle.map_defs.specs.NetMap.{NetMap}
use Rattle.fabric_file.specs.Reading.{AreNamed}
use Rattle.map_canon.specs.Reading.{map_reading}

-- a vertex that is a host is one of the fabric
abbrev pub IsOfFabric : Network → MapVertex → Type 0
IsOfFabric f (Host h) = h < length f.hosts
IsOfFabric f (Switch s) = Unit {0}

-- the hosts of a map are hosts of the fabric
abbrev pub AreOfFabric : Network → NetMap → Type 0
AreOfFabric f m = AllByRecursion (IsOfFabric f) m.vertices

-- With names of the text's form a text is read as the map.
abbrev pub IsReadBack : Network → NetMap → List ℕ → Type 0
IsReadBack f m text = IsFabric f → AreNamed f → map_reading f text ≡ Ok m
