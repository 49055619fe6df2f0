-- Journals, maps and routes for worked examples.
use Rattle.std.specs.Prelude.{pos, negsuc, List, [], ◌∷◌}
use Rattle.net_defs.specs.declared.route.Route.{Route}
use Rattle.net_defs.specs.declared.place.Answer.TheVariants.{Switch as IsSwitch, Nothing as IsNothing}
use Rattle.journal_defs.specs.declared.entry.Entry.{Entry}
use Rattle.journal_defs.specs.Examples.{told}
use Rattle.map_defs.specs.declared.vertex.MapVertex.TheVariants.{Host, Switch}
use Rattle.map_defs.specs.declared.rank.RankEntry.{RankEntry}
use Rattle.map_defs.specs.NetMap.{NetMap}
use Rattle.map_defs.specs.Examples.{cable, unmarked_map, route, rank}

-- Two hosts on one cable.
abbrev pub one_cable_map : NetMap
one_cable_map = unmarked_map (Host 0 ∷ Host 1 ∷ []) (cable 0 (pos 0) 1 (pos 0) ∷ [])

-- The routes between two hosts at ports 2 and 5 of one switch, and ranks that rise along them.
abbrev pub two_hosts_routes : List Route
two_hosts_routes = route 0 1 (pos 3 ∷ []) ∷ route 1 0 (negsuc 2 ∷ []) ∷ []

-- ranks that rise along both routes
abbrev pub two_hosts_ranks : List RankEntry
two_hosts_ranks = rank 0 (pos 0) 1 ∷ rank 1 (pos 0) 3 ∷ rank 1 (pos 3) 4 ∷ rank 2 (pos 0) 0 ∷ []

-- Two hosts on one cable, where the mapper's one probe was lost, and the map of that.
abbrev pub lost_probe : List Entry
lost_probe = told [] IsNothing ∷ []

-- the map of a lost probe: the mapper alone
abbrev pub lone_map : NetMap
lone_map = unmarked_map (Host 0 ∷ []) []

-- Two hosts at one switch, where the mapper has found the switch and asked no turn of it, and the map of that.
abbrev pub unexpanded : List Entry
unexpanded = told [] IsSwitch ∷ []

-- the map of an unexpanded switch
abbrev pub stub_map : NetMap
stub_map = unmarked_map (Host 0 ∷ Switch 0 ∷ []) (cable 0 (pos 0) 1 (pos 0) ∷ [])
