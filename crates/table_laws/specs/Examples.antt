-- A reached world, worked out: the two hosts at one switch, of which host 0 adopts the routes.
use Rattle.std.specs.Prelude.{◌≡◌, pos, List, [], ◌∷◌, Some, None}
use Rattle.net_defs.specs.Examples.{two_hosts}
use Rattle.world_defs.specs.World.{WorldState, new_world, node_at}
use Rattle.world_defs.specs.Examples.{setup_routes}
use Rattle.world_defs.specs.Acts.{Act, Adopts, acted_all, IsReached}

-- the one act
abbrev pub one_adoption : List Act
one_adoption = Adopts 0 setup_routes ∷ []

-- the world after it
abbrev pub adopted_world : WorldState
adopted_world = acted_all (new_world two_hosts) one_adoption

-- it may happen: numbers rise along both routes
abbrev pub AdoptedIsReached : Type 0
AdoptedIsReached = IsReached two_hosts adopted_world

-- host 0 has its table of one route, and host 1 has none yet
abbrev pub OneTableIsActive : Type 0
OneTableIsActive =
    ((node_at adopted_world 0).table.active ≡ Some
    (record { epoch = 1; entries = record { to = 1; walk = pos 3 ∷ [] } ∷ [] }))
    × ((node_at adopted_world 1).table.active ≡ None)
