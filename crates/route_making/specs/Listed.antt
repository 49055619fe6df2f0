-- Hosts of a map among the first addresses, and routes between hosts of a fabric.
use Rattle.std.specs.Prelude.{ℕ, ◌<◌, List, nat_eq, length}
use Rattle.std.specs.List.{AllByRecursion, filter, list_any, range_with_len}
use Rattle.net_defs.specs.declared.route.Route.{Route}
use Rattle.net_defs.specs.Network.{Network}
use Rattle.map_defs.specs.NetMap.{NetMap, hosts_of}

-- the hosts of a map among so many addresses, rising
abbrev pub map_hosts_below : ℕ → NetMap → List ℕ
map_hosts_below count m = filter (λ h. list_any (nat_eq h) (hosts_of m.vertices)) (range_with_len 0 count)

-- each route goes between hosts of the fabric
abbrev pub AreBetweenHosts : Network → List Route → Type 0
AreBetweenHosts f routes = AllByRecursion (λ r. (r.from < length f.hosts) × (r.to < length f.hosts)) routes
