-- What an installation is made over.
use Rattle.std.specs.Prelude.{◌≡◌, ◌≢◌, ℕ, ◌≤◌, ◌<◌, true, false, List, length, Some}
use Rattle.std.specs.List.{AllByRecursion}
use Rattle.world_defs.specs.History.{fabric_at}
use Rattle.world_defs.specs.Links.{is_idle}
use Rattle.net_defs.specs.RouteSet.{AreRising, HasRoute}
use Rattle.world_defs.specs.Table.{Adoption, has_revoked}
use Rattle.world_defs.specs.World.{WorldState, host_count, node_at}
use Rattle.world_defs.specs.Acts.{IsReached}

-- a set has a route from its adopter to a host, and one back
pub record IsJoined (a : Adoption) (host : ℕ) : Type 0 where
  pub there : HasRoute a.routes a.mapper host
  pub back : HasRoute a.routes host a.mapper

-- each route of a set has at most 64 turns, as many as a part carries
abbrev pub HasFewTurns : Adoption → Type 0
HasFewTurns a = AllByRecursion (λ r. length r.walk ≤ 64) a.routes

-- A set that can be installed on these hosts: its routes stand in their order, and each has few turns; and to each of
-- the hosts but the adopter a route leads, and one back.
pub record IsForHosts (a : Adoption) (hosts : List ℕ) : Type 0 where
  pub in_order : AreRising a.routes
  pub few_turns : HasFewTurns a
  pub joined : AllByRecursion (λ h. h ≢ a.mapper → IsJoined a h) hosts

-- An installation of the adopted set on these hosts, in a world that acts which may happen lead to: the links are
-- idle, no host has given up the set's epoch, and no cable went or came since the adoption.
pub record CanInstall (a : Adoption) (hosts : List ℕ) (w : WorldState) : Type 0 where
  pub reached : IsReached (fabric_at w.links.cables 0) w
  pub idle : is_idle w.links ≡ true
  pub adopted : w.adopted ≡ Some a
  pub unchanged : w.links.cables.changes ≡ a.at
  pub unrevoked : (h : ℕ) → h < host_count w → has_revoked a.epoch (node_at w h).table ≡ false
  pub set : IsForHosts a hosts
