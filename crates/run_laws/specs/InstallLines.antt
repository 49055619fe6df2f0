-- What every run installs, and what its line says.
use Rattle.std.specs.Prelude.{◌≡◌, ℕ, ◌<◌, ◌≤◌, true, List, ◌∷◌, length, nat_eq, Some}
use Rattle.std.specs.List.{AllByRecursion, list_any, filter}
use Rattle.net_defs.specs.declared.route.Route.{Route}
use Rattle.net_defs.specs.Network.{Network, IsFabric}
use Rattle.world_defs.specs.Links.{is_idle}
use Rattle.map_defs.specs.NetMap.{NetMap, IsMap, hosts_of}
use Rattle.map_defs.specs.Orientation.{order_of}
use Rattle.map_defs.specs.Routing.{AreRoutesOf}
use Rattle.map_defs.specs.Sameness.{IsMapOfPart}
use Rattle.world_defs.specs.History.{CableHistory, fabric_at}
use Rattle.world_defs.specs.World.{last_count, node_at, adopted_by}
use Rattle.world_defs.specs.Asking.{all_given_up}
use Rattle.run_defs.specs.declared.command.Command.{Command}
use Rattle.run_defs.specs.declared.command.Command.TheVariants.{Install}
use Rattle.run_defs.specs.declared.line.Line.TheVariants.{Installed}
use Rattle.run_defs.specs.Output.{Piece, OneLine}
use Rattle.run_defs.specs.Session.{SessionState, LastRoutes}
use Rattle.run_defs.specs.Outcome.{installation, set_of, may_install}
use Rattle.world_defs.specs.Table.{ActiveTable}
use Rattle.table_laws.specs.Set.{IsActiveOfSet}
use Rattle.run_defs.specs.Run.{Does, IsRun}
use Rattle.run_laws.specs.Acts.{IsActOf}
use Rattle.install_laws.specs.Premises.{CanInstall}
use Rattle.install_laws.specs.Cause.{EachMissedWasHarmed}
use Rattle.install_laws.specs.Tables.{has_table}

-- Each route of a right map, of a mapper that the fabric has, takes at most 64 turns: it turns at no switch twice.
abbrev pub RightRoutesAreShort : Type 0
RightRoutesAreShort =
    (n : Network) (host : ℕ) (m : NetMap) (routes : List Route) → IsFabric n → host < length n.hosts
    → IsMapOfPart n host m → AreRoutesOf m (order_of m) routes
    → AllByRecursion (λ r. length r.walk ≤ 64) routes

-- The last routes of a run are those of a map of a host that was right in the fabric as it stood when the map began,
-- and their hosts are of that map.
pub record IsSetOfMap (h : CableHistory) (l : LastRoutes) : Type 0 where
  pub made : NetMap
  pub past : l.began ≤ h.changes
  pub is_host : l.mapper < length h.hosts
  pub rules : IsMap made
  pub right : IsMapOfPart (fabric_at h l.began) l.mapper made
  pub routes : AreRoutesOf made (order_of made) l.routes
  pub hosts : AllByRecursion (λ h. list_any (nat_eq h) (hosts_of made.vertices) ≡ true) l.hosts

-- every run keeps such routes
abbrev pub RunRoutesAreOfMap : Type 0
RunRoutesAreOfMap =
    (n : Network) (commands : List Command) (out : List Piece) (s : SessionState) (l : LastRoutes) → IsFabric n
    → AllByRecursion (IsActOf n) commands
    → IsRun n commands out s → s.last_routes ≡ Some l → IsSetOfMap s.world.links.cables l

-- where nothing refuses an installation after a run, the last routes can be installed once they are adopted
abbrev pub RunCanInstall : Type 0
RunCanInstall =
    (n : Network) (commands : List Command) (out : List Piece) (s : SessionState) (l : LastRoutes) → IsFabric n
    → AllByRecursion (IsActOf n) commands
    → IsRun n commands out s → s.last_routes ≡ Some l → is_idle s.world.links ≡ true
    → may_install s.world l ≡ true
    → CanInstall (set_of s.world l) l.hosts (adopted_by s.world l.mapper l.routes)

-- What the line `installed K of N` says: K hosts of the N of the last routes have all parts acknowledged, and at least
-- so many have an active table, which is the set's routes from its host. Where injections are left then, each other
-- host has a part each of whose tries met a planned loss, hold or flip, on the part or on its acknowledgement, or ended
-- with a cable of the routes to and fro pulled; so K is N where none did and no cable went.
pub record IsInstalledLine (s next : SessionState) (tries acked total : ℕ) : Type 0 where
  pub last : LastRoutes
  pub are : s.last_routes ≡ Some last
  pub counted : acked ≡ (installation s.world last tries).value
  pub after : next.world ≡ (installation s.world last tries).world
  pub all : total ≡ length last.hosts
  pub at_most : acked ≤ total
  pub tables : acked ≤ length (filter (has_table next.world) last.hosts)
  pub all_tables : acked ≡ total → AllByRecursion (λ h. has_table next.world h ≡ true) last.hosts
  pub of_set : (h : ℕ) (t : ActiveTable) → (node_at next.world h).table.active ≡ Some t
      → IsActiveOfSet (set_of s.world last).epoch last.routes h t
  pub cause : next.world.injected < last_count → EachMissedWasHarmed (set_of s.world last) tries last.hosts
      (all_given_up (adopted_by s.world last.mapper last.routes))
  pub unharmed : 0 < tries → next.world.injected < last_count → next.world.harmed ≡ s.world.harmed
      → next.world.links.cables.changes ≡ s.world.links.cables.changes → acked ≡ total

-- every such line after a run says so
abbrev pub InstalledLineIsTrue : Type 0
InstalledLineIsTrue =
    (n : Network) (commands : List Command) (out rest : List Piece) (s next : SessionState) (tries acked total : ℕ)
    → IsFabric n → AllByRecursion (IsActOf n) commands
    → IsRun n commands out s → Does s (Install tries) (OneLine (Installed acked total) ∷ rest) next
    → IsInstalledLine s next tries acked total
