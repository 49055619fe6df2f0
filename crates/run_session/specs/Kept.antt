-- What a session keeps of maps and routes: a last map that says complete was one to compute routes of, and the last
-- routes were those of such a map, in the fabric as it stood when that map began.
use Rattle.std.specs.Prelude.{◌≡◌, ℕ, ◌≤◌, Option, Some}
use Rattle.world_defs.specs.History.{CableHistory, fabric_at}
use Rattle.world_defs.specs.World.{WorldState}
use Rattle.run_defs.specs.Session.{SessionState, LastMap, LastRoutes, complete_map}
use Rattle.promise_laws.specs.OneAction.{VerticesStay}
pub use Rattle.route_making.specs.Kept.{IsKeptMap, AreKeptRoutes}

-- A map was such a map of the fabric as it stood when it began.
pub record WasKeptMap (h : CableHistory) (l : LastMap) : Type 0 where
  pub past : l.began ≤ h.changes
  pub kept : IsKeptMap (fabric_at h l.began) l.mapper l.made

-- Routes were such routes of the fabric as it stood when their map began.
pub record WereKeptRoutes (h : CableHistory) (l : LastRoutes) : Type 0 where
  pub past : l.began ≤ h.changes
  pub kept : AreKeptRoutes (fabric_at h l.began) l

-- a last map, where it says complete, was such a map
abbrev pub IsLastMap : CableHistory → Option LastMap → Type 0
IsLastMap h made = (l : LastMap) → complete_map made ≡ Some l → WasKeptMap h l

-- last routes, where there are any, were such routes
abbrev pub AreLastRoutes : CableHistory → Option LastRoutes → Type 0
AreLastRoutes h found = (l : LastRoutes) → found ≡ Some l → WereKeptRoutes h l

-- A session's last map, where it says complete, and its last routes are such.
pub record IsKept (s : SessionState) : Type 0 where
  pub complete : IsLastMap s.world.links.cables s.last_map
  pub routes : AreLastRoutes s.world.links.cables s.last_routes

-- What a command leaves of a world's cables: the hosts and the switches, and every fabric of the past; changes go on.
pub record GoesOn (w v : WorldState) : Type 0 where
  pub vertices : VerticesStay w v
  pub changes : w.links.cables.changes ≤ v.links.cables.changes
  pub past : (k : ℕ) → k ≤ w.links.cables.changes → fabric_at v.links.cables k ≡ fabric_at w.links.cables k
