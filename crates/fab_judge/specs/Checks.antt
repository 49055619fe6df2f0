-- What a check of routes with their ranks finds.
use Rattle.std.specs.Prelude.{ℕ, ◌+◌, Bool, true, not, ◌&&◌, ◌||◌, List, [], ◌∷◌, nat_eq, is_some, if◌then◌else◌}
use Rattle.std.specs.Prelude.{Option, Some, None}
use Rattle.std.specs.List.{AllByRecursion, list_all}
use Rattle.net_defs.specs.declared.route.Route.{Route}
use Rattle.port_graph.specs.Routes.{walk_of}
use Rattle.map_defs.specs.declared.vertex.MapVertex.{MapVertex}
use Rattle.map_defs.specs.declared.vertex.MapVertex.TheVariants.{Host, Switch}
use Rattle.map_defs.specs.declared.rank.RankEntry.{RankEntry}
use Rattle.map_defs.specs.NetMap.{NetMap}
use Rattle.map_defs.specs.Ranks.{IsCertificate}
use Rattle.rank_cert.specs.Checking.{leads}
use Rattle.answer_defs.specs.declared.why.Why.{Why}
use Rattle.answer_defs.specs.Right.{HoldOn, LeadsBetween}
use Rattle.answer_defs.specs.Failing.{RoutesFail}

-- Routes hold on a map, or fail first at this place among the lines of their answer.
abbrev pub FindsFault : NetMap → List Route → List RankEntry → Option (ℕ × Why) → Type 0
FindsFault m found ranks None = HoldOn (Some m) found ranks
FindsFault m found ranks (Some p) = RoutesFail (Some m) found ranks p.0 p.1

-- a route leads from a host to a vertex, unless that is a switch or the host itself
abbrev pub reaches : List Route → ℕ → MapVertex → Bool
reaches routes a (Host b) = nat_eq a b || is_some (walk_of routes a b)
reaches routes a (Switch s) = true

-- from a vertex, unless it is a switch, to each other host among these
abbrev pub reaches_all : List Route → List MapVertex → MapVertex → Bool
reaches_all routes to (Host a) = list_all (reaches routes a) to
reaches_all routes to (Switch s) = true

-- Each route leads from one host of a map to another, and the ranks rise along every one.
abbrev pub AreRight : NetMap → List Route → List RankEntry → Type 0
AreRight m found ranks = AllByRecursion (LeadsBetween m) found × IsCertificate m found ranks

-- a route is between two hosts
abbrev pub is_between : Route → Bool
is_between r = not (nat_eq r.from r.to)

-- a route leads from one host of a map to another, as a test
abbrev pub leads_between : NetMap → Route → Bool
leads_between m r = is_between r && leads m r

-- the place of the first route that doesn't, counted from this one
abbrev pub astray_from : NetMap → ℕ → List Route → Option ℕ
astray_from m place [] = None
astray_from m place (r ∷ rs) = if leads_between m r then astray_from m (place + 1) rs else Some place
