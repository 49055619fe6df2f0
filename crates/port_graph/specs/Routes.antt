-- Routes in a list that rises by sender and receiver: what it takes, and which walk it has.
use Rattle.std.specs.Prelude.{◌≡◌, ◌≤◌, ◌⊎◌, ℕ, ◌-◌, ℤ, Bool, true, ◌&&◌, List, [], ◌∷◌, length, nat_eq, slice_get}
use Rattle.std.specs.Prelude.{if◌then◌else◌, Option, Some, None, Result, Ok, Err}
use Rattle.std.specs.List.{AllByRecursion}
use Rattle.net_defs.specs.declared.route.Route.{Route}
use Rattle.net_defs.specs.RouteSet.{route_below}
use Rattle.port_graph.specs.declared.routes.RoutePush.{RoutePush}
use Rattle.port_graph.specs.declared.routes.RoutePush.TheVariants.{Order}

-- each route has at most 64 turns, as every walk
abbrev pub AreShort : List Route → Type 0
AreShort routes = AllByRecursion (λ r. length r.walk ≤ 64) routes

-- a route stands above the last one, if there is one
abbrev pub is_above : Option Route → Route → Bool
is_above None r = true
is_above (Some last) r = route_below last r

-- why a list doesn't take a route as its next
abbrev pub push_refusal : List Route → Route → Option RoutePush
push_refusal routes r = if is_above (slice_get routes (length routes - 1)) r then None else Some Order

-- The call refuses exactly where there is a refusal, with that one, and hands back the value. Only where there is
-- none may memory run out.
abbrev pub HandsBack : {T V E : Type 0} → Option E → E → V → Result T (V × E) → Type 0
HandsBack refusal no_memory value (Ok x) = refusal ≡ None
HandsBack refusal no_memory value (Err e) = (e.0 ≡ value)
    × ((refusal ≡ Some e.1) ⊎ ((refusal ≡ None) × (e.1 ≡ no_memory)))

-- a route goes from one host to another
abbrev pub goes : ℕ → ℕ → Route → Bool
goes from to r = nat_eq r.from from && nat_eq r.to to

-- the walk of the route from one host to another
abbrev pub walk_of : List Route → ℕ → ℕ → Option (List ℤ)
walk_of [] from to = None
walk_of (r ∷ rs) from to = if goes from to r then Some r.walk else walk_of rs from to

-- the walk of the route at a place, where it goes there
abbrev pub walk_at : Option Route → ℕ → ℕ → Option (List ℤ)
walk_at None from to = None
walk_at (Some r) from to = if goes from to r then Some r.walk else None
