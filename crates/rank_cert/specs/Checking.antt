-- The first fault of routes and ranks.
use Rattle.std.specs.Prelude.{◌≡◌, ℕ, ℤ, Bool, false, List, [], ◌∷◌, length, nat_lt, if◌then◌else◌, Option, Some, None}
use Rattle.std.specs.Prelude.{Result, Ok, Err}
use Rattle.net_defs.specs.declared.route.Route.{Route}
use Rattle.net_defs.specs.Building.{first_of_two}
use Rattle.map_defs.specs.declared.rank.RankEntry.{RankEntry}
use Rattle.map_defs.specs.NetMap.{NetMap, MapPort, same_port}
use Rattle.map_defs.specs.Orientation.{IsOrder}
use Rattle.map_defs.specs.Routing.{led_to, channels_on, port_of_host, AreRoutesOf}
use Rattle.map_defs.specs.Ranks.{rank_of, ranks_of}
use Rattle.rank_cert.specs.declared.fault.CheckFault.{CheckFault}
use Rattle.rank_cert.specs.declared.fault.CheckFault.TheVariants.{BadRoute, NoRank, BadRank}

-- two ports are there, and are one
abbrev pub are_one : Option MapPort → Option MapPort → Bool
are_one (Some d) (Some e) = same_port d e
are_one _ _ = false

-- a route leads to its host
abbrev pub leads : NetMap → Route → Bool
leads m r = are_one (led_to m (port_of_host m r.from) r.walk) (port_of_host m r.to)

-- a channel with its rank
abbrev pub Ranked : Type 0
Ranked = (ℕ × ℤ) × ℕ

-- the fault of a rank after the channel before it: that it doesn't rise
abbrev pub fault_between : Option Ranked → MapPort → ℕ → Option CheckFault
fault_between None d rank = None
fault_between (Some c) d rank = if nat_lt c.1 rank then None else Some (BadRank c.0 (d.v, d.p) c.1 rank)

-- the fault of a channel after the channel before it: that it has no rank, or one that doesn't rise
abbrev pub fault_at : Option Ranked → MapPort → Option ℕ → Option CheckFault
fault_at before d None = Some (NoRank d.v d.p)
fault_at before d (Some rank) = fault_between before d rank

-- a channel with its rank, where it has one
abbrev pub ranked : MapPort → Option ℕ → Option Ranked
ranked d None = None
ranked d (Some r) = Some ((d.v, d.p), r)

-- the channel of a port, where there is one, with its rank
abbrev pub ranked_at : List RankEntry → Option MapPort → Option Ranked
ranked_at ks None = None
ranked_at ks (Some d) = ranked d (rank_of ks d)

-- the rank of the channel of a port, where there is one
abbrev pub rank_after : List RankEntry → Option MapPort → Option ℕ
rank_after ks None = None
rank_after ks (Some d) = rank_of ks d

-- the channel of a port, where there is one, with this rank
abbrev pub ranked_by : Option MapPort → Option ℕ → Option Ranked
ranked_by None rank = None
ranked_by (Some d) rank = ranked d rank

-- the fault of the first of these channels, which has this rank, after the channel before it
abbrev pub fault_by : Option Ranked → List MapPort → Option ℕ → Option CheckFault
fault_by before [] rank = None
fault_by before (d ∷ ds) rank = fault_at before d rank

-- the first fault along channels
abbrev pub fault_along : List RankEntry → Option Ranked → List MapPort → Option CheckFault
fault_along ks before [] = None
fault_along ks before (d ∷ ds) = first_of_two (fault_at before d (rank_of ks d))
    (fault_along ks (ranked d (rank_of ks d)) ds)

-- the first fault of a route: that it leads elsewhere, then those of its channels in order
abbrev pub route_fault : NetMap → List RankEntry → Route → Option CheckFault
route_fault m ks r = if leads m r then fault_along ks None (channels_on m (port_of_host m r.from) r.walk)
    else Some (BadRoute r.from r.to)

-- the fault of the first route that has one
abbrev pub first_fault : NetMap → List RankEntry → List Route → Option CheckFault
first_fault m ks [] = None
first_fault m ks (r ∷ rs) = first_of_two (route_fault m ks r) (first_fault m ks rs)

-- the answer of a check: Ok exactly where there is no fault, else the first
abbrev pub Tells : Option CheckFault → Result (Unit {0}) CheckFault → Type 0
Tells fault (Ok u) = fault ≡ None
Tells fault (Err e) = fault ≡ Some e

-- The routes and the ranks of a map go by one order of its vertices: these are its least legal routes and its ranks.
pub record AreOfOneOrder (m : NetMap) (routes : List Route) (ranks : List RankEntry) : Type 0 where
  pub order : List ℕ
  pub is_order : IsOrder order (length m.vertices)
  pub routes_of : AreRoutesOf m order routes
  pub ranks_are : ranks ≡ ranks_of m order
