-- The ranks of a right map number the channels of the fabric, rising along each route: so its routes may be adopted.
use Rattle.std.proofs.Common.{◌≡◌, ◌<◌, ℕ, zero, suc, List, [], ◌∷◌, Option, Some, None, ◌∙◌, ap, subst, refl, arith}
use Rattle.std.specs.Prelude.{ℤ, pos, ◌+ℤ◌, neg_ℤ, slice_get}
use Rattle.std.specs.List.{AllByRecursion}
use Rattle.std.proofs.lemmas.Int.{ints}
use Rattle.net_defs.specs.declared.route.Route.{Route}
use Rattle.net_defs.specs.declared.vertex.End.{End}
use Rattle.net_defs.specs.Network.{Network, IsFabric}
use Rattle.net_defs.specs.Route.{channels_of}
use Rattle.world_defs.specs.History.{first_history}
use Rattle.world_defs.specs.Crossed.{life_tail}
use Rattle.world_defs.proofs.First.{first_channels}
use Rattle.world_defs.proofs.ForLife.{leaving_has_its_end}
use Rattle.map_defs.specs.declared.rank.RankEntry.{RankEntry}
use Rattle.map_defs.specs.NetMap.{NetMap, MapPort, IsMap}
use Rattle.map_defs.specs.Orientation.{order_of}
use Rattle.map_defs.specs.Routing.{IsLeastLegal, LeadsTo, led_to, channels_on, port_of_host}
use Rattle.map_defs.specs.Sameness.{IsMapOfPart}
use Rattle.net_defs.specs.Dependencies.{IsNext, IsBefore}
use Rattle.map_defs.specs.Ranks.{IsCertificate, rank_of, ranks_of, channels_of_routes}
use Rattle.net_defs.specs.Dependencies.IsNext.{here, later}
use Rattle.map_defs.proofs.Certifying.{ranks_certify}
use Rattle.map_defs.proofs.Places.{places_are_an_order}
use Rattle.map_laws.specs.Leading.{HasHost, AreMatched, AreFromHosts, IsChannelOf}
use Rattle.map_laws.proofs.Landing.{port-host}
use Rattle.map_laws.proofs.Channels.{channels_are_matched}
use Rattle.map_laws.proofs.RightRoutes.{routes_of_a_right_map_are_right}
use Rattle.net_defs.specs.RouteSet.{channels_of_all}
use Rattle.run_laws.specs.Acts.{RightRoutesAreAdoptable}

-- neighbours in a list are related to neighbours in the other
record Neighbours {X Y : Type 0} (R : X → Y → Type 0) (xs : List X) (c d : Y) : Type 0 where
  first : X
  second : X
  is_first : R first c
  is_second : R second d
  next : IsNext first second xs

matched-next : {X Y : Type 0} (R : X → Y → Type 0) (c d : Y) (ys : List Y) → IsNext c d ys → (xs : List X) → AreMatched R xs ys → Neighbours R xs c d
matched-next R c d ys (here {cs = cs}) [] a = absurd a
matched-next R c d ys (here {cs = cs}) (x ∷ []) a = absurd a.1
matched-next R c d ys (here {cs = cs}) (x ∷ w ∷ xs) a = record { first = x; second = w; is_first = a.0; is_second = a.1.0; next = here }
matched-next R c d ys (later {b = b} {cs = cs} n) [] a = absurd a
matched-next R c d ys (later {b = b} {cs = cs} n) (x ∷ xs) a =
    let r = matched-next R c d cs n xs a.1 in
    record { first = r.first; second = r.second; is_first = r.is_first; is_second = r.is_second; next = later r.next }

-- a route in the fabric and on the map
record Both (n : Network) (m : NetMap) (routes : List Route) (k : ℕ) (cs : List ℕ) : Type 0 where
  route : Route
  from : HasHost m route.from
  on_map : slice_get (channels_of_routes m routes) k ≡ Some (channels_on m (port_of_host m route.from) route.walk)
  in_fabric : channels_of n route.from route.walk ≡ cs

route-at : (n : Network) (m : NetMap) (routes : List Route) (k : ℕ) (cs : List ℕ) → AreFromHosts m routes → slice_get (channels_of_all n routes) k ≡ Some cs → Both n m routes k cs
route-at n m [] k cs h e = cc
route-at n m (r ∷ rs) zero cs h e = record { route = r; from = h.0; on_map = refl; in_fabric = (let two : Some (channels_of n r.from r.walk) ≡ Some cs = e in cc) }
route-at n m (r ∷ rs) (suc k) cs h e = let b = route-at n m rs k cs h.1 e in record { route = b.route; from = b.from; on_map = b.on_map; in_fabric = b.in_fabric }

-- routes that lead start at hosts of the map
leads-from_host : (m : NetMap) (a b : ℕ) (turns : List ℤ) → LeadsTo m a b turns → HasHost m a
leads-from_host m a b turns l = by (port_of_host m a) refl l.led
  where
    by : (o : Option MapPort) → port_of_host m a ≡ o → led_to m o turns ≡ Some l.at → HasHost m a
    by None e f = cc
    by (Some d) e f = record { vertex = d.v; there = (port-host m a d e).0 }

from_hosts : (m : NetMap) (order : List ℕ) (routes : List Route) → AllByRecursion (λ r. IsLeastLegal m order r.from r.to r.walk) routes → AreFromHosts m routes
from_hosts m order [] all = tt
from_hosts m order (r ∷ rs) all = (leads-from_host m r.from r.to r.walk all.0.leads, from_hosts m order rs all.1)

abbrev rank_or_none : Option ℕ → ℕ
rank_or_none (Some k) = k
rank_or_none None = 0

port_back : (p x o : ℤ) → p ≡ x +ℤ o → p +ℤ neg_ℤ o ≡ x
port_back p x o e = omega (arith, ints, e)

same-port : (v w : ℕ) (p q : ℤ) → v ≡ w → p ≡ q → (let a : MapPort = record { v = v; p = p } in a) ≡ record { v = w; p = q }
same-port v w p q e f = cc

module _ (n : Network) (host : ℕ) (m : NetMap) (same : IsMapOfPart n host m) (ranks : List RankEntry) where
  -- the port of the map that an end of the fabric is
  abbrev port_in : End → MapPort
  port_in e = record { v = same.origin e.v; p = pos e.p +ℤ neg_ℤ (same.offset (same.origin e.v)) }

  abbrev rank_behind : Option End → ℕ
  rank_behind None = 0
  rank_behind (Some e) = rank_or_none (rank_of ranks (port_in e))

  -- the number of a channel: the rank of the port of the map that it leaves
  abbrev number_of : ℕ → ℕ
  number_of c = rank_behind (life_tail (first_history n) c)

  number-is : (x : MapPort) (c : ℕ) → IsChannelOf n host m same x c → number_of c ≡ rank_or_none (rank_of ranks x)
  number-is x c is =
      let at : End = record { v = same.image x.v; p = is.port } in
      let leaves = (first_channels n 0 at host []).0 ∙ is.number in
      let tail : life_tail (first_history n) c ≡ Some at = (leaving_has_its_end (first_history n) at c leaves).tail in
      let v : same.origin (same.image x.v) ≡ x.v = same.origin_image x.v is.in_map in
      let p : pos is.port +ℤ neg_ℤ (same.offset (same.origin (same.image x.v))) ≡ x.p = ap (λ u. pos is.port +ℤ neg_ℤ (same.offset u)) v ∙ port_back (pos is.port) x.p (same.offset x.v) is.moved in
      let one : port_in at ≡ x = same-port (same.origin (same.image x.v)) x.v _ x.p v p in
      ap rank_behind tail ∙ ap (λ d. rank_or_none (rank_of ranks d)) one

  number-rises : (routes : List Route) (c d : ℕ) → IsFabric n → IsMap m → AreFromHosts m routes → IsCertificate m routes ranks → IsBefore (channels_of_all n routes) c d → number_of c < number_of d
  number-rises routes c d fabric rules hosts certificate b =
      let r = route-at n m routes b.place b.route hosts b.there in
      let matched = subst (AreMatched (IsChannelOf n host m same) (channels_on m (port_of_host m r.route.from) r.route.walk)) r.in_fabric (channels_are_matched n host r.route.from m r.route.walk fabric rules same r.from) in
      let next = matched-next (IsChannelOf n host m same) c d b.route b.next (channels_on m (port_of_host m r.route.from) r.route.walk) matched in
      let rise = certificate.rising next.first next.second (record { place = b.place; route = channels_on m (port_of_host m r.route.from) r.route.walk; there = r.on_map; next = next.next }) in
      let low : number_of c ≡ rise.low = number-is next.first c next.is_first ∙ ap rank_or_none rise.is_low in
      let high : number_of d ≡ rise.high = number-is next.second d next.is_second ∙ ap rank_or_none rise.is_high in
      let up = rise.rises in
      omega (arith, low, high, up)

pub right_routes_are_adoptable : RightRoutesAreAdoptable
right_routes_are_adoptable n host m routes fabric rules same are =
    let order : List ℕ = order_of m in
    let ordered = places_are_an_order m in
    record {
      lead = (routes_of_a_right_map_are_right n host m order routes fabric rules same ordered are).leads;
      number = number_of n host m same (ranks_of m order);
      rises = λ c d b. number-rises n host m same (ranks_of m order) routes c d fabric rules (from_hosts m order routes are.least) (ranks_certify m order routes rules ordered are.least) b;
    }
