-- Where routes have a rank certificate on a right map, their channels in the fabric have no cycle of dependencies.
use Rattle.std.proofs.Common.{◌≡◌, ℕ, zero, suc, List, [], ◌∷◌, Some, subst, refl}
use Rattle.std.specs.Prelude.{slice_get}
use Rattle.net_defs.specs.declared.route.Route.{Route}
use Rattle.net_defs.specs.Network.{Network}
use Rattle.net_defs.specs.Route.{channels_of}
use Rattle.map_defs.specs.NetMap.{NetMap}
use Rattle.map_defs.specs.Routing.{channels_on, port_of_host}
use Rattle.net_defs.specs.Dependencies.{IsNext, IsBefore, Chain, HasNoCycle}
use Rattle.map_defs.specs.Ranks.{channels_of_routes}
use Rattle.net_defs.specs.Dependencies.IsNext.{here, later}
use Rattle.net_defs.specs.Dependencies.Chain.{one, more}
use Rattle.map_defs.proofs.Cycles.{certificate_leaves_no_cycle}
use Rattle.map_laws.specs.Leading.{HasHost, AreMatched, AreFromHosts, IsChannelOf, IsOneToOne, channels_in_fabric, CertificateHoldsInTheFabric}
use Rattle.map_laws.proofs.Channels.{channels_are_matched, channels_are_one_to_one}

-- neighbours in a list are related to neighbours in the other
record Neighbours {X Y : Type 0} (R : X → Y → Type 0) (xs : List X) (c d : Y) : Type 0 where
  pub first : X
  pub second : X
  pub is_first : R first c
  pub is_second : R second d
  pub next : IsNext first second xs

matched-next : {X Y : Type 0} (R : X → Y → Type 0) (c d : Y) (ys : List Y) → IsNext c d ys → (xs : List X) → AreMatched R xs ys → Neighbours R xs c d
matched-next R c d ys (here {cs = cs}) [] a = absurd a
matched-next R c d ys (here {cs = cs}) (x ∷ []) a = absurd a.1
matched-next R c d ys (here {cs = cs}) (x ∷ w ∷ xs) a = record { first = x; second = w; is_first = a.0; is_second = a.1.0; next = here }
matched-next R c d ys (later {b = b} {cs = cs} n) [] a = absurd a
matched-next R c d ys (later {b = b} {cs = cs} n) (x ∷ xs) a =
    let r = matched-next R c d cs n xs a.1 in
    record { first = r.first; second = r.second; is_first = r.is_first; is_second = r.is_second; next = later r.next }

-- a route in the fabric and on the map
record Both (n : Network) (m : NetMap) (routes : List Route) (k : ℕ) (cs : List ℕ) : Type 0 where
  pub route : Route
  pub from : HasHost m route.from
  pub on_map : slice_get (channels_of_routes m routes) k ≡ Some (channels_on m (port_of_host m route.from) route.walk)
  pub in_fabric : channels_of n route.from route.walk ≡ cs

route-at : (n : Network) (m : NetMap) (routes : List Route) (k : ℕ) (cs : List ℕ) → AreFromHosts m routes → slice_get (channels_in_fabric n routes) k ≡ Some cs → Both n m routes k cs
route-at n m [] k cs h e = cc
route-at n m (r ∷ rs) zero cs h e = record { route = r; from = h.0; on_map = refl; in_fabric = (let two : Some (channels_of n r.from r.walk) ≡ Some cs = e in cc) }
route-at n m (r ∷ rs) (suc k) cs h e = let b = route-at n m rs k cs h.1 e in record { route = b.route; from = b.from; on_map = b.on_map; in_fabric = b.in_fabric }

module _ {X Y : Type 0} (R : X → Y → Type 0) (pairs : IsOneToOne R) (Before : X → X → Type 0) (After : Y → Y → Type 0) where
  -- a step of one relation is a step of the other
  pub record Lift (c d : Y) : Type 0 where
    pub first : X
    pub second : X
    pub is_first : R first c
    pub is_second : R second d
    pub step : Before first second

  abbrev pub Lifts : Type 0
  Lifts = (c d : Y) → After c d → Lift c d

  record Lifted (x : X) (d : Y) : Type 0 where
    pub end : X
    pub is_end : R end d
    pub chain : Chain Before x end

  chain-lifts : (c d : Y) → Lifts → Chain After c d → (x : X) → R x c → Lifted x d
  chain-lifts c d lifts (one s) x r =
      let l = lifts c d s in
      let own : l.first ≡ x = pairs.back l.first x c l.is_first r in
      record { end = l.second; is_end = l.is_second; chain = one (subst (λ z. Before z l.second) own l.step) }
  chain-lifts c d lifts (more {d = b} s rest) x r =
      let l = lifts c b s in
      let own : l.first ≡ x = pairs.back l.first x c l.is_first r in
      let t = chain-lifts b d lifts rest l.second l.is_second in
      record { end = t.end; is_end = t.is_end; chain = more (subst (λ z. Before z l.second) own l.step) t.chain }

  chain-start : (c d : Y) → Lifts → Chain After c d → (x : X) × R x c
  chain-start c d lifts (one s) = let l = lifts c d s in (l.first, l.is_first)
  chain-start c d lifts (more {d = b} s rest) = let l = lifts c b s in (l.first, l.is_first)

  pub no_cycle-lifts : Lifts → HasNoCycle Before → HasNoCycle After
  no_cycle-lifts lifts none c around =
      let from = chain-start c c lifts around in
      let t = chain-lifts c c lifts around from.0 from.1 in
      let own : t.end ≡ from.0 = pairs.back t.end from.0 c t.is_end from.1 in
      none from.0 (subst (Chain Before from.0) own t.chain)

pub certificate_holds_in_the_fabric : CertificateHoldsInTheFabric
certificate_holds_in_the_fabric n host m routes ranks fabric rules same hosts certificate =
    no_cycle-lifts (IsChannelOf n host m same) (channels_are_one_to_one n host m fabric same) (IsBefore (channels_of_routes m routes)) (IsBefore (channels_in_fabric n routes)) lifts (certificate_leaves_no_cycle m routes ranks certificate)
  where
    lifts : (c d : ℕ) → IsBefore (channels_in_fabric n routes) c d → Lift (IsChannelOf n host m same) (channels_are_one_to_one n host m fabric same) (IsBefore (channels_of_routes m routes)) (IsBefore (channels_in_fabric n routes)) c d
    lifts c d b =
        let r = route-at n m routes b.place b.route hosts b.there in
        let matched = subst (AreMatched (IsChannelOf n host m same) (channels_on m (port_of_host m r.route.from) r.route.walk)) r.in_fabric (channels_are_matched n host r.route.from m r.route.walk fabric rules same r.from) in
        let next = matched-next (IsChannelOf n host m same) c d b.route b.next (channels_on m (port_of_host m r.route.from) r.route.walk) matched in
        record { first = next.first; second = next.second; is_first = next.is_first; is_second = next.is_second; step = record { place = b.place; route = channels_on m (port_of_host m r.route.from) r.route.walk; there = r.on_map; next = next.next } }
