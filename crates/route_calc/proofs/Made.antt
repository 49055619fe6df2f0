-- The routes from all hosts.
use Rattle.std.proofs.Common.{◌≡◌, ◌≢◌, ◌<◌, ◌≤◌, ◌+◌, ℕ, List, [], ◌++◌, length, Option, Some, ap, sym, ◌∙◌, subst, arith, ◌⊎◌, inl, inr}
use Rattle.std.specs.Prelude.{slice_get}
use Rattle.std.specs.List.{AllByRecursion}
use Rattle.std.proofs.lemmas.Bool.{cases_order}
use Rattle.std.proofs.lemmas.Option.{slice_get_within}
use Rattle.net_defs.specs.declared.route.Route.{Route}
use Rattle.journal_defs.proofs.Members.{all-member, all-from-members, all-join}
use Rattle.map_defs.specs.NetMap.{NetMap}
use Rattle.net_defs.specs.RouteSet.{HasRoute, AreRising}
use Rattle.map_defs.specs.Routing.{IsLeastLegal, AreRoutesOf}
use Rattle.route_calc.specs.Adding.{IsRightRoute, AddsRoutes}
use Rattle.route_calc.specs.Hosts.{HostWays, AreRisingHosts, AreAllWays}
use Rattle.route_calc.proofs.Adding.{has-left, has-right, rises}

-- The routes from the first hosts.
pub record Made (m : NetMap) (order : List ℕ) (ways : List HostWays) (count : ℕ) (routes : List Route) : Type 0 where
  pub right : AllByRecursion (IsRightRoute m order) routes
  pub before : (k : ℕ) (w : HostWays) → count ≤ k → slice_get ways k ≡ Some w → AllByRecursion (λ r. r.from < w.host) routes
  pub whole : (i k : ℕ) (w x : HostWays) → i < count → slice_get ways i ≡ Some w → slice_get ways k ≡ Some x → w.host ≢ x.host → HasRoute routes w.host x.host

pub made-none : (m : NetMap) (order : List ℕ) (ways : List HostWays) → Made m order ways 0 []
made-none m order ways = record { right = tt; before = λ k w l e. tt; whole = λ i k w x l e f d. absurd (omega arith) }

pub made-more : (m : NetMap) (order : List ℕ) (ways : List HostWays) (count : ℕ) (old new : List Route) (at : HostWays) → Made m order ways count old → AreRisingHosts ways → slice_get ways count ≡ Some at → AddsRoutes m order at.host ways (length ways) old new → Made m order ways (count + 1) new
made-more m order ways count old new at made rising there a = record {
  right = subst (AllByRecursion (IsRightRoute m order)) (sym a.is) (all-join (IsRightRoute m order) old a.added made.right a.right);
  before = λ k w l e. subst (AllByRecursion (λ r. r.from < w.host)) (sym a.is) (all-join (λ r. r.from < w.host) old a.added (made.before k w (omega arith) e) (all-from-members (λ r. r.from < w.host) a.added (λ r i. subst (λ h. h < w.host) (sym (all-member (λ (s : Route). s.from ≡ at.host) r a.added a.from_there i)) (rises ways count k at w rising there e (omega arith)))));
  whole = λ i k w x l e f d. subst (λ rs. HasRoute rs w.host x.host) (sym a.is) (by i k w x e f d (cases_order i count) l);
}
  where
    by : (i k : ℕ) (w x : HostWays) → slice_get ways i ≡ Some w → slice_get ways k ≡ Some x → w.host ≢ x.host → (i ≡ count) ⊎ ((i < count) ⊎ (count < i)) → i < count + 1 → HasRoute (old ++ a.added) w.host x.host
    by i k w x e f d (inl p) l =
        let one : at ≡ w = (let two : ◌≡◌ {A = Option HostWays} (Some at) (Some w) = sym there ∙ ap (slice_get ways) (sym p) ∙ e in cc) in
        let host : at.host ≡ w.host = ap (λ (z : HostWays). z.host) one in
        has-right old a.added w.host x.host (subst (λ h. HasRoute a.added h x.host) host (a.whole k x (slice_get_within ways k x f) f (λ q. d (sym host ∙ q))))
    by i k w x e f d (inr (inl p)) l = has-left old a.added w.host x.host (made.whole i k w x p e f d)
    by i k w x e f d (inr (inr p)) l = absurd (omega arith)

pub made-routes : (m : NetMap) (order : List ℕ) (ways : List HostWays) (routes : List Route) → AreRising routes → Made m order ways (length ways) routes → AreAllWays m order ways → AreRoutesOf m order routes
made-routes m order ways routes rising made all = record {
  in_order = rising;
  between_hosts = all-from-members (λ (r : Route). r.from ≢ r.to) routes (λ r i. (all-member (IsRightRoute m order) r routes made.right i).differ);
  least = all-from-members (λ (r : Route). IsLeastLegal m order r.from r.to r.walk) routes (λ r i. (all-member (IsRightRoute m order) r routes made.right i).least);
  whole = λ v w a b e f d.
      (let p = all.whole v a e in
      let q = all.whole w b f in
      let found = made.whole p.place q.place p.ways q.ways (slice_get_within ways p.place p.ways p.there) p.there q.there (λ s. d (sym p.same ∙ s ∙ q.same)) in
      subst (λ h. HasRoute routes a h) q.same (subst (λ h. HasRoute routes h q.ways.host) p.same found));
}
