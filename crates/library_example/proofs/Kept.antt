-- That a map which says complete is one to compute routes of, and that its routes may be installed.
use Rattle.std.proofs.Common.{◌≡◌, ◌<◌, ◌∙◌, ℕ, ℤ, true, List, [], ◌∷◌, length, nat_eq, Result, Ok, IfOk, sym, ap, subst, arith}
use Rattle.std.specs.List.{list_any}
use Rattle.std.proofs.lemmas.Bool.Decides.{nat_tests}
use Rattle.net_defs.specs.declared.place.Answer.{Answer}
use Rattle.net_defs.specs.declared.route.Route.{Route}
use Rattle.net_defs.specs.declared.vertex.Vertex.TheVariants.{Host}
use Rattle.net_defs.specs.Network.{Network, IsFabric, has_vertex}
use Rattle.map_defs.specs.NetMap.{NetMap, IsMap, IsConnected}
use Rattle.map_defs.specs.Orientation.{order_of}
use Rattle.map_defs.specs.Routing.{AreRoutesOf}
use Rattle.map_defs.specs.Sameness.{IsMapOfPart}
use Rattle.map_laws.proofs.Connected.{quotient_is_connected}
use Rattle.map_laws.proofs.Size.{right_map_is_no_larger}
use Rattle.world_defs.specs.History.{fabric_at}
use Rattle.world_defs.proofs.Now.{last_is_now}
use Rattle.world_defs.specs.World.{WorldState, fabric_of, host_count}
use Rattle.route_install.specs.Installing.{AreHosts}
use Rattle.adopted_routes.specs.Adopting.{IsAdoptable, is_among}
use Rattle.fab_world.specs.Events.{IsHostOf}
use Rattle.fab_world.specs.Held.{IsMoment}
use Rattle.run_defs.specs.Session.{LastRoutes}
use Rattle.map_canon.specs.Printing.{AreOfFabric}
use Rattle.map_making.specs.declared.making.MadeMap.{MadeMap}
use Rattle.map_making.specs.Made.{IsMade}
use Rattle.map_making.proofs.Words.{complete-within}
use Rattle.run_defs.specs.declared.line.MapWords.TheVariants.{Complete}
use Rattle.mapper.specs.Asks.{AreAsked}
use Rattle.journal_defs.specs.declared.entry.Entry.{Entry}
use Rattle.world_asking.specs.Prober.{WorldAsking, IsAsked}
use Rattle.route_making.specs.Kept.{IsKeptMap, AreKeptRoutes}
use Rattle.route_making.specs.Listed.{map_hosts_below}
use Rattle.route_making.proofs.Adoptable.{kept-adoptable, kept-mapper, kept-named, kept-rise}

-- asks keep the number of changes before the first
pub asked-made : (s t : WorldAsking) (j : List Entry) → AreAsked WorldAsking IsAsked s j t → t.made ≡ s.made
asked-made s t [] same = sym (ap (λ (u : WorldAsking). u.made) same)
asked-made s t (e ∷ rest) (between, is, more) = asked-made between t rest more ∙ ap (λ (u : WorldAsking). u.made) is.led

-- an address below the number of hosts is a host's
has-host : (n : Network) (host : ℕ) → host < length n.hosts → has_vertex n (Host host) ≡ true
has-host n host low = grind (arith, nat_tests)

-- a map that was made, and is its mapper's part of the fabric
pub kept-map : (S : Type 0) (asked : S → List ℤ → Answer → S → Type 0) (n : Network) (host depth drowned : ℕ) (before after : S) (m : MadeMap) → IsFabric n → host < length n.hosts
    → IsMade S asked host depth before drowned m after → m.words ≡ Complete → IsMap m.map → IsMapOfPart n host m.map → AreOfFabric n m.map → IsKeptMap n host m.map
kept-map S asked n host depth drowned before after m fabric low made says rules right hosts =
    let k = made.within (complete-within host made.journal drowned m.words made.called says) in
    let small = (right_map_is_no_larger n host m.map fabric (has-host n host low) right).switches in
    let few = fabric.few_switches in
    record {
      rules = rules;
      right = right;
      hosts = hosts;
      connected = subst IsConnected (sym k.marked)
          (λ v l. (let r = quotient_is_connected host depth made.journal k.unmarked made.grown k.quotient v l in record { cables = r.cables; path = r.path }));
      few = omega (arith, small, few);
    }

-- the hosts of a map in a world, by address
abbrev hosts_in : WorldState → NetMap → List ℕ
hosts_in w m = map_hosts_below (host_count w) m

-- routes with their mapper and the hosts of its map, as they are installed in a world
abbrev last : WorldState → ℕ → NetMap → List Route → LastRoutes
last w mapper m routes = record { mapper = mapper; hosts = hosts_in w m; routes = routes; began = w.links.cables.changes }

-- the least legal routes of such a map
kept-routes : (w : WorldState) (mapper : ℕ) (m : NetMap) (routes : List Route) → IsMoment w → IsKeptMap (fabric_of w) mapper m → AreRoutesOf m (order_of m) routes → AreKeptRoutes (fabric_of w) (last w mapper m routes)
kept-routes w mapper m routes now kept are = record {
  made = m;
  kept = kept;
  are = are;
  hosts = ap (λ k. map_hosts_below k m) now.world.hosts;
}

-- they may be adopted by the mapper, which is there
pub adoptable : (w : WorldState) (mapper : ℕ) (m : NetMap) (routes : List Route) → IsMoment w → IsKeptMap (fabric_of w) mapper m → AreRoutesOf m (order_of m) routes → IsAdoptable (fabric_of w) mapper routes
adoptable w mapper m routes now kept are = kept-adoptable (fabric_of w) (last w mapper m routes) now.fabric (kept-routes w mapper m routes now kept are)

pub adopter-there : (w : WorldState) (mapper : ℕ) (m : NetMap) (routes : List Route) → IsMoment w → IsKeptMap (fabric_of w) mapper m → AreRoutesOf m (order_of m) routes → IsHostOf w mapper
adopter-there w mapper m routes now kept are =
    let hosts : host_count w ≡ length (fabric_of w).hosts = now.world.hosts in
    let low : mapper < length (fabric_of w).hosts = kept-mapper (fabric_of w) (last w mapper m routes) (kept-routes w mapper m routes now kept are) in
    omega (arith, hosts, low)

-- and installed on the hosts of the map
pub installable : (w : WorldState) (mapper : ℕ) (m : NetMap) (routes : List Route) → IsMoment w → IsKeptMap (fabric_of w) mapper m → AreRoutesOf m (order_of m) routes
    → AreHosts (hosts_in w m) × ((h : ℕ) → list_any (nat_eq h) (hosts_in w m) ≡ is_among mapper routes h)
installable w mapper m routes now kept are =
    let l : LastRoutes = last w mapper m routes in
    let k : AreKeptRoutes (fabric_of w) l = kept-routes w mapper m routes now kept are in
    (kept-rise (fabric_of w) l k, kept-named (fabric_of w) l k)

-- the fabric after the changes so far is the one that stands
stands-now : (w : WorldState) (k : ℕ) → IsMoment w → k ≡ w.links.cables.changes → fabric_at w.links.cables k ≡ fabric_of w
stands-now w k now same = last_is_now w.links.cables k now.history (omega (arith, same))

-- so a map of the fabric of a new world is one of the fabric that stands, where no cable changed
pub unchanged-kept : {E : Type 0} (w : WorldState) (mapper : ℕ) (r : Result NetMap E) (m : NetMap) → IsMoment w → r ≡ Ok m → IfOk r (IsKeptMap (fabric_at w.links.cables 0) mapper) → w.links.cables.changes ≡ 0 → IsKeptMap (fabric_of w) mapper m
unchanged-kept w mapper r m now is kept same =
    subst (λ (n : Network). IsKeptMap n mapper m) (stands-now w 0 now (sym same)) (subst (λ x. IfOk x (IsKeptMap (fabric_at w.links.cables 0) mapper)) is kept)

-- and a map of a prober of host 0, which was made over a new world, is one of that
pub kept-new : {E : Type 0} (r : Result NetMap E) (v w : WorldState) (made host : ℕ) → w ≡ v → made ≡ 0 → host ≡ 0 → IfOk r (IsKeptMap (fabric_at v.links.cables made) host) → IfOk r (IsKeptMap (fabric_at w.links.cables 0) 0)
kept-new r v w made host same none first kept =
    subst (λ (u : WorldState). IfOk r (IsKeptMap (fabric_at u.links.cables 0) 0)) (sym same)
    (subst (λ k. IfOk r (IsKeptMap (fabric_at v.links.cables 0) k)) first (subst (λ k. IfOk r (IsKeptMap (fabric_at v.links.cables k) host)) none kept))
