-- That the routes of a map may be adopted, and that the hosts of the map are the mapper and those that they name.
use Rattle.std.proofs.Common.{◌≡◌, ◌≢◌, ◌<◌, ◌≤◌, ◌+◌, ◌⊎◌, ℕ, zero, suc, Bool, true, false, true≢false, ◌&&◌, ◌||◌, if◌then◌else◌, List, [], ◌∷◌, length, nat_eq, Some, inl, inr, refl, sym, ◌∙◌, ap, subst, arith}
use Rattle.std.specs.Prelude.{ℤ, slice_get}
use Rattle.std.specs.List.{AllByRecursion, filter, list_any, range_with_len}
use Rattle.std.proofs.lemmas.Bool.{or_cases}
use Rattle.std.proofs.lemmas.Bool.Decides.{Decides-eqb, nat_tests}
use Rattle.std.proofs.lemmas.Map.Views.{any-filter_same}
use Rattle.net_defs.specs.declared.route.Route.{Route}
use Rattle.net_defs.specs.declared.vertex.Vertex.TheVariants.{Host}
use Rattle.net_defs.specs.Network.{Network, IsFabric}
use Rattle.net_defs.specs.RouteSet.{HasRoute}
use Rattle.journal_defs.specs.Part.{Path, IsInPart}
use Rattle.journal_defs.proofs.Members.{IsMember}
use Rattle.map_defs.specs.declared.vertex.MapVertex.{MapVertex}
use Rattle.map_defs.specs.declared.vertex.MapVertex.TheVariants.{Host as MapHost, Switch as MapSwitch}
use Rattle.map_defs.specs.NetMap.{NetMap, host_at, host_of_vertex, hosts_of}
use Rattle.map_defs.specs.Orientation.{order_of}
use Rattle.map_defs.specs.Routing.{AreRoutesOf, IsLeastLegal, LeadsTo, vertex_of_host}
use Rattle.map_defs.specs.Sameness.{IsMapOfPart, address_of}
use Rattle.map_laws.proofs.Listed.{member-host}
use Rattle.route_install.specs.Installing.{AreHosts}
use Rattle.adopted_routes.specs.Adopting.{IsAdoptable, is_among}
use Rattle.run_defs.specs.Session.{LastRoutes}
use Rattle.run_laws.proofs.Ranked.{right_routes_are_adoptable}
use Rattle.map_canon.specs.Printing.{IsOfFabric}
use Rattle.route_making.specs.Kept.{AreKeptRoutes}
use Rattle.route_making.specs.Listed.{map_hosts_below}
use Rattle.route_making.proofs.Naming.{found-any, ends-there, begins-there}

-- a host of the map
abbrev has : NetMap → ℕ → Bool
has m h = list_any (nat_eq h) (hosts_of m.vertices)

equal : (a b : ℕ) → nat_eq a b ≡ true → a ≡ b
equal a b = (Decides-eqb a b).0

itself : (a : ℕ) → nat_eq a a ≡ true
itself a = grind (arith, nat_tests)

or-right : (a b : Bool) → b ≡ true → (a || b) ≡ true
or-right true b e = refl
or-right false b e = e

or-left : (a b : Bool) → a ≡ true → (a || b) ≡ true
or-left a b e = ap (λ x. x || b) e

any-member : (h : ℕ) (hs : List ℕ) → list_any (nat_eq h) hs ≡ true → IsMember h hs
any-member h [] e = absurd (true≢false (sym e))
any-member h (g ∷ gs) e = by (nat_eq h g) refl e (any-member h gs)
  where
    by : (b : Bool) → nat_eq h g ≡ b → (b || list_any (nat_eq h) gs) ≡ true → (list_any (nat_eq h) gs ≡ true → IsMember h gs) → IsMember h (g ∷ gs)
    by true p q rest = inl (equal h g p)
    by false p q rest = inr (rest q)

-- a host of the map has a vertex
has-vertex : (m : NetMap) (h : ℕ) → has m h ≡ true → (v : ℕ) × (host_of_vertex m v ≡ Some h)
has-vertex m h e = member-host m.vertices h (any-member h (hosts_of m.vertices) e)

-- a vertex that is a host is one of the map's
vertex-any : (vs : List MapVertex) (v h : ℕ) → host_at (slice_get vs v) ≡ Some h → list_any (nat_eq h) (hosts_of vs) ≡ true
vertex-any [] v h e = cc
vertex-any (MapHost g ∷ vs) zero h e = let one : g ≡ h = cc in or-left (nat_eq h g) (list_any (nat_eq h) (hosts_of vs)) (ap (λ x. nat_eq h x) one ∙ itself h)
vertex-any (MapHost g ∷ vs) (suc v) h e = or-right (nat_eq h g) (list_any (nat_eq h) (hosts_of vs)) (vertex-any vs v h e)
vertex-any (MapSwitch s ∷ vs) zero h e = cc
vertex-any (MapSwitch s ∷ vs) (suc v) h e = vertex-any vs v h e

-- the mapper's vertex
mapper-vertex : (n : Network) (host : ℕ) (m : NetMap) → (right : IsMapOfPart n host m) → host_of_vertex m (right.origin (Host host)) ≡ Some host
mapper-vertex n host m right =
    let own : IsInPart n host (Host host) = record { cables = 0; path = Path.here } in
    sym (right.addresses (right.origin (Host host)) (right.origin_in (Host host) own)) ∙ ap address_of (right.image_origin (Host host) own)

-- a route goes from a host of the map to a host of it
from-has : (m : NetMap) (a b : ℕ) (turns : List ℤ) → LeadsTo m a b turns → has m a ≡ true
from-has m a b turns l = sym (found-any m a) ∙ begins-there m (vertex_of_host m a) turns l.at l.led

to-has : (m : NetMap) (a b : ℕ) (turns : List ℤ) → LeadsTo m a b turns → has m b ≡ true
to-has m a b turns l = sym (found-any m b) ∙ ends-there (vertex_of_host m b) l.at l.is_at

-- a route goes from a host or to it
abbrev touches : ℕ → Route → Bool
touches h r = nat_eq r.from h || nat_eq r.to h

touched-has : (m : NetMap) (order : List ℕ) (h : ℕ) (rs : List Route) → AllByRecursion (λ r. IsLeastLegal m order r.from r.to r.walk) rs → list_any (touches h) rs ≡ true → has m h ≡ true
touched-has m order h [] all e = absurd (true≢false (sym e))
touched-has m order h (r ∷ rs) all e = by (or_cases (touches h r) (list_any (touches h) rs) e) (touched-has m order h rs all.1)
  where
    end : (nat_eq r.from h ≡ true) ⊎ (nat_eq r.to h ≡ true) → has m h ≡ true
    end (inl p) = subst (λ x. has m x ≡ true) (equal r.from h p) (from-has m r.from r.to r.walk all.0.leads)
    end (inr p) = subst (λ x. has m x ≡ true) (equal r.to h p) (to-has m r.from r.to r.walk all.0.leads)

    by : (touches h r ≡ true) ⊎ (list_any (touches h) rs ≡ true) → (list_any (touches h) rs ≡ true → has m h ≡ true) → has m h ≡ true
    by (inl p) rest = end (or_cases (nat_eq r.from h) (nat_eq r.to h) p)
    by (inr p) rest = rest p

any-at : (test : Route → Bool) (rs : List Route) (i : ℕ) (r : Route) → slice_get rs i ≡ Some r → test r ≡ true → list_any test rs ≡ true
any-at test [] i r e t = cc
any-at test (x ∷ rs) zero r e t = let one : x ≡ r = cc in or-left (test x) (list_any test rs) (ap test one ∙ t)
any-at test (x ∷ rs) (suc i) r e t = or-right (test x) (list_any test rs) (any-at test rs i r e t)

-- the mapper and the hosts that the routes name are the hosts of the map
module _ (n : Network) (mapper : ℕ) (m : NetMap) (rs : List Route) (right : IsMapOfPart n mapper m) (are : AreRoutesOf m (order_of m) rs) where
  among-has : (h : ℕ) → is_among mapper rs h ≡ true → has m h ≡ true
  among-has h e = by (or_cases (nat_eq h mapper) (list_any (touches h) rs) e)
    where
      by : (nat_eq h mapper ≡ true) ⊎ (list_any (touches h) rs ≡ true) → has m h ≡ true
      by (inl p) = subst (λ x. has m x ≡ true) (sym (equal h mapper p)) (vertex-any m.vertices (right.origin (Host mapper)) mapper (mapper-vertex n mapper m right))
      by (inr p) = touched-has m (order_of m) h rs are.least p

  has-among : (h : ℕ) → has m h ≡ true → is_among mapper rs h ≡ true
  has-among h e = by (nat_eq h mapper) refl
    where
      other : nat_eq h mapper ≡ false → list_any (touches h) rs ≡ true
      other p =
          let v = has-vertex m h e in
          let apart : h ≢ mapper = λ same. true≢false (sym (ap (λ x. nat_eq x mapper) same ∙ itself mapper) ∙ p) in
          let r = are.whole v.0 (right.origin (Host mapper)) h mapper v.1 (mapper-vertex n mapper m right) apart in
          any-at (touches h) rs r.place r.route r.there (or-left (nat_eq r.route.from h) (nat_eq r.route.to h) (ap (λ x. nat_eq x h) r.from ∙ itself h))

      by : (b : Bool) → nat_eq h mapper ≡ b → is_among mapper rs h ≡ true
      by true p = or-left (nat_eq h mapper) (list_any (touches h) rs) p
      by false p = or-right (nat_eq h mapper) (list_any (touches h) rs) (other p)

  among-whole : (a b : ℕ) → is_among mapper rs a ≡ true → is_among mapper rs b ≡ true → a ≢ b → HasRoute rs a b
  among-whole a b p q apart =
      let v = has-vertex m a (among-has a p) in
      let w = has-vertex m b (among-has b q) in
      are.whole v.0 w.0 a b v.1 w.1 apart

-- the routes of a session may be adopted
pub kept-adoptable : (n : Network) (l : LastRoutes) → IsFabric n → AreKeptRoutes n l → IsAdoptable n l.mapper l.routes
kept-adoptable n l fabric k =
    let may = right_routes_are_adoptable n l.mapper k.made l.routes fabric k.kept.rules k.kept.right k.are in
    record {
      lead = may.lead;
      whole = among-whole n l.mapper k.made l.routes k.kept.right k.are;
      apart = k.are.between_hosts;
      number = may.number;
      rises = λ c d b. may.rises c d b;
    }

in-range : (s k h : ℕ) → s ≤ h → h < s + k → list_any (nat_eq h) (range_with_len s k) ≡ true
in-range s zero h low high = absurd (let no : ⊥ = omega (arith, low, high) in no)
in-range s (suc k) h low high = by (nat_eq h s) refl (λ other. in-range (s + 1) k h other (omega (arith, high)))
  where
    by : (b : Bool) → nat_eq h s ≡ b → (s + 1 ≤ h → list_any (nat_eq h) (range_with_len (s + 1) k) ≡ true) → (nat_eq h s || list_any (nat_eq h) (range_with_len (s + 1) k)) ≡ true
    by true p rest = or-left (nat_eq h s) (list_any (nat_eq h) (range_with_len (s + 1) k)) p
    by false p rest = let other : s + 1 ≤ h = grind (arith, nat_tests) in or-right (nat_eq h s) (list_any (nat_eq h) (range_with_len (s + 1) k)) (rest other)

range-above : (p : ℕ → Bool) (low s k : ℕ) → low < s → AllByRecursion (λ g. low < g) (filter p (range_with_len s k))
range-above p low s zero lt = tt
range-above p low s (suc k) lt = by (p s) (range-above p low (s + 1) k (omega (arith, lt)))
  where
    by : (b : Bool) → AllByRecursion (λ g. low < g) (filter p (range_with_len (s + 1) k)) → AllByRecursion (λ g. low < g) (if b then s ∷ filter p (range_with_len (s + 1) k) else filter p (range_with_len (s + 1) k))
    by true rest = (lt, rest)
    by false rest = rest

range-rises : (p : ℕ → Bool) (s k : ℕ) → AreHosts (filter p (range_with_len s k))
range-rises p s zero = tt
range-rises p s (suc k) = by (p s) (range-rises p (s + 1) k)
  where
    by : (b : Bool) → AreHosts (filter p (range_with_len (s + 1) k)) → AreHosts (if b then s ∷ filter p (range_with_len (s + 1) k) else filter p (range_with_len (s + 1) k))
    by true rest = (range-above p s (s + 1) k (omega arith), rest)
    by false rest = rest

range-below : (p : ℕ → Bool) (s k : ℕ) → AllByRecursion (λ h. h < s + k) (filter p (range_with_len s k))
range-below p s zero = tt
range-below p s (suc k) = by (p s) (subst (λ (t : ℕ). AllByRecursion (λ h. h < t) (filter p (range_with_len (s + 1) k))) (let e : s + 1 + k ≡ s + suc k = omega arith in e) (range-below p (s + 1) k))
  where
    by : (b : Bool) → AllByRecursion (λ h. h < s + suc k) (filter p (range_with_len (s + 1) k)) → AllByRecursion (λ h. h < s + suc k) (if b then s ∷ filter p (range_with_len (s + 1) k) else filter p (range_with_len (s + 1) k))
    by true rest = (omega arith, rest)
    by false rest = rest

pub kept-rise : (n : Network) (l : LastRoutes) → AreKeptRoutes n l → AreHosts l.hosts
kept-rise n l k = subst AreHosts (sym k.hosts) (range-rises (has k.made) 0 (length n.hosts))

pub kept-below : (n : Network) (l : LastRoutes) → AreKeptRoutes n l → AllByRecursion (λ h. h < length n.hosts) l.hosts
kept-below n l k = subst (AllByRecursion (λ h. h < length n.hosts)) (sym k.hosts) (subst (λ (t : ℕ). AllByRecursion (λ h. h < t) (map_hosts_below (length n.hosts) k.made)) (let e : 0 + length n.hosts ≡ length n.hosts = omega arith in e) (range-below (has k.made) 0 (length n.hosts)))

-- the hosts of the map are hosts of the fabric
has-below : (f : Network) (h : ℕ) (vs : List MapVertex) → AllByRecursion (IsOfFabric f) vs → list_any (nat_eq h) (hosts_of vs) ≡ true → h < length f.hosts
has-below f h [] all e = absurd (true≢false (sym e))
has-below f h (MapHost g ∷ vs) all e = by (or_cases (nat_eq h g) (list_any (nat_eq h) (hosts_of vs)) e) (has-below f h vs all.1)
  where
    by : (nat_eq h g ≡ true) ⊎ (list_any (nat_eq h) (hosts_of vs) ≡ true) → (list_any (nat_eq h) (hosts_of vs) ≡ true → h < length f.hosts) → h < length f.hosts
    by (inl p) rest = subst (λ x. x < length f.hosts) (sym (equal h g p)) all.0
    by (inr p) rest = rest p
has-below f h (MapSwitch s ∷ vs) all e = has-below f h vs all.1 e

-- the mapper is a host of the fabric
pub kept-mapper : (n : Network) (l : LastRoutes) → AreKeptRoutes n l → l.mapper < length n.hosts
kept-mapper n l k =
    has-below n l.mapper k.made.vertices k.kept.hosts (vertex-any k.made.vertices (k.kept.right.origin (Host l.mapper)) l.mapper (mapper-vertex n l.mapper k.made k.kept.right))

-- its hosts are the mapper and those that the routes name
pub kept-named : (n : Network) (l : LastRoutes) → AreKeptRoutes n l → (h : ℕ) → list_any (nat_eq h) l.hosts ≡ is_among l.mapper l.routes h
kept-named n l k h =
    let m = k.made in
    let all = range_with_len 0 (length n.hosts) in
    let listed : list_any (nat_eq h) l.hosts ≡ (has m h && list_any (nat_eq h) all) =
    ap (list_any (nat_eq h)) k.hosts ∙ any-filter_same (nat_eq h) (has m) (has m h) (λ g e. ap (has m) (sym (equal h g e))) all in
    listed ∙ by (has m h) (is_among l.mapper l.routes h) refl refl
  where
    below : has k.made h ≡ true → h < length n.hosts
    below e = has-below n h k.made.vertices k.kept.hosts e

    by : (a b : Bool) → has k.made h ≡ a → is_among l.mapper l.routes h ≡ b → (a && list_any (nat_eq h) (range_with_len 0 (length n.hosts))) ≡ b
    by true true p q = in-range 0 (length n.hosts) h (omega arith) (let low = below p in omega (arith, low))
    by true false p q = absurd (true≢false (sym (has-among n l.mapper k.made l.routes k.kept.right k.are h p) ∙ q))
    by false true p q = absurd (true≢false (sym (among-has n l.mapper k.made l.routes k.kept.right k.are h q) ∙ p))
    by false false p q = refl
