-- The twelve routes of the ring are all least legal routes of it.
use Rattle.std.proofs.Common.{◌≡◌, ◌≢◌, ◌<◌, ℕ, zero, suc, List, [], ◌∷◌, length, Bool, true, false, not, ◌&&◌, ◌||◌, Option, Some, None, sym, ◌∙◌, subst, ap, true≢false, refl, arith, rules, ◌⊎◌, inl, inr, nat_eq}
use Rattle.std.specs.Prelude.{slice_get}
use Rattle.std.specs.List.{AllByRecursion, list_all, list_any}
use Rattle.std.proofs.lemmas.Bool.{false≢true, and_parts, or_cases, eqb-true, eq-eqb}
use Rattle.journal_defs.specs.Counting.{numbers_below}
use Rattle.journal_defs.proofs.Members.{member-passes, number-member}
use Rattle.map_defs.specs.declared.vertex.MapVertex.{MapVertex}
use Rattle.net_defs.specs.declared.route.Route.{Route}
use Rattle.map_defs.specs.NetMap.{NetMap, MapPort, host_of_vertex, host_at}
use Rattle.map_defs.specs.Orientation.{order_of}
use Rattle.map_defs.specs.Routing.{IsLeastLegal, is_legal, led_to, port_of_host, AreRoutesOf}
use Rattle.net_defs.specs.RouteSet.{HasRoute}
use Rattle.map_defs.specs.Examples.{ring_map, ring_routes}
use Rattle.map_defs.proofs.Ports.{same_port-true}
use Rattle.map_defs.proofs.Leading.{routes_within}
use Rattle.map_defs.proofs.Certified.{is_at, is_better, least-by, ring_order, order_is}

-- a test that a route is least
abbrev is_least_from : NetMap → List ℕ → Option MapPort → Option MapPort → Route → Bool
is_least_from m order (Some d) (Some at) r = is_at (led_to m (Some d) r.walk) at && (is_legal m order r.from r.walk && list_all (λ w. not (is_better m order r.from d at r.walk w)) (routes_within m (length r.walk) d))
is_least_from m order _ _ r = false

abbrev is_least : NetMap → List ℕ → Route → Bool
is_least m order r = is_least_from m order (port_of_host m r.from) (port_of_host m r.to) r

led-at : (o : Option MapPort) (at : MapPort) → is_at o at ≡ true → o ≡ Some at
led-at None at e = absurd (false≢true e)
led-at (Some d) at e = ap Some (same_port-true d at e)

least-passes : (m : NetMap) (order : List ℕ) (r : Route) → is_least m order r ≡ true → IsLeastLegal m order r.from r.to r.walk
least-passes m order r e = by (port_of_host m r.from) (port_of_host m r.to) refl refl e
  where
    by : (o p : Option MapPort) → port_of_host m r.from ≡ o → port_of_host m r.to ≡ p → is_least_from m order o p r ≡ true → IsLeastLegal m order r.from r.to r.walk
    by None p f g h = absurd (false≢true h)
    by (Some d) None f g h = absurd (false≢true h)
    by (Some d) (Some at) f g h =
        let a = and_parts (is_at (led_to m (Some d) r.walk) at) (is_legal m order r.from r.walk && list_all (λ w. not (is_better m order r.from d at r.walk w)) (routes_within m (length r.walk) d)) h in
        let b = and_parts (is_legal m order r.from r.walk) (list_all (λ w. not (is_better m order r.from d at r.walk w)) (routes_within m (length r.walk) d)) a.1 in
        least-by m order r.from r.to r.walk d at f g (led-at (led_to m (Some d) r.walk) at a.0) b.0 b.1

all-by : {X : Type 0} (P : X → Type 0) (test : X → Bool) (xs : List X) → ((x : X) → test x ≡ true → P x) → list_all test xs ≡ true → AllByRecursion P xs
all-by P test [] f e = tt
all-by P test (x ∷ xs) f e = let two = and_parts (test x) (list_all test xs) e in (f x two.0, all-by P test xs f two.1)

-- a test that each two different hosts have a route
abbrev goes : ℕ → ℕ → Route → Bool
goes a b r = nat_eq r.from a && nat_eq r.to b

goes-has : (a b : ℕ) (rs : List Route) → list_any (goes a b) rs ≡ true → HasRoute rs a b
goes-has a b [] e = absurd (false≢true e)
goes-has a b (r ∷ rs) e = by (or_cases (goes a b r) (list_any (goes a b) rs) e) (goes-has a b rs)
  where
    by : (goes a b r ≡ true) ⊎ (list_any (goes a b) rs ≡ true) → (list_any (goes a b) rs ≡ true → HasRoute rs a b) → HasRoute (r ∷ rs) a b
    by (inl p) rest = let two = and_parts (nat_eq r.from a) (nat_eq r.to b) p in record { place = 0; route = r; there = refl; from = eqb-true r.from a two.0; to = eqb-true r.to b two.1 }
    by (inr p) rest = let h = rest p in record { place = suc h.place; route = h.route; there = h.there; from = h.from; to = h.to }

abbrev has_from : List Route → Option ℕ → Option ℕ → Bool
has_from rs (Some a) (Some b) = nat_eq a b || list_any (goes a b) rs
has_from rs _ _ = true

abbrev has_all : NetMap → List Route → Bool
has_all m rs = list_all (λ v. list_all (λ w. has_from rs (host_of_vertex m v) (host_of_vertex m w)) (numbers_below (length m.vertices))) (numbers_below (length m.vertices))

vertex-there : (vs : List MapVertex) (v a : ℕ) → host_at (slice_get vs v) ≡ Some a → v < length vs
vertex-there [] v a e = cc
vertex-there (x ∷ vs) zero a e = omega arith
vertex-there (x ∷ vs) (suc v) a e = let l = vertex-there vs v a e in omega arith

whole-by : (m : NetMap) (rs : List Route) → has_all m rs ≡ true → (v w a b : ℕ) → host_of_vertex m v ≡ Some a → host_of_vertex m w ≡ Some b → a ≢ b → HasRoute rs a b
whole-by m rs all v w a b p q d =
    let row = member-passes (λ v. list_all (λ w. has_from rs (host_of_vertex m v) (host_of_vertex m w)) (numbers_below (length m.vertices))) v (numbers_below (length m.vertices)) all (number-member (length m.vertices) v (vertex-there m.vertices v a p)) in
    let cell = member-passes (λ w. has_from rs (host_of_vertex m v) (host_of_vertex m w)) w (numbers_below (length m.vertices)) row (number-member (length m.vertices) w (vertex-there m.vertices w b q)) in
    let both : (nat_eq a b || list_any (goes a b) rs) ≡ true = rw (p, q) at cell in
    by (or_cases (nat_eq a b) (list_any (goes a b) rs) both)
  where
    by : (nat_eq a b ≡ true) ⊎ (list_any (goes a b) rs ≡ true) → HasRoute rs a b
    by (inl e) = absurd (d (eqb-true a b e))
    by (inr e) = goes-has a b rs e

pub ring_routes_are : AreRoutesOf ring_map (order_of ring_map) ring_routes
ring_routes_are = subst (λ o. AreRoutesOf ring_map o ring_routes) (sym order_is) (record {
  in_order = search rules;
  between_hosts = all-by (λ r. r.from ≢ r.to) (λ r. not (nat_eq r.from r.to)) ring_routes (λ r e f. true≢false (sym e ∙ ap not (eq-eqb r.from r.to f))) refl;
  least = all-by (λ r. IsLeastLegal ring_map ring_order r.from r.to r.walk) (is_least ring_map ring_order) ring_routes (least-passes ring_map ring_order) refl;
  whole = whole-by ring_map ring_routes refl;
})
