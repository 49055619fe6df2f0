-- A connected map has a whole set of routes: the least legal one between each two of its hosts, in their order.
use Rattle.std.proofs.Common.{◌≡◌, ◌≢◌, ◌<◌, ℕ, Bool, true, false, not, nat_eq, List, [], ◌∷◌, ◌++◌, map, length, ◌⊎◌, inl, inr, Option, Some, None, is_some, refl, sym, ◌∙◌, ap, subst, arith}
use Rattle.std.specs.Prelude.{ℤ, slice_get}
use Rattle.std.specs.List.{AllByRecursion}
use Rattle.std.proofs.lemmas.Bool.{false≢true, cases_order}
use Rattle.std.proofs.lemmas.Bool.Decides.{Decides-eqb, nat_tests}
use Rattle.std.proofs.lemmas.Option.{slice_get_within}
use Rattle.net_defs.specs.declared.route.Route.{Route}
use Rattle.net_defs.specs.RouteSet.{route_below, AreRising, HasRoute}
use Rattle.journal_defs.specs.Counting.{numbers_below}
use Rattle.journal_defs.proofs.Members.{IsMember, member-left, member-right, member-map, member-place, number-member, all-member, all-from-members}
use Rattle.map_defs.specs.declared.vertex.MapVertex.{MapVertex}
use Rattle.map_defs.specs.NetMap.{NetMap, IsMap, IsConnected, host_at, host_of_vertex}
use Rattle.map_defs.specs.Orientation.{order_of, is_up}
use Rattle.map_defs.specs.Routing.{is_host_named, vertex_of_host, AreRoutesOf, IsLeastLegal}
use Rattle.fabric_map.proofs.Listings.{host-any, position-any}
use Rattle.route_calc.specs.Adding.{IsRightRoute}
use Rattle.mapping_laws.specs.Routes.{RoutesExist}
use Rattle.route_calc.specs.Ways.{best_turns}
use Rattle.route_calc.proofs.Best.{arrival}
use Rattle.route_calc.proofs.Few.{fewest}
use Rattle.route_calc.proofs.Least.{host_start, least-legal}
use Rattle.route_calc.proofs.Starting.{start-there}

-- routes in their order: below, above, or between the same two hosts
route-split : (s t : Route) → (route_below s t ≡ true) ⊎ ((route_below t s ≡ true) ⊎ ((s.from ≡ t.from) × (s.to ≡ t.to)))
route-split s t = by (cases_order s.from t.from) (cases_order s.to t.to)
  where
    by : (s.from ≡ t.from) ⊎ ((s.from < t.from) ⊎ (t.from < s.from)) → (s.to ≡ t.to) ⊎ ((s.to < t.to) ⊎ (t.to < s.to)) → (route_below s t ≡ true) ⊎ ((route_below t s ≡ true) ⊎ ((s.from ≡ t.from) × (s.to ≡ t.to)))
    by (inr (inl l)) q = inl (grind (arith, nat_tests))
    by (inr (inr l)) q = inr (inl (grind (arith, nat_tests)))
    by (inl e) (inl f) = inr (inr (e, f))
    by (inl e) (inr (inl l)) = inl (grind (arith, nat_tests))
    by (inl e) (inr (inr l)) = inr (inl (grind (arith, nat_tests)))

route-through : (r s t : Route) → route_below r s ≡ true → route_below s t ≡ true → route_below r t ≡ true
route-through r s t a b = grind (arith, nat_tests)

behind-all : (r s : Route) (ts : List Route) → route_below r s ≡ true → AllByRecursion (λ t. route_below s t ≡ true) ts → AllByRecursion (λ t. route_below r t ≡ true) ts
behind-all r s [] e all = tt
behind-all r s (t ∷ ts) e all = (route-through r s t e all.0, behind-all r s ts e all.1)

-- a route of a list goes from one host to another
record Goes (rs : List Route) (a b : ℕ) : Type 0 where
  pub route : Route
  pub member : IsMember route rs
  pub from : route.from ≡ a
  pub to : route.to ≡ b

goes-has : (rs : List Route) (a b : ℕ) → Goes rs a b → HasRoute rs a b
goes-has rs a b g = let place = member-place g.route rs g.member in record { place = place.0; route = g.route; there = place.1; from = g.from; to = g.to }

module _ (m : NetMap) (r : IsMap m) (c : IsConnected m) where
  -- the vertex of an address
  vertex-there : (v a : ℕ) → host_of_vertex m v ≡ Some a → (u : ℕ) × (vertex_of_host m a ≡ Some u)
  vertex-there v a e = by (vertex_of_host m a) refl
    where
      by : (o : Option ℕ) → vertex_of_host m a ≡ o → (u : ℕ) × (vertex_of_host m a ≡ Some u)
      by (Some u) p = (u, p)
      by None p = absurd (false≢true (ap is_some (sym p) ∙ position-any (is_host_named a) m.vertices ∙ host-any a m.vertices v e))

  vertex-below : (v a : ℕ) → host_of_vertex m v ≡ Some a → v < length m.vertices
  vertex-below v a e = by (slice_get m.vertices v) refl
    where
      by : (o : Option MapVertex) → slice_get m.vertices v ≡ o → v < length m.vertices
      by (Some x) p = slice_get_within m.vertices v x p
      by None p = let z : host_at None ≡ Some a = sym (ap host_at p) ∙ e in cc

  -- the least legal route between two hosts
  record Between (a b : ℕ) : Type 0 where
    pub route : Route
    pub from : route.from ≡ a
    pub to : route.to ≡ b
    pub right : IsRightRoute m (order_of m) route

  route-there : (a b va vb : ℕ) → vertex_of_host m a ≡ Some va → vertex_of_host m b ≡ Some vb → a ≢ b → Between a b
  route-there a b va vb is_a is_b differ =
      let s = start-there m va vb a b r c is_a is_b differ in
      let f = fewest m (order_of m) vb s.leads.channels s.entered.v (not (is_up m (order_of m) (host_start va))) s.leads.near in
      let walk : List ℤ = best_turns m (order_of m) vb f.channels (arrival m (order_of m) (host_start va) s.entered) in
      record {
        route = record { from = a; to = b; walk = walk };
        from = refl;
        to = refl;
        right = record { differ = differ; least = least-legal m (order_of m) f.channels va vb a b s.entered r is_a is_b s.far f.is };
      }

  -- right routes in their order
  record AreRight (rs : List Route) : Type 0 where
    pub rising : AreRising rs
    pub each : (s : Route) → IsMember s rs → IsRightRoute m (order_of m) s

  record Added (x : Route) (rs : List Route) : Type 0 where
    pub list : List Route
    pub right : AreRight list
    pub here : Goes list x.from x.to
    pub kept : (a b : ℕ) → Goes rs a b → Goes list a b
    pub only : (s : Route) → IsMember s list → (s ≡ x) ⊎ IsMember s rs

  add : (x : Route) (rs : List Route) → IsRightRoute m (order_of m) x → AreRight rs → Added x rs
  add x [] e s = record {
    list = x ∷ [];
    right = record { rising = (tt, tt); each = λ y i. alone y i };
    here = record { route = x; member = inl refl; from = refl; to = refl };
    kept = λ a b g. absurd g.member;
    only = λ y i. i;
  }
    where
      alone : (y : Route) → (y ≡ x) ⊎ ⊥ → IsRightRoute m (order_of m) y
      alone y (inl p) = subst (IsRightRoute m (order_of m)) (sym p) e
      alone y (inr i) = absurd i
  add x (y ∷ rs) e s = by (route-split x y) (add x rs e (record { rising = s.rising.1; each = λ z i. s.each z (inr i) }))
    where
      by : (route_below x y ≡ true) ⊎ ((route_below y x ≡ true) ⊎ ((x.from ≡ y.from) × (x.to ≡ y.to))) → Added x rs → Added x (y ∷ rs)
      by (inl l) t = record {
        list = x ∷ y ∷ rs;
        right = record { rising = ((l, behind-all x y rs l s.rising.0), s.rising); each = λ z i. of z i };
        here = record { route = x; member = inl refl; from = refl; to = refl };
        kept = λ a b g. record { route = g.route; member = inr g.member; from = g.from; to = g.to };
        only = λ z i. i;
      }
        where
          of : (z : Route) → (z ≡ x) ⊎ IsMember z (y ∷ rs) → IsRightRoute m (order_of m) z
          of z (inl p) = subst (IsRightRoute m (order_of m)) (sym p) e
          of z (inr i) = s.each z i
      by (inr (inl l)) t = record {
        list = y ∷ t.list;
        right = record {
          rising = (all-from-members (λ z. route_below y z ≡ true) t.list (λ z i. later z (t.only z i)), t.right.rising);
          each = λ z i. of z i;
        };
        here = record { route = t.here.route; member = inr t.here.member; from = t.here.from; to = t.here.to };
        kept = λ a b g. keep a b g g.member;
        only = λ z i. either z i;
      }
        where
          later : (z : Route) → (z ≡ x) ⊎ IsMember z rs → route_below y z ≡ true
          later z (inl p) = subst (λ k. route_below y k ≡ true) (sym p) l
          later z (inr i) = all-member (λ k. route_below y k ≡ true) z rs s.rising.0 i

          of : (z : Route) → (z ≡ y) ⊎ IsMember z t.list → IsRightRoute m (order_of m) z
          of z (inl p) = s.each z (inl p)
          of z (inr i) = t.right.each z i

          keep : (a b : ℕ) (g : Goes (y ∷ rs) a b) → (g.route ≡ y) ⊎ IsMember g.route rs → Goes (y ∷ t.list) a b
          keep a b g (inl p) = record { route = g.route; member = inl p; from = g.from; to = g.to }
          keep a b g (inr i) =
              let k = t.kept a b (record { route = g.route; member = i; from = g.from; to = g.to }) in
              record { route = k.route; member = inr k.member; from = k.from; to = k.to }

          either : (z : Route) → (z ≡ y) ⊎ IsMember z t.list → (z ≡ x) ⊎ IsMember z (y ∷ rs)
          either z (inl p) = inr (inl p)
          either z (inr i) = turn (t.only z i)
            where
              turn : (z ≡ x) ⊎ IsMember z rs → (z ≡ x) ⊎ IsMember z (y ∷ rs)
              turn (inl p) = inl p
              turn (inr k) = inr (inr k)
      by (inr (inr p)) t = record {
        list = y ∷ rs;
        right = s;
        here = record { route = y; member = inl refl; from = sym p.0; to = sym p.1 };
        kept = λ a b g. g;
        only = λ z i. inr i;
      }

  -- the routes between the hosts of each two of these vertices
  record Joined (ps : List (ℕ × ℕ)) : Type 0 where
    pub list : List Route
    pub right : AreRight list
    pub whole : (v w a b : ℕ) → IsMember (v, w) ps → host_of_vertex m v ≡ Some a → host_of_vertex m w ≡ Some b → a ≢ b → Goes list a b

  -- a pair more of which no route is wanted
  joined-skip : (p : ℕ × ℕ) (ps : List (ℕ × ℕ)) → ((a b : ℕ) → host_of_vertex m p.0 ≡ Some a → host_of_vertex m p.1 ≡ Some b → a ≢ b → ⊥) → Joined ps → Joined (p ∷ ps)
  joined-skip p ps none t = record { list = t.list; right = t.right; whole = λ v w a b i e f d. of v w a b i e f d }
    where
      of : (v w a b : ℕ) → ((v, w) ≡ p) ⊎ IsMember (v, w) ps → host_of_vertex m v ≡ Some a → host_of_vertex m w ≡ Some b → a ≢ b → Goes t.list a b
      of v w a b (inr i) e f d = t.whole v w a b i e f d
      of v w a b (inl q) e f d =
          absurd (none a b (ap (λ (x : ℕ × ℕ). host_of_vertex m x.0) (sym q) ∙ e) (ap (λ (x : ℕ × ℕ). host_of_vertex m x.1) (sym q) ∙ f) d)

  -- a pair more, of two different hosts
  joined-more : (p : ℕ × ℕ) (ps : List (ℕ × ℕ)) (a b : ℕ) → host_of_vertex m p.0 ≡ Some a → host_of_vertex m p.1 ≡ Some b → Between a b → Joined ps → Joined (p ∷ ps)
  joined-more p ps a b is_a is_b x t = record { list = more.list; right = more.right; whole = λ v w g h i e f d. of v w g h i e f d }
    where
      more : Added x.route t.list
      more = add x.route t.list x.right t.right

      here : Goes more.list a b
      here = record { route = more.here.route; member = more.here.member; from = more.here.from ∙ x.from; to = more.here.to ∙ x.to }

      of : (v w g h : ℕ) → ((v, w) ≡ p) ⊎ IsMember (v, w) ps → host_of_vertex m v ≡ Some g → host_of_vertex m w ≡ Some h → g ≢ h → Goes more.list g h
      of v w g h (inr i) e f d = more.kept g h (t.whole v w g h i e f d)
      of v w g h (inl q) e f d =
          let first : a ≡ g = (let z : Some a ≡ Some g = sym is_a ∙ ap (λ (y : ℕ × ℕ). host_of_vertex m y.0) (sym q) ∙ e in cc) in
          let second : b ≡ h = (let z : Some b ≡ Some h = sym is_b ∙ ap (λ (y : ℕ × ℕ). host_of_vertex m y.1) (sym q) ∙ f in cc) in
          subst (λ k. Goes more.list g k) second (subst (λ k. Goes more.list k b) first here)

  join : (ps : List (ℕ × ℕ)) → Joined ps
  join [] = record { list = []; right = record { rising = tt; each = λ s i. absurd i }; whole = λ v w a b i e f d. absurd i }
  join (p ∷ ps) = by (host_of_vertex m p.0) (host_of_vertex m p.1) refl refl (join ps)
    where
      by : (o q : Option ℕ) → host_of_vertex m p.0 ≡ o → host_of_vertex m p.1 ≡ q → Joined ps → Joined (p ∷ ps)
      by None q e f t = joined-skip p ps (λ a b x y d. (let z : None ≡ Some a = sym e ∙ x in cc)) t
      by (Some a) None e f t = joined-skip p ps (λ g h x y d. (let z : None ≡ Some h = sym f ∙ y in cc)) t
      by (Some a) (Some b) e f t = on (nat_eq a b) refl
        where
          on : (s : Bool) → nat_eq a b ≡ s → Joined (p ∷ ps)
          on true s =
              joined-skip p ps (λ g h x y d. d (let u : Some a ≡ Some g = sym e ∙ x in let v : Some b ≡ Some h = sym f ∙ y in let k : a ≡ b = (Decides-eqb a b).0 s in cc)) t
          on false s =
              let va = vertex-there p.0 a e in
              let vb = vertex-there p.1 b f in
              joined-more p ps a b e f (route-there a b va.0 vb.0 va.1 vb.1 (λ k. false≢true (sym s ∙ (Decides-eqb a b).1 k))) t

  -- all pairs of vertices
  abbrev pairs : List ℕ → List ℕ → List (ℕ × ℕ)
  pairs [] vs = []
  pairs (u ∷ us) vs = map (λ v. (u, v)) vs ++ pairs us vs

  pair-member : (u v : ℕ) (us vs : List ℕ) → IsMember u us → IsMember v vs → IsMember (u, v) (pairs us vs)
  pair-member u v [] vs i k = absurd i
  pair-member u v (x ∷ us) vs (inl e) k = member-left (u, v) (map (λ y. (x, y)) vs) (pairs us vs) (subst (λ z. IsMember {X = ℕ × ℕ} (u, v) (map (λ y. (z, y)) vs)) e (member-map (λ y. (u, y)) v vs k))
  pair-member u v (x ∷ us) vs (inr i) k = member-right (u, v) (map (λ y. (x, y)) vs) (pairs us vs) (pair-member u v us vs i k)

  abbrev numbers : List ℕ
  numbers = numbers_below (length m.vertices)

  abbrev joins : Joined (pairs numbers numbers)
  joins = join (pairs numbers numbers)

  pub routes-there : (found : List Route) × AreRoutesOf m (order_of m) found
  routes-there = (
    joins.list,
    record {
      in_order = joins.right.rising;
      between_hosts = all-from-members (λ (s : Route). s.from ≢ s.to) joins.list (λ s i. (joins.right.each s i).differ);
      least = all-from-members (λ (s : Route). IsLeastLegal m (order_of m) s.from s.to s.walk) joins.list (λ s i. (joins.right.each s i).least);
      whole = λ v w a b e f d.
          goes-has joins.list a b (joins.whole v w a b (pair-member v w numbers numbers (number-member (length m.vertices) v (vertex-below v a e)) (number-member (length m.vertices) w (vertex-below w b f))) e f d);
    },
  )

pub routes_exist : RoutesExist
routes_exist m r c = routes-there m r c
