-- Each two hosts of a map have a route exactly where each vertex reaches all others.
use Rattle.std.proofs.Common.{◌≡◌, ◌≢◌, ℕ, zero, suc, Bool, true, false, ◌||◌, List, [], ◌∷◌, nat_eq, if◌then◌else◌, Option, Some, None, refl, sym, ap, ◌∙◌, true≢false}
use Rattle.std.specs.Prelude.{◌↔◌, is_some, slice_get}
use Rattle.std.specs.List.{list_all}
use Rattle.gm_defs.proofs.Choices.{both}
use Rattle.net_defs.specs.declared.route.Route.{Route}
use Rattle.net_defs.specs.RouteSet.{HasRoute}
use Rattle.port_graph.specs.Routes.{goes, walk_of}
use Rattle.map_defs.specs.declared.vertex.MapVertex.{MapVertex}
use Rattle.map_defs.specs.declared.vertex.MapVertex.TheVariants.{Host, Switch}
use Rattle.map_defs.specs.NetMap.{NetMap, host_at}
use Rattle.port_ledgers.proofs.Counting.{equal, same, two}
use Rattle.answer_defs.specs.Right.{AreWhole}
use Rattle.fab_judge.specs.Checks.{reaches, reaches_all}

-- ---- lists

all-at : {X : Type 0} (p : X → Bool) (xs : List X) (k : ℕ) (x : X) → list_all p xs ≡ true → slice_get xs k ≡ Some x → p x ≡ true
all-at p [] k x all e = cc
all-at p (y ∷ ys) zero x all e = let one : y ≡ x = cc in ap p (sym one) ∙ (both (p y) (list_all p ys) all).0
all-at p (y ∷ ys) (suc k) x all e = all-at p ys k x (both (p y) (list_all p ys) all).1 e

at-all : {X : Type 0} (p : X → Bool) (xs : List X) → ((k : ℕ) (x : X) → slice_get xs k ≡ Some x → p x ≡ true) → list_all p xs ≡ true
at-all p [] at = refl
at-all p (y ∷ ys) at = two (p y) (list_all p ys) (at 0 y refl) (at-all p ys (λ k x e. at (suc k) x e))

-- ---- routes

goes-there : (a b : ℕ) (r : Route) → goes a b r ≡ true → (r.from ≡ a) × (r.to ≡ b)
goes-there a b r e = let h = both (nat_eq r.from a) (nat_eq r.to b) e in (equal r.from a h.0, equal r.to b h.1)

one-later : (a b : ℕ) (r : Route) (rs : List Route) → HasRoute rs a b → HasRoute (r ∷ rs) a b
one-later a b r rs h = record { place = suc h.place; route = h.route; there = h.there; from = h.from; to = h.to }

found-route : (rs : List Route) (a b : ℕ) → is_some (walk_of rs a b) ≡ true → HasRoute rs a b
found-route [] a b e = absurd (true≢false (sym e))
found-route (r ∷ rs) a b e = by (goes a b r) refl e (found-route rs a b)
  where
    by : (c : Bool) → goes a b r ≡ c → is_some (if c then Some r.walk else walk_of rs a b) ≡ true → (is_some (walk_of rs a b) ≡ true → HasRoute rs a b) → HasRoute (r ∷ rs) a b
    by true g f rest = let h = goes-there a b r g in record { place = 0; route = r; there = refl; from = h.0; to = h.1 }
    by false g f rest = one-later a b r rs (rest f)

goes-so : (a b : ℕ) (r : Route) → r.from ≡ a → r.to ≡ b → goes a b r ≡ true
goes-so a b r f t = two (nat_eq r.from a) (nat_eq r.to b) (same r.from a f) (same r.to b t)

route-found-at : (rs : List Route) (a b k : ℕ) (s : Route) → slice_get rs k ≡ Some s → goes a b s ≡ true → is_some (walk_of rs a b) ≡ true
route-found-at [] a b k s e g = cc
route-found-at (r ∷ rs) a b zero s e g = let one : r ≡ s = cc in ap (λ c. is_some (if c then Some r.walk else walk_of rs a b)) (ap (goes a b) one ∙ g)
route-found-at (r ∷ rs) a b (suc k) s e g = by (goes a b r) (route-found-at rs a b k s e g)
  where
    by : (c : Bool) → is_some (walk_of rs a b) ≡ true → is_some (if c then Some r.walk else walk_of rs a b) ≡ true
    by true f = refl
    by false f = f

route-found : (rs : List Route) (a b : ℕ) → HasRoute rs a b → is_some (walk_of rs a b) ≡ true
route-found rs a b h = route-found-at rs a b h.place h.route h.there (goes-so a b h.route h.from h.to)

-- ---- hosts

host-there : (o : Option MapVertex) (h : ℕ) → host_at o ≡ Some h → o ≡ Some (Host h)
host-there None h e = cc
host-there (Some (Host g)) h e = let one : g ≡ h = cc in ap (λ x. Some (Host x)) one
host-there (Some (Switch s)) h e = cc

either : (a b : ℕ) (c : Bool) → (nat_eq a b || c) ≡ true → a ≢ b → c ≡ true
either a b c e ne = by (nat_eq a b) refl e
  where
    by : (d : Bool) → nat_eq a b ≡ d → (d || c) ≡ true → c ≡ true
    by true f g = absurd (ne (equal a b f))
    by false f g = g

either-so : (a b : ℕ) (c : Bool) → (a ≢ b → c ≡ true) → (nat_eq a b || c) ≡ true
either-so a b c more = by (nat_eq a b) refl
  where
    by : (d : Bool) → nat_eq a b ≡ d → (d || c) ≡ true
    by true f = refl
    by false f = more (λ e. true≢false (sym (same a b e) ∙ f))

-- from a host each vertex is reached
reached : (m : NetMap) (rs : List Route) → AreWhole m rs → (v a : ℕ) → slice_get m.vertices v ≡ Some (Host a) → (w : ℕ) (y : MapVertex) → slice_get m.vertices w ≡ Some y → reaches rs a y ≡ true
reached m rs all v a at_v w (Switch s) at_w = refl
reached m rs all v a at_v w (Host b) at_w = either-so a b (is_some (walk_of rs a b)) (λ ne. route-found rs a b (all v w a b (ap host_at at_v) (ap host_at at_w) ne))

-- from each vertex all are
all-reached : (m : NetMap) (rs : List Route) → AreWhole m rs → (v : ℕ) (x : MapVertex) → slice_get m.vertices v ≡ Some x → reaches_all rs m.vertices x ≡ true
all-reached m rs all v (Switch s) at_v = refl
all-reached m rs all v (Host a) at_v = at-all (reaches rs a) m.vertices (λ w y at_w. reached m rs all v a at_v w y at_w)

pub whole : (m : NetMap) (rs : List Route) → (list_all (reaches_all rs m.vertices) m.vertices ≡ true) ↔ AreWhole m rs
whole m rs = (forth, back)
  where
    forth : list_all (reaches_all rs m.vertices) m.vertices ≡ true → AreWhole m rs
    forth all v w a b at_v at_w ne =
        let from : reaches_all rs m.vertices (Host a) ≡ true = all-at (reaches_all rs m.vertices) m.vertices v (Host a) all (host-there (slice_get m.vertices v) a at_v) in
        let to : reaches rs a (Host b) ≡ true = all-at (reaches rs a) m.vertices w (Host b) from (host-there (slice_get m.vertices w) b at_w) in
        found-route rs a b (either a b (is_some (walk_of rs a b)) to ne)

    back : AreWhole m rs → list_all (reaches_all rs m.vertices) m.vertices ≡ true
    back all = at-all (reaches_all rs m.vertices) m.vertices (λ v x at_v. all-reached m rs all v x at_v)
