-- Routes that are added one by one.
use Rattle.std.proofs.Common.{◌≡◌, ◌≢◌, ◌<◌, ◌+◌, ◌-◌, ℕ, zero, suc, List, [], ◌∷◌, ◌++◌, length, true, Option, Some, None, refl, ap, sym, ◌∙◌, subst, arith, ◌⊎◌, inl, inr, nat_lt, append_assoc}
use Rattle.std.specs.Prelude.{slice_get}
use Rattle.std.specs.List.{AllByRecursion}
use Rattle.std.proofs.lemmas.Bool.{cases_order, lt-ltb, eq-eqb}
use Rattle.std.proofs.lemmas.List.{append-nil}
use Rattle.net_defs.specs.declared.route.Route.{Route}
use Rattle.net_defs.proofs.Distinct.{all-push}
use Rattle.journal_defs.proofs.Order.{or-left, or-right}
use Rattle.journal_defs.proofs.Members.{IsMember, all-member, all-from-members, all-join}
use Rattle.map_defs.specs.NetMap.{NetMap}
use Rattle.net_defs.specs.RouteSet.{HasRoute, route_below}
use Rattle.port_graph.specs.Routes.{is_above, push_refusal}
use Rattle.map_defs.specs.Routing.{IsLeastLegal}
use Rattle.route_calc.specs.Adding.{IsRightRoute, AddsRoutes, IsLastLeast}
use Rattle.route_calc.specs.Hosts.{HostWays, AreRisingHosts}

-- what stands at a place stands there after more was added
pub get-before : {X : Type 0} (rs : List X) (r s : X) (k : ℕ) → slice_get rs k ≡ Some s → slice_get (rs ++ r ∷ []) k ≡ Some s
get-before [] r s zero e = cc
get-before [] r s (suc k) e = cc
get-before (x ∷ rs) r s zero e = e
get-before (x ∷ rs) r s (suc k) e = get-before rs r s k e

pub get-last : {X : Type 0} (rs : List X) (r : X) → slice_get (rs ++ r ∷ []) (length rs) ≡ Some r
get-last [] r = refl
get-last (x ∷ rs) r = get-last rs r

get-left : (rs ss : List Route) (r : Route) (k : ℕ) → slice_get rs k ≡ Some r → slice_get (rs ++ ss) k ≡ Some r
get-left [] ss r zero e = cc
get-left [] ss r (suc k) e = cc
get-left (x ∷ rs) ss r zero e = e
get-left (x ∷ rs) ss r (suc k) e = get-left rs ss r k e

get-right : (rs ss : List Route) (r : Route) (k : ℕ) → slice_get ss k ≡ Some r → slice_get (rs ++ ss) (length rs + k) ≡ Some r
get-right [] ss r k e = ap (slice_get ss) (let z : 0 + k ≡ k = omega arith in z) ∙ e
get-right (x ∷ rs) ss r k e = ap (slice_get (x ∷ (rs ++ ss))) (let z : suc (length rs) + k ≡ suc (length rs + k) = omega arith in z) ∙ get-right rs ss r k e

pub has-left : (rs ss : List Route) (a b : ℕ) → HasRoute rs a b → HasRoute (rs ++ ss) a b
has-left rs ss a b h = record { place = h.place; route = h.route; there = get-left rs ss h.route h.place h.there; from = h.from; to = h.to }

pub has-right : (rs ss : List Route) (a b : ℕ) → HasRoute ss a b → HasRoute (rs ++ ss) a b
has-right rs ss a b h = record { place = length rs + h.place; route = h.route; there = get-right rs ss h.route h.place h.there; from = h.from; to = h.to }

has-last : (rs : List Route) (r : Route) → HasRoute (rs ++ r ∷ []) r.from r.to
has-last rs r = record { place = length rs; route = r; there = get-last rs r; from = refl; to = refl }

one-at : (ways : List HostWays) (j k : ℕ) (at w : HostWays) → slice_get ways k ≡ Some at → slice_get ways j ≡ Some w → j ≡ k → at ≡ w
one-at ways j k at w e f same = let two : ◌≡◌ {A = Option HostWays} (Some at) (Some w) = sym e ∙ ap (slice_get ways) (sym same) ∙ f in cc

pub get-member : {X : Type 0} (xs : List X) (k : ℕ) (x : X) → slice_get xs k ≡ Some x → IsMember x xs
get-member [] k x e = cc
get-member (y ∷ ys) zero x e = inl (let same : y ≡ x = cc in sym same)
get-member (y ∷ ys) (suc k) x e = inr (get-member ys k x e)

-- a later host has a greater address
pub rises : (ways : List HostWays) (j k : ℕ) (w x : HostWays) → AreRisingHosts ways → slice_get ways j ≡ Some w → slice_get ways k ≡ Some x → j < k → w.host < x.host
rises [] j k w x r e f l = cc
rises (y ∷ ys) zero zero w x r e f l = absurd (omega arith)
rises (y ∷ ys) zero (suc k) w x r e f l = let same : y ≡ w = cc in subst (λ (z : HostWays). z.host < x.host) same (all-member (λ (z : HostWays). y.host < z.host) x ys r.0 (get-member ys k x f))
rises (y ∷ ys) (suc j) zero w x r e f l = absurd (omega arith)
rises (y ∷ ys) (suc j) (suc k) w x r e f l = rises ys j k w x r.1 e f (omega arith)

pub adds-none : (m : NetMap) (order : List ℕ) (from : ℕ) (ways : List HostWays) (old : List Route) → AddsRoutes m order from ways 0 old old
adds-none m order from ways old = record { added = []; is = sym (append-nil old); right = tt; from_there = tt; before = λ k w l e. tt; whole = λ k w l e d. absurd (omega arith) }

-- to the host itself there is no route
pub adds-itself : (m : NetMap) (order : List ℕ) (from : ℕ) (ways : List HostWays) (count : ℕ) (old new : List Route) (at : HostWays) → AddsRoutes m order from ways count old new → slice_get ways count ≡ Some at → from ≡ at.host → AddsRoutes m order from ways (count + 1) old new
adds-itself m order from ways count old new at a there same = record { added = a.added; is = a.is; right = a.right; from_there = a.from_there; before = λ k w l e. a.before k w (omega arith) e; whole = λ k w l e d. by k w e d (cases_order k count) l }
  where
    by : (k : ℕ) (w : HostWays) → slice_get ways k ≡ Some w → from ≢ w.host → (k ≡ count) ⊎ ((k < count) ⊎ (count < k)) → k < count + 1 → HasRoute a.added from w.host
    by k w e d (inl p) l = absurd (d (same ∙ ap (λ (z : HostWays). z.host) (one-at ways k count at w there e p)))
    by k w e d (inr (inl p)) l = a.whole k w p e d
    by k w e d (inr (inr p)) l = absurd (omega arith)

-- to each other one
pub adds-one : (m : NetMap) (order : List ℕ) (from : ℕ) (ways : List HostWays) (count : ℕ) (old new : List Route) (at : HostWays) (r : Route) → AddsRoutes m order from ways count old new → AreRisingHosts ways → slice_get ways count ≡ Some at → r.from ≡ from → r.to ≡ at.host → IsRightRoute m order r → AddsRoutes m order from ways (count + 1) old (new ++ r ∷ [])
adds-one m order from ways count old new at r a rising there is_from is_to right = record {
  added = a.added ++ r ∷ [];
  is = ap (λ l. l ++ r ∷ []) a.is ∙ append_assoc old a.added (r ∷ []);
  right = all-push (IsRightRoute m order) a.added r a.right right;
  from_there = all-push (λ s. s.from ≡ from) a.added r a.from_there is_from;
  before = λ k w l e. all-push (λ s. s.to < w.host) a.added r (a.before k w (omega arith) e) (subst (λ h. h < w.host) (sym is_to) (rises ways count k at w rising there e (omega arith)));
  whole = λ k w l e d. by k w e d (cases_order k count) l;
}
  where
    by : (k : ℕ) (w : HostWays) → slice_get ways k ≡ Some w → from ≢ w.host → (k ≡ count) ⊎ ((k < count) ⊎ (count < k)) → k < count + 1 → HasRoute (a.added ++ r ∷ []) from w.host
    by k w e d (inl p) l =
        let to : r.to ≡ w.host = is_to ∙ ap (λ (z : HostWays). z.host) (one-at ways k count at w there e p) in
        subst (λ x. HasRoute (a.added ++ r ∷ []) from x) to (subst (λ x. HasRoute (a.added ++ r ∷ []) x r.to) is_from (has-last a.added r))
    by k w e d (inr (inl p)) l = has-left a.added (r ∷ []) from w.host (a.whole k w p e d)
    by k w e d (inr (inr p)) l = absurd (omega arith)

-- a route that stands above all is taken
taken : (rs : List Route) (r : Route) → AllByRecursion (λ s. route_below s r ≡ true) rs → push_refusal rs r ≡ None
taken rs r all = by (slice_get rs (length rs - 1)) refl
  where
    above : (o : Option Route) → slice_get rs (length rs - 1) ≡ o → is_above o r ≡ true
    above None e = refl
    above (Some s) e = all-member (λ s. route_below s r ≡ true) s rs all (get-member rs (length rs - 1) s e)

    by : (o : Option Route) → slice_get rs (length rs - 1) ≡ o → push_refusal rs r ≡ None
    by o e = rw (e, above o e) refl

pub adds-taken : (m : NetMap) (order : List ℕ) (from : ℕ) (ways : List HostWays) (count : ℕ) (old new : List Route) (at : HostWays) (r : Route) → AddsRoutes m order from ways count old new → AllByRecursion (λ s. s.from < from) old → slice_get ways count ≡ Some at → r.from ≡ from → r.to ≡ at.host → push_refusal new r ≡ None
adds-taken m order from ways count old new at r a low there is_from is_to =
    let before = all-from-members (λ s. route_below s r ≡ true) old (λ s i. or-left (nat_lt s.from r.from) _ (lt-ltb s.from r.from (subst (λ h. s.from < h) (sym is_from) (all-member (λ (s : Route). s.from < from) s old low i)))) in
    let here = all-from-members (λ s. route_below s r ≡ true) a.added (λ s i. same_from s (all-member (λ (s : Route). s.from ≡ from) s a.added a.from_there i) (all-member (λ (s : Route). s.to < at.host) s a.added (a.before count at (omega arith) there) i)) in
    taken new r (subst (AllByRecursion (λ s. route_below s r ≡ true)) (sym a.is) (all-join (λ s. route_below s r ≡ true) old a.added before here))
  where
    same_from : (s : Route) → s.from ≡ from → s.to < at.host → route_below s r ≡ true
    same_from s e l = or-right (nat_lt s.from r.from) _ (rw (eq-eqb s.from r.from (e ∙ sym is_from)) (lt-ltb s.to r.to (subst (λ h. s.to < h) (sym is_to) l)))

-- a route of these, if it leads from this host, is the least legal one
abbrev IsLeastFrom : NetMap → List ℕ → ℕ → Route → Type 0
IsLeastFrom m order from s = s.from ≡ from → IsLeastLegal m order s.from s.to s.walk

pub adds-last : (m : NetMap) (order : List ℕ) (from : ℕ) (ways : List HostWays) (count : ℕ) (old new : List Route) → AddsRoutes m order from ways count old new → AllByRecursion (λ s. s.from < from) old → IsLastLeast m order from new
adds-last m order from ways count old new a low r there same =
    let before = all-from-members (IsLeastFrom m order from) old (λ s i e. absurd (less-apart s.from (all-member (λ (s : Route). s.from < from) s old low i) e)) in
    let here = all-from-members (IsLeastFrom m order from) a.added (λ s i e. (all-member (IsRightRoute m order) s a.added a.right i).least) in
    all-member (IsLeastFrom m order from) r new (subst (AllByRecursion (IsLeastFrom m order from)) (sym a.is) (all-join (IsLeastFrom m order from) old a.added before here)) (get-member new (length new - 1) r there) same
  where
    less-apart : (h : ℕ) → h < from → h ≡ from → ⊥
    less-apart h l e = omega arith
