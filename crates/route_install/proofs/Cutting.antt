-- The routes of a set from one host stand together.
use Rattle.std.proofs.Common.{◌≡◌, ◌<◌, ◌≤◌, ◌+◌, ◌-◌, ℕ, zero, suc, List, [], ◌∷◌, Bool, true, false, cond, length, nat_eq, nat_lt, take, drop, get_or, Some, None, option_map, refl, ap, sym, ◌∙◌, arith, if◌then◌else◌}
use Rattle.std.specs.Prelude.{ℤ, find, ◌*◌, map, slice_get}
use Rattle.std.specs.List.{AllByRecursion, count_by, filter}
use Rattle.std.proofs.lemmas.Bool.Decides.{nat_tests}
use Rattle.net_defs.specs.declared.route.Route.{Route}
use Rattle.net_defs.specs.RouteSet.{route_below, AreRising}
use Rattle.port_graph.specs.Routes.{walk_of, goes}
use Rattle.world_defs.specs.Mapping.{RouteEntry}
use Rattle.world_defs.specs.Table.{Adoption, route_of, entries_from, part_count, part_entries, part_with, part_for}
use Rattle.std.proofs.lemmas.List.{length-map, take-map, drop-map}
use Rattle.std.proofs.lemmas.Option.{get_or_from_slice_get, same_Some}
use Rattle.std.proofs.lemmas.List.Sums.{sum_by-cons, sum_by-le-sum_by}

below-from : (r s : Route) → route_below r s ≡ true → r.from ≤ s.from
below-from r s e = grind (arith, nat_tests)

-- the senders of rising routes rise
pub from-rises : (rs : List Route) → AreRising rs → (i j : ℕ) (d : Route) → i ≤ j → j < length rs → (get_or rs i d).from ≤ (get_or rs j d).from
from-rises [] up i j d le lt = absurd (omega arith)
from-rises (r ∷ rs) up zero zero d le lt = omega arith
from-rises (r ∷ rs) up zero (suc j) d le lt = each rs j up.0 (omega arith)
  where
    each : (ss : List Route) (k : ℕ) → AllByRecursion (λ s. route_below r s ≡ true) ss → k < length ss → r.from ≤ (get_or ss k d).from
    each [] k all l = absurd (omega arith)
    each (s ∷ ss) zero all l = below-from r s all.0
    each (s ∷ ss) (suc k) all l = each ss k all.1 (omega arith)
from-rises (r ∷ rs) up (suc i) zero d le lt = absurd (omega arith)
from-rises (r ∷ rs) up (suc i) (suc j) d le lt = from-rises rs up.1 i j d (omega arith) (omega arith)

-- the first routes of a set rise, and the others
pub all-take : (P : Route → Type 0) (k : ℕ) (rs : List Route) → AllByRecursion P rs → AllByRecursion P (take k rs)
all-take P zero rs all = tt
all-take P (suc k) [] all = tt
all-take P (suc k) (r ∷ rs) all = (all.0, all-take P k rs all.1)

pub rising-take : (k : ℕ) (rs : List Route) → AreRising rs → AreRising (take k rs)
rising-take zero rs up = tt
rising-take (suc k) [] up = tt
rising-take (suc k) (r ∷ rs) up = (all-take (λ s. route_below r s ≡ true) k rs up.0, rising-take k rs up.1)

pub rising-drop : (rs : List Route) (k : ℕ) → AreRising rs → AreRising (drop k rs)
rising-drop rs zero up = up
rising-drop [] (suc k) up = up
rising-drop (r ∷ rs) (suc k) up = rising-drop rs k up.1

-- how many routes are of lesser hosts than a number
abbrev pub below : ℕ → List Route → ℕ
below n rs = count_by (λ r. nat_lt r.from n) rs

counted : (n : ℕ) (r : Route) (rs : List Route) (b : Bool) → nat_lt r.from n ≡ b → below n (r ∷ rs) ≡ cond b 1 0 + below n rs
counted n r rs b e = sum_by-cons (λ s. cond (nat_lt s.from n) 1 0) r rs ∙ ap (λ t. cond t 1 0 + below n rs) e

-- they are so many where those in front are of lesser hosts, and the others aren't
pub counted-at : (n : ℕ) (rs : List Route) (k : ℕ) → k ≤ length rs → ((i : ℕ) (d : Route) → i < k → nat_lt (get_or rs i d).from n ≡ true)
    → ((i : ℕ) (d : Route) → k ≤ i → i < length rs → nat_lt (get_or rs i d).from n ≡ false) → k ≡ below n rs
counted-at n [] k le low high = omega arith
counted-at n (r ∷ rs) zero le low high =
    let first = counted n r rs false (high zero r (omega arith) (omega arith)) in
    let rest = counted-at n rs zero (omega arith) (λ i d l. absurd (omega arith)) (λ i d l m. high (suc i) d (omega arith) (omega arith)) in
    omega arith
counted-at n (r ∷ rs) (suc k) le low high =
    let first = counted n r rs true (low zero r (omega arith)) in
    let rest = counted-at n rs k (omega arith) (λ i d l. low (suc i) d (omega arith)) (λ i d l m. high (suc i) d (omega arith) (omega arith)) in
    omega arith

-- no route after one is of a lesser host
none-below : (n : ℕ) (r : Route) (rs : List Route) → n ≤ r.from → AllByRecursion (λ s. route_below r s ≡ true) rs → below n rs ≡ 0
none-below n r [] least all = refl
none-below n r (s ∷ ss) least all =
    let up = below-from r s all.0 in
    let other : nat_lt s.from n ≡ false = grind (arith, nat_tests) in
    let first = counted n s ss false other in
    let rest = none-below n r ss least all.1 in
    omega arith

-- all are of lesser hosts where the last is, and none where the first isn't
pub all-below : (n : ℕ) (rs : List Route) (r : Route) → AreRising rs → slice_get rs (length rs - 1) ≡ Some r → r.from < n → below n rs ≡ length rs
all-below n rs r up e lt =
    sym
    (counted-at n rs (length rs) (omega arith)
    (λ i d l. let last = get_or_from_slice_get rs (length rs - 1) r d e in let rises = from-rises rs up i (length rs - 1) d (omega arith) (omega arith) in let same : (get_or rs (length rs - 1) d).from ≡ r.from = ap (λ (s : Route). s.from) last in grind (arith, nat_tests))
    (λ i d l m. absurd (omega arith)))

pub begins-from : (n : ℕ) (rs : List Route) (r : Route) → AreRising rs → slice_get rs 0 ≡ Some r → n ≤ r.from → below n rs ≡ 0
begins-from n [] r up e least = refl
begins-from n (x ∷ xs) r up e least =
    let same : x.from ≡ r.from = ap (λ (s : Route). s.from) (same_Some x r e) in
    let other : nat_lt x.from n ≡ false = grind (arith, nat_tests) in
    let first = counted n x xs false other in
    let rest = none-below n x xs (omega arith) up.0 in
    omega arith

-- there are no fewer below a greater number
pub below-more : (n m : ℕ) (rs : List Route) → n ≤ m → below n rs ≤ below m rs
below-more n m rs le = sum_by-le-sum_by (λ r. cond (nat_lt r.from n) 1 0) (λ r. cond (nat_lt r.from m) 1 0) rs (λ r. by r (nat_lt r.from n) (nat_lt r.from m) refl refl)
  where
    by : (r : Route) (a b : Bool) → nat_lt r.from n ≡ a → nat_lt r.from m ≡ b → cond {A = ℕ} a 1 0 ≤ cond b 1 0
    by r true true e f = omega arith
    by r true false e f = absurd (grind (arith, nat_tests))
    by r false b e f = omega arith

-- so the routes from a host are those between two counts
pub cut-between : (from : ℕ) (rs : List Route) → AreRising rs → take (below (from + 1) rs - below from rs) (drop (below from rs) rs) ≡ filter (λ r. nat_eq r.from from) rs
cut-between from [] up = refl
cut-between from (r ∷ rs) up = by (nat_lt r.from from) (nat_eq r.from from) refl refl (cut-between from rs up.1)
  where
    by : (p q : Bool) → nat_lt r.from from ≡ p → nat_eq r.from from ≡ q
        → take (below (from + 1) rs - below from rs) (drop (below from rs) rs) ≡ filter (λ s. nat_eq s.from from) rs
        → take (below (from + 1) (r ∷ rs) - below from (r ∷ rs)) (drop (below from (r ∷ rs)) (r ∷ rs)) ≡ (if q then r ∷ filter (λ s. nat_eq s.from from) rs else filter (λ s. nat_eq s.from from) rs)
    by true true e f rest = absurd (grind (arith, nat_tests))
    by true false e f rest =
        let low = counted from r rs true e in
        let high = counted (from + 1) r rs true (grind (arith, nat_tests)) in
        let size : below (from + 1) (r ∷ rs) - below from (r ∷ rs) ≡ below (from + 1) rs - below from rs = omega arith in
        let one : below from (r ∷ rs) ≡ suc (below from rs) = omega arith in
        (λ i. take (size i) (drop (one i) (r ∷ rs))) ∙ rest
    by false true e f rest =
        let least : from ≤ r.from = grind (arith, nat_tests) in
        let low = counted from r rs false e in
        let none = none-below from r rs least up.0 in
        let high = counted (from + 1) r rs true (grind (arith, nat_tests)) in
        let size : below (from + 1) (r ∷ rs) - below from (r ∷ rs) ≡ suc (below (from + 1) rs) = omega arith in
        let here : below from (r ∷ rs) ≡ 0 = omega arith in
        let all : below (from + 1) rs - below from rs ≡ below (from + 1) rs = omega arith in
        (λ i. take (size i) (drop (here i) (r ∷ rs))) ∙ ap (λ l. r ∷ l) (sym (λ i. take (all i) (drop (none i) rs)) ∙ rest)
    by false false e f rest =
        let above : from + 1 ≤ r.from = grind (arith, nat_tests) in
        let none = none-below (from + 1) r rs above up.0 in
        let high = counted (from + 1) r rs false (grind (arith, nat_tests)) in
        let size : below (from + 1) (r ∷ rs) - below from (r ∷ rs) ≡ 0 = omega arith in
        let few : below (from + 1) rs - below from rs ≡ 0 = omega arith in
        (λ i. take (size i) (drop (below from (r ∷ rs)) (r ∷ rs))) ∙ sym (λ i. take (few i) (drop (below from rs) rs)) ∙ rest

-- the route of the definition is the one that a set finds
pub route-found : (rs : List Route) (from to : ℕ) → walk_of rs from to ≡ route_of rs from to
route-found [] from to = refl
route-found (r ∷ rs) from to = by (goes from to r) (route-found rs from to)
  where
    by : (b : Bool) → walk_of rs from to ≡ route_of rs from to → (if b then Some r.walk else walk_of rs from to) ≡ option_map (λ s. s.walk) (if b then Some r else find (λ s. goes from to s) rs)
    by true e = refl
    by false e = e

-- the entry of a table for a route
abbrev pub entry : Route → RouteEntry
entry r = record { to = r.to; walk = r.walk }

-- a part that has no way back, and one that has
pub part-none : (a : Adoption) (dst part : ℕ) → (dst ≡ a.mapper → ⊥) → route_of a.routes dst a.mapper ≡ None → part_for a dst part ≡ None
part-none a dst part other back =
    let o : nat_eq dst a.mapper ≡ false = grind (arith, nat_tests) in
    rw (o, back) (by (nat_lt part (part_count (length (entries_from a.routes dst)))))
  where
    by : (b : Bool) → (if b then part_with a dst part (entries_from a.routes dst) None else None) ≡ None
    by true = refl
    by false = refl

pub part-some : (a : Adoption) (dst part : ℕ) (rs : List Route) (back : List ℤ) (es : List RouteEntry) → (dst ≡ a.mapper → ⊥) → rs ≡ filter (λ r. nat_eq r.from dst) a.routes → part < part_count (length rs) → route_of a.routes dst a.mapper ≡ Some back → es ≡ map entry (take 8 (drop (8 * part) rs)) → Some (record { epoch = a.epoch; mapper = a.mapper; dst = dst; part = part; parts = part_count (length rs); back = back; entries = es }) ≡ part_for a dst part
part-some a dst part rs back es other from low way cut =
    let o : nat_eq dst a.mapper ≡ false = grind (arith, nat_tests) in
    let count : length (entries_from a.routes dst) ≡ length rs = length-map (filter (λ r. nat_eq r.from dst) a.routes) entry ∙ ap length (sym from) in
    let l : nat_lt part (part_count (length rs)) ≡ true = grind (arith, nat_tests) in
    let entries : part_entries (entries_from a.routes dst) part ≡ es =
    ap (λ l. take 8 l) (drop-map entry (8 * part) (filter (λ r. nat_eq r.from dst) a.routes))
    ∙ take-map entry 8 (drop (8 * part) (filter (λ r. nat_eq r.from dst) a.routes))
    ∙ ap (λ l. map entry (take 8 (drop (8 * part) l))) (sym from)
    ∙ sym cut in
    rw (o, count, l, way, entries)
    (ap (λ (n : ℕ). Some (record { epoch = a.epoch; mapper = a.mapper; dst = dst; part = part; parts = part_count n; back = back; entries = es })) (sym count))
