-- Parts of a set are by the rules of bodies.
use Rattle.std.proofs.Common.{◌≡◌, ◌<◌, ◌≤◌, ◌*◌, ◌-◌, ◌^◌, ℕ, zero, suc, List, [], ◌∷◌, ◌++◌, Bool, true, false, length, map, take, drop, nat_eq, nat_lt, nat_le, refl, ap, sym, subst, ◌∙◌, arith, if◌then◌else◌}
use Rattle.std.specs.Prelude.{ℤ, All}
use Rattle.std.specs.List.{AllByRecursion, filter, list_all}
use Rattle.std.proofs.lemmas.Bool.{and_parts}
use Rattle.std.proofs.lemmas.Bool.Decides.{nat_tests}
use Rattle.std.proofs.lemmas.List.{length-map, length-drop}
use Rattle.std.proofs.lemmas.List.Sums.{list_all-from_AllPass}
use Rattle.net_defs.specs.Turn.{is_turn, IsTurn}
use Rattle.net_defs.specs.declared.route.Route.{Route}
use Rattle.net_defs.specs.RouteSet.{route_below, AreRising}
use Rattle.world_defs.specs.Mapping.{RouteEntry, is_route, are_entries, is_part}
use Rattle.world_defs.specs.Table.{part_count}
use Rattle.route_install.specs.Collecting.{is_fit}
use Rattle.route_install.proofs.Cutting.{all-take, entry, rising-drop, rising-take}

-- a walk's turns are a route
pub walk-route : (ts : List ℤ) → length ts ≤ 64 → All IsTurn ts → is_route ts ≡ true
walk-route ts few all =
    let short : nat_le (length ts) 64 ≡ true = grind (arith, nat_tests) in
    rw short (list_all-from_AllPass is_turn ts all)

-- an entry with a host of 16 bits and a route may stand in a body
pub entry-fit : (to : ℕ) (walk : List ℤ) → to < 2 ^ 16 → is_route walk ≡ true → is_fit (record { to = to; walk = walk }) ≡ true
entry-fit to walk l r = let t : nat_lt to (2 ^ 16) ≡ true = grind (arith, nat_tests) in rw (t, r) refl

-- entries that may, with one more
pub fit-push : (es : List RouteEntry) (e : RouteEntry) → list_all is_fit es ≡ true → is_fit e ≡ true → list_all is_fit (es ++ e ∷ []) ≡ true
fit-push [] e all fit = rw fit refl
fit-push (d ∷ es) e all fit =
    let two = and_parts (is_fit d) (list_all is_fit es) all in
    rw two.0 (fit-push es e two.1 fit)

-- what is chosen of rising routes rises
all-filter : (P : Route → Type 0) (t : Route → Bool) (rs : List Route) → AllByRecursion P rs → AllByRecursion P (filter t rs)
all-filter P t [] all = tt
all-filter P t (r ∷ rs) all = by (t r) (all-filter P t rs all.1)
  where
    by : (b : Bool) → AllByRecursion P (filter t rs) → AllByRecursion P (if b then r ∷ filter t rs else filter t rs)
    by true rest = (all.0, rest)
    by false rest = rest

rising-filter : (t : Route → Bool) (rs : List Route) → AreRising rs → AreRising (filter t rs)
rising-filter t [] up = tt
rising-filter t (r ∷ rs) up = by (t r) (rising-filter t rs up.1)
  where
    by : (b : Bool) → AreRising (filter t rs) → AreRising (if b then r ∷ filter t rs else filter t rs)
    by true rest = (all-filter (λ s. route_below r s ≡ true) t rs up.0, rest)
    by false rest = rest

all-drop : (P : Route → Type 0) (k : ℕ) (rs : List Route) → AllByRecursion P rs → AllByRecursion P (drop k rs)
all-drop P zero rs all = all
all-drop P (suc k) [] all = tt
all-drop P (suc k) (r ∷ rs) all = all-drop P k rs all.1

-- the routes from a host are from it
all-from : (from : ℕ) (rs : List Route) → AllByRecursion (λ r. r.from ≡ from) (filter (λ r. nat_eq r.from from) rs)
all-from from [] = tt
all-from from (r ∷ rs) = by (nat_eq r.from from) refl (all-from from rs)
  where
    by : (b : Bool) → nat_eq r.from from ≡ b → AllByRecursion (λ s. s.from ≡ from) (filter (λ s. nat_eq s.from from) rs) → AllByRecursion (λ s. s.from ≡ from) (if b then r ∷ filter (λ s. nat_eq s.from from) rs else filter (λ s. nat_eq s.from from) rs)
    by true e rest = (grind (arith, nat_tests), rest)
    by false e rest = rest

-- entries of rising routes from one host rise
to-below : (from : ℕ) (r s : Route) → r.from ≡ from → s.from ≡ from → route_below r s ≡ true → nat_lt r.to s.to ≡ true
to-below from r s e f l = grind (arith, nat_tests)

above-first : (from : ℕ) (r : Route) (rs : List Route) → r.from ≡ from → AllByRecursion (λ s. s.from ≡ from) rs → AllByRecursion (λ s. route_below r s ≡ true) rs → list_all (λ d. nat_lt r.to d.to) (map entry rs) ≡ true
above-first from r [] e all up = refl
above-first from r (s ∷ rs) e all up = rw (to-below from r s e all.0 up.0) (above-first from r rs e all.1 up.1)

entries-ruled : (from : ℕ) (rs : List Route) → AreRising rs → AllByRecursion (λ r. r.from ≡ from) rs → list_all is_fit (map entry rs) ≡ true → are_entries (map entry rs) ≡ true
entries-ruled from [] up all fit = refl
entries-ruled from (r ∷ rs) up all fit =
    let two = and_parts (is_fit (entry r)) (list_all is_fit (map entry rs)) fit in
    let one = and_parts (nat_lt r.to (2 ^ 16)) (is_route r.walk) two.0 in
    rw (one.0, one.1, above-first from r rs all.0 all.1 up.0) (entries-ruled from rs up.1 all.1 two.1)

length-cut : (k : ℕ) (rs : List Route) → (length (take k rs) ≤ k) × (0 < k → 0 < length rs → 0 < length (take k rs))
length-cut zero rs = (omega arith, λ a b. a)
length-cut (suc k) [] = (omega arith, λ a b. b)
length-cut (suc k) (r ∷ rs) = let rest = (length-cut k rs).0 in (omega arith, λ a b. omega arith)

-- so is a part that is cut from a set
pub cut-ruled : (epoch mapper dst part : ℕ) (all rs : List Route) (back : List ℤ) (es : List RouteEntry) → epoch < 2 ^ 32 → mapper < 2 ^ 16 → dst < 2 ^ 16
    → AreRising all → rs ≡ filter (λ r. nat_eq r.from dst) all → length rs ≤ 128 → part < part_count (length rs) → is_route back ≡ true
    → es ≡ map entry (take 8 (drop (8 * part) rs)) → list_all is_fit es ≡ true
    → is_part (record { epoch = epoch; mapper = mapper; dst = dst; part = part; parts = part_count (length rs); back = back; entries = es }) ≡ true
cut-ruled epoch mapper dst part all rs back es a b c up from few low way cut fit =
    let x : nat_lt epoch (2 ^ 32) ≡ true = grind (arith, nat_tests) in
    let y : nat_lt mapper (2 ^ 16) ≡ true = grind (arith, nat_tests) in
    let z : nat_lt dst (2 ^ 16) ≡ true = grind (arith, nat_tests) in
    let p : nat_lt part (part_count (length rs)) ≡ true = grind (arith, nat_tests) in
    let sixteen : part_count (length rs) ≤ 16 = omega arith in
    let q : nat_le (part_count (length rs)) 16 ≡ true = grind (arith, nat_tests) in
    let mine : List Route = take 8 (drop (8 * part) rs) in
    let rises : AreRising rs = subst AreRising (sym from) (rising-filter (λ r. nat_eq r.from dst) all up) in
    let sent : AllByRecursion (λ r. r.from ≡ dst) rs = subst (AllByRecursion (λ r. r.from ≡ dst)) (sym from) (all-from dst all) in
    let ruled : are_entries (map entry mine) ≡ true =
    entries-ruled dst mine (rising-take 8 (drop (8 * part) rs) (rising-drop rs (8 * part) rises)) (all-take (λ r. r.from ≡ dst) 8 (drop (8 * part) rs) (all-drop (λ r. r.from ≡ dst) (8 * part) rs sent)) (sym (ap (list_all is_fit) cut) ∙ fit) in
    let entries : are_entries es ≡ true = ap are_entries cut ∙ ruled in
    let size = length-cut 8 (drop (8 * part) rs) in
    let left : length (drop (8 * part) rs) ≡ length rs - 8 * part = length-drop (8 * part) rs in
    let some : 0 < length mine = size.1 (omega arith) (omega arith) in
    let n : length es ≡ length mine = ap length cut ∙ length-map mine entry in
    let eight : length mine ≤ 8 = size.0 in
    let one : nat_le 1 (length es) ≡ true = grind (arith, nat_tests) in
    let most : nat_le (length es) 8 ≡ true = grind (arith, nat_tests) in
    rw (x, y, z, p, q, way, one, most, entries) refl
