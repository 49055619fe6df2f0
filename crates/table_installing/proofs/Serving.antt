-- An installation under way, try by try.
use Rattle.std.proofs.Common.{◌≡◌, ◌<◌, ◌≤◌, ◌+◌, ◌-◌, ◌*◌, ℕ, suc, Bool, true, false, not, ◌&&◌, nat_eq, nat_le, nat_lt, List, [], ◌∷◌, ◌++◌, map, length, Option, Some, None, refl, sym, ◌∙◌, ap, subst, arith, if◌then◌else◌}
use Rattle.std.specs.Prelude.{find, option_map}
use Rattle.std.specs.List.{range_with_len, list_all, filter, AllByRecursion}
use Rattle.std.proofs.lemmas.Bool.Decides.{nat_tests}
use Rattle.world_defs.specs.EightBits.{IsByteEvent}
use Rattle.world_defs.specs.Table.{Adoption}
use Rattle.world_defs.specs.World.{WorldState}
use Rattle.world_defs.specs.Log.{Log, told as tell}
use Rattle.world_defs.specs.Logs as log
use Rattle.world_defs.specs.Row.{IsPartWay}
use Rattle.world_defs.proofs.LogRows.{part_try-row, byte_asks}
use Rattle.log_laws.proofs.PartWay.{way-front, way-as}
use Rattle.log_laws.proofs.UnderWay.{UnderWay, under_way-on, under_way-cut}
use Rattle.route_install.specs.declared.installer.Work.{Work}
use Rattle.route_install.specs.Installing.{Installation, AreOpen, new_work, is_done, first_open, awaited, is_awaited, one_acked, changed}
use Rattle.route_install.proofs.Works.{open-undone}
use Rattle.adopted_routes.specs.Adopting.{part_count_for}
use Rattle.table_installing.specs.Installing.{has_parts, works_of, after_try}
use Rattle.table_installing.proofs.InstallHosts.{parts-are}
use Rattle.table_installing.proofs.Lefts.{left_of, all_left, behind, counted, told, new-left, try-left, all-on}

-- ---- where it begins
-- how many of these hosts are sent no parts
abbrev pub without : Option Adoption → List ℕ → ℕ
without o [] = 0
without o (h ∷ hs) = (if has_parts o h then 0 else 1) + without o hs

-- the works of hosts, and the hosts, come to the same, but for those that are sent no parts
pub hosts-left : (a : Adoption) (tries : ℕ) (hosts : List ℕ) (w : WorldState) → log.hosts a tries hosts w ≡ tell (λ n. without (Some a) hosts + n) (all_left a.mapper tries (works_of (Some a) hosts) w)
hosts-left a tries [] w = refl
hosts-left a tries (h ∷ hs) w =
    ap (λ ps. counted (log.parts a.mapper h tries ps w) (log.hosts a tries hs)) (sym (parts-are a h))
    ∙ ap (onto (log.parts a.mapper h tries (range_with_len 0 n) w)) (hosts-left a tries hs (log.parts a.mapper h tries (range_with_len 0 n) w).world)
    ∙ by (nat_lt 0 n) refl
  where
    n : ℕ
    n = part_count_for (Some a) h

    rest : WorldState → Log ℕ
    rest v = tell (λ m. without (Some a) hs + m) (all_left a.mapper tries (works_of (Some a) hs) v)

    onto : Log Bool → Log ℕ → Log ℕ
    onto l m = record { value = (if l.value then 1 else 0) + m.value; events = l.events ++ m.events; world = m.world }

    by : (b : Bool) → nat_lt 0 n ≡ b
        → counted (log.parts a.mapper h tries (range_with_len 0 n) w) rest
        ≡ tell (λ m. ((if b then 0 else 1) + without (Some a) hs) + m) (all_left a.mapper tries (map (λ g. new_work (part_count_for (Some a) g) g) (if b then h ∷ filter (has_parts (Some a)) hs else filter (has_parts (Some a)) hs)) w)
    by true e =
        let l : Log Bool = left_of a.mapper tries (new_work n h) w in
        let m : Log ℕ = all_left a.mapper tries (works_of (Some a) hs) l.world in
        let sum : (if l.value then 1 else 0) + (without (Some a) hs + m.value) ≡ (0 + without (Some a) hs) + ((if l.value then 1 else 0) + m.value) = omega arith in
        ap (λ r. counted r rest) (sym (new-left a.mapper tries h n w)) ∙ ap (λ k. record { value = k; events = l.events ++ m.events; world = m.world }) sum
    by false e =
        let none : n ≡ 0 = grind (arith, nat_tests) in
        let m : Log ℕ = all_left a.mapper tries (works_of (Some a) hs) w in
        let sum : 1 + (without (Some a) hs + m.value) ≡ (1 + without (Some a) hs) + m.value = omega arith in
        ap (λ k. counted (log.parts a.mapper h tries (range_with_len 0 k) w) rest) none ∙ ap (λ k. record { value = k; events = m.events; world = m.world }) sum

-- the works are few, and none of them is done
some-left : (o : Option Adoption) (tries h : ℕ) → 1 ≤ tries → has_parts o h ≡ true → not (is_done tries (new_work (part_count_for o h) h)) ≡ true
some-left o tries h some has =
    let a : nat_le (part_count_for o h) 0 ≡ false = grind (arith, nat_tests) in
    let b : nat_le tries 0 ≡ false = grind (arith, nat_tests) in
    rw (a, b) refl

pub works-open : (o : Option Adoption) (hosts : List ℕ) (tries : ℕ) → 1 ≤ tries → list_all (λ k. not (is_done tries k)) (works_of o hosts) ≡ true
works-open o [] tries some = refl
works-open o (h ∷ hs) tries some = by (has_parts o h) refl (works-open o hs tries some)
  where
    by : (b : Bool) → has_parts o h ≡ b → list_all (λ k. not (is_done tries k)) (works_of o hs) ≡ true
        → list_all (λ k. not (is_done tries k)) (map (λ g. new_work (part_count_for o g) g) (if b then h ∷ filter (has_parts o) hs else filter (has_parts o) hs)) ≡ true
    by true has rest = ap (λ c. c && list_all (λ k. not (is_done tries k)) (works_of o hs)) (some-left o tries h some has) ∙ rest
    by false has rest = rest

works-few : (o : Option Adoption) (hosts : List ℕ) → length (works_of o hosts) ≤ length hosts
works-few o [] = omega arith
works-few o (h ∷ hs) = by (has_parts o h) (works-few o hs)
  where
    by : (b : Bool) → length (works_of o hs) ≤ length hs → length (map (λ g. new_work (part_count_for o g) g) (if b then h ∷ filter (has_parts o) hs else filter (has_parts o) hs)) ≤ suc (length hs)
    by true l = omega (arith, l)
    by false l = omega (arith, l)

pub can-serve : (o : Option Adoption) (hosts : List ℕ) (tries : ℕ) (works : List Work) → works ≡ works_of o hosts → length hosts ≤ 128 → 1 ≤ tries → tries ≤ 8 → AreOpen works tries
can-serve o hosts tries works is few some most =
    let fewer = works-few o hosts in
    subst (λ (ks : List Work). AreOpen ks tries) (sym is) (record { few = omega (arith, few, fewer); undone = works-open o hosts tries some; few_tries = most })

pub works-hosts : (o : Option Adoption) (hosts : List ℕ) → map (λ k. k.host) (works_of o hosts) ≡ filter (has_parts o) hosts
works-hosts o hosts = by (filter (has_parts o) hosts)
  where
    by : (hs : List ℕ) → map (λ k. k.host) (map (λ g. new_work (part_count_for o g) g) hs) ≡ hs
    by [] = refl
    by (h ∷ hs) = ap (λ l. h ∷ l) (by hs)

-- ---- a try more
-- What is known of the work whose part is awaited.
pub record IsAwaited (i : Installation) (dst part : ℕ) : Type 0 where
  pub work : Work
  pub first : first_open i ≡ Some work
  pub host : work.host ≡ dst
  pub acked : work.acked ≡ part
  pub undone : is_done i.tries work ≡ false

pub awaits : (i : Installation) (dst part : ℕ) → awaited i ≡ Some (dst, part) → IsAwaited i dst part
awaits i dst part e = by (first_open i) refl e
  where
    pairs : (a b : ℕ × ℕ) → Some a ≡ Some b → a ≡ b
    pairs a b s = cc

    by : (o : Option Work) → first_open i ≡ o → option_map {U = ℕ × ℕ} (λ w. (w.host, w.acked)) o ≡ Some (dst, part) → IsAwaited i dst part
    by None f s = cc
    by (Some k) f s =
        let same : (k.host, k.acked) ≡ (dst, part) = pairs (k.host, k.acked) (dst, part) s in
        record { work = k; first = f; host = ap (λ (p : ℕ × ℕ). p.0) same; acked = ap (λ (p : ℕ × ℕ). p.1) same; undone = open-undone (is_done i.tries) k i.works f }

-- what holds of all hosts holds of the awaited one
all-filter : (P : ℕ → Type 0) (t : ℕ → Bool) (hs : List ℕ) → AllByRecursion P hs → AllByRecursion P (filter t hs)
all-filter P t [] all = tt
all-filter P t (h ∷ hs) all = by (t h) (all-filter P t hs all.1)
  where
    by : (b : Bool) → AllByRecursion P (filter t hs) → AllByRecursion P (if b then h ∷ filter t hs else filter t hs)
    by true rest = (all.0, rest)
    by false rest = rest

found-holds : (P : ℕ → Type 0) (test : Work → Bool) (ks : List Work) (k : Work) → AllByRecursion P (map (λ x. x.host) ks) → find test ks ≡ Some k → P k.host
found-holds P test [] k all e = cc
found-holds P test (x ∷ xs) k all e = by (test x) e (found-holds P test xs k all.1)
  where
    by : (b : Bool) → (if b then Some x else find test xs) ≡ Some k → (find test xs ≡ Some k → P k.host) → P k.host
    by true s ih = let one : x ≡ k = cc in subst (λ (y : Work). P y.host) one all.0
    by false s ih = ih s

pub awaited-there : (P : ℕ → Type 0) (o : Option Adoption) (hosts : List ℕ) (i : Installation) (dst part : ℕ) → awaited i ≡ Some (dst, part) → map (λ k. k.host) i.works ≡ filter (has_parts o) hosts → AllByRecursion P hosts → P dst
awaited-there P o hosts i dst part e of all =
    let a : IsAwaited i dst part = awaits i dst part e in
    subst P a.host (found-holds P (λ x. not (is_done i.tries x)) i.works a.work (subst (AllByRecursion P) (sym of) (all-filter P (has_parts o) hosts all)) a.first)

-- what a try makes of an installation
pub tried-works : (i : Installation) (dst part : ℕ) (found : Bool) → awaited i ≡ Some (dst, part) → after_try i dst part found ≡ record i { works = changed (is_done i.tries) (told found) i.works }
tried-works i dst part true e =
    let a : nat_eq dst dst ≡ true = grind (arith, nat_tests) in
    let b : nat_eq part part ≡ true = grind (arith, nat_tests) in
    let is : is_awaited (Some (dst, part)) dst part ≡ true = rw (a, b) refl in
    ap (λ b. if b then record i { works = changed (is_done i.tries) one_acked i.works } else i) (ap (λ o. is_awaited o dst part) e ∙ is)
tried-works i dst part false e = refl

-- its hosts stay
pub changed-hosts : (done : Work → Bool) (found : Bool) (ks : List Work) → map (λ k. k.host) (changed done (told found) ks) ≡ map (λ k. k.host) ks
changed-hosts done found [] = refl
changed-hosts done found (k ∷ ks) = by (done k) (changed-hosts done found ks)
  where
    same : (b : Bool) → (told b k).host ≡ k.host
    same true = refl
    same false = refl

    by : (b : Bool) → map (λ k. k.host) (changed done (told found) ks) ≡ map (λ k. k.host) ks → map (λ k. k.host) (if b then k ∷ changed done (told found) ks else told found k ∷ ks) ≡ k.host ∷ map (λ k. k.host) ks
    by true e = ap (λ l. k.host ∷ l) e
    by false e = ap (λ h. h ∷ map (λ k. k.host) ks) (same found)

-- and it has fewer tries left
abbrev pub work_tries : Work → ℕ
work_tries k = 9 * (k.parts - k.acked) + (8 - k.silences)

abbrev pub tries_left : List Work → ℕ
tries_left [] = 0
tries_left (k ∷ ks) = work_tries k + tries_left ks

fewer-tries : (tries : ℕ) (found : Bool) (k : Work) → tries ≤ 8 → is_done tries k ≡ false → work_tries (told found k) < work_tries k
fewer-tries tries true k most e =
    let lt : k.acked < k.parts = grind (arith, nat_tests) in
    let st : k.silences < tries = grind (arith, nat_tests) in
    omega (arith, lt, st, most)
fewer-tries tries false k most e =
    let st : k.silences < tries = grind (arith, nat_tests) in
    omega (arith, st, most)

pub fewer-left : (tries : ℕ) (found : Bool) (k : Work) (ks : List Work) → tries ≤ 8 → find (λ x. not (is_done tries x)) ks ≡ Some k → tries_left (changed (is_done tries) (told found) ks) < tries_left ks
fewer-left tries found k [] most e = cc
fewer-left tries found k (x ∷ xs) most e = by (is_done tries x) refl e (fewer-left tries found k xs most)
  where
    by : (b : Bool) → is_done tries x ≡ b → (if not b then Some x else find (λ y. not (is_done tries y)) xs) ≡ Some k
        → (find (λ y. not (is_done tries y)) xs ≡ Some k → tries_left (changed (is_done tries) (told found) xs) < tries_left xs)
        → tries_left (if b then x ∷ changed (is_done tries) (told found) xs else told found x ∷ xs) < work_tries x + tries_left xs
    by true d e ih = let less = ih e in omega (arith, less)
    by false d e ih = let less = fewer-tries tries found x most d in omega (arith, less)

-- The tries so far: with what is left of the works they are the installation.
abbrev pub IsServing : Adoption → ℕ → List ℕ → WorldState → WorldState → Installation → Type 0
IsServing a tries hosts first now i = UnderWay (λ n. without (Some a) hosts + n) (log.hosts a tries hosts first) first now (all_left a.mapper tries i.works now)

pub serving-none : (a : Adoption) (tries : ℕ) (hosts : List ℕ) (first : WorldState) (i : Installation) → i.works ≡ works_of (Some a) hosts → IsServing a tries hosts first first i
serving-none a tries hosts first i is = record {
  done = [];
  led = refl;
  all = hosts-left a tries hosts first ∙ ap (λ (ks : List Work). tell (λ n. without (Some a) hosts + n) (all_left a.mapper tries ks first)) (sym is);
}

-- what is left begins with the next try
next-left : (mapper tries dst part : ℕ) (i : Installation) (now : WorldState) (found : Bool) → i.tries ≡ tries → awaited i ≡ Some (dst, part) → (log.part_try mapper dst part now).value.found ≡ found
    → all_left mapper tries i.works now ≡ behind (log.part_try mapper dst part now).events (all_left mapper tries (changed (is_done i.tries) (told found) i.works) (log.part_try mapper dst part now).world)
next-left mapper tries dst part i now found same e f =
    let a : IsAwaited i dst part = awaits i dst part e in
    let k : Work = a.work in
    let is : (log.part_try mapper k.host k.acked now).value.found ≡ found = (λ j. (log.part_try mapper (a.host j) (a.acked j) now).value.found) ∙ f in
    let whole = all-on mapper i.tries (told found) k i.works now (log.part_try mapper k.host k.acked now).world (log.part_try mapper k.host k.acked now).events a.first (try-left mapper i.tries k now found a.undone is) in
    ap (λ n. all_left mapper n i.works now) (sym same) ∙ whole
    ∙ (λ j. behind (log.part_try mapper (a.host j) (a.acked j) now).events (all_left mapper (same j) (changed (is_done i.tries) (told found) i.works) (log.part_try mapper (a.host j) (a.acked j) now).world))

-- a try more
pub serving-on : (a : Adoption) (mapper tries dst part : ℕ) (hosts : List ℕ) (first now next : WorldState) (i after : Installation) (found : Bool) → IsServing a tries hosts first now i → a.mapper ≡ mapper → i.tries ≡ tries → awaited i ≡ Some (dst, part)
    → found ≡ (log.part_try mapper dst part now).value.found → next ≡ (log.part_try mapper dst part now).world → after ≡ after_try i dst part found → IsServing a tries hosts first next after
serving-on a mapper tries dst part hosts first now next i after found s one same e is led told-is =
    let m : ℕ = a.mapper in
    let try_is : Log (log.Tried Bool) = log.part_try m dst part now in
    let f : try_is.value.found ≡ found = ap (λ n. (log.part_try n dst part now).value.found) one ∙ sym is in
    let world : next ≡ try_is.world = led ∙ ap (λ n. (log.part_try n dst part now).world) (sym one) in
    let works : after.works ≡ changed (is_done i.tries) (told found) i.works = (λ j. (told-is j).works) ∙ (λ j. (tried-works i dst part found e j).works) in
    under_way-on (λ n. n) (λ n. without (Some a) hosts + n) next try_is.events (all_left m tries after.works next) s
    (world ∙ (part_try-row {Q = IsByteEvent} byte_asks (λ d p. tt) m dst part now).there)
    (next-left m tries dst part i now found same e f ∙ (λ j. behind try_is.events (all_left m tries (sym works j) (sym world j)))) (λ n. refl)

-- memory ran out within a try
pub serving-cut : (a : Adoption) (mapper tries dst part : ℕ) (hosts : List ℕ) (first now v : WorldState) (i : Installation) → IsServing a tries hosts first now i → a.mapper ≡ mapper → i.tries ≡ tries → awaited i ≡ Some (dst, part)
    → IsPartWay now (log.part_try mapper dst part now).events v → IsPartWay first (log.hosts a tries hosts first).events v
serving-cut a mapper tries dst part hosts first now v i s one same e p =
    let try_is : Log (log.Tried Bool) = log.part_try a.mapper dst part now in
    let rest : Log ℕ = all_left a.mapper tries (changed (is_done i.tries) (told try_is.value.found) i.works) try_is.world in
    under_way-cut v s
    (way-as now v (all_left a.mapper tries i.works now).events (try_is.events ++ rest.events) (ap (λ l. l.events) (next-left a.mapper tries dst part i now try_is.value.found same e refl))
    (way-front now v try_is.events rest.events (subst (λ n. IsPartWay now (log.part_try n dst part now).events v) (sym one) p)))
