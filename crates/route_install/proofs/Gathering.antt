-- Parts of one set in any order: a table has exactly those that came.
use Rattle.std.proofs.Common.{◌≡◌, ◌<◌, ◌≤◌, ◌+◌, ◌*◌, ℕ, zero, suc, List, [], ◌∷◌, ◌++◌, Bool, true, false, not, ◌&&◌, ◌||◌, map, nat_eq, nat_lt, take, Option, Some, None, option_map, refl, ap, sym, ◌∙◌, arith, if◌then◌else◌}
use Rattle.std.specs.Prelude.{ℤ, option_and_then}
use Rattle.std.specs.List.{AllByRecursion, filter, range_with_len}
use Rattle.std.specs.Map.{lookup}
use Rattle.std.proofs.lemmas.Bool.{and_parts}
use Rattle.std.proofs.lemmas.Bool.Decides.{nat_tests}
use Rattle.std.proofs.Math.Seq.{take-add}
use Rattle.std.proofs.lemmas.List.{take_all}
use Rattle.std.proofs.lemmas.Option.{same_Some}
use Rattle.world_defs.specs.Mapping.{RouteEntry, RoutePart}
use Rattle.world_defs.specs.declared.applied.Applied.{Applied}
use Rattle.world_defs.specs.Table.{Adoption, TableState, ActiveTable, entries_from, route_of, part_entries, part_with, part_for, with_part, joined_below, joined, joined_or, applied, whole_table, is_epoch, active_epoch}
use Rattle.route_install.specs.Collecting.{Numbered, with_one}
use Rattle.route_install.specs.Laws.{parts_of, IsPartOf, has_part, after_parts, is_before, PartsMakeTable, ActiveOnceAllStand}
use Rattle.route_install.proofs.Applying.{applied-active, applied-next, later-new, standing-new}

-- a part of these entries with its number
abbrev cut : List RouteEntry → ℕ → Numbered
cut es k = (k, part_entries es k)

-- the parts that came, of so many from a number on
abbrev came : List RouteEntry → (ℕ → Bool) → ℕ → ℕ → List Numbered
came es s a n = map (cut es) (filter s (range_with_len a n))

-- one more has come
abbrev and_one : (ℕ → Bool) → ℕ → ℕ → Bool
and_one s p k = s k || nat_eq p k

-- no part below the first is among them
lookup-below : (es : List RouteEntry) (s : ℕ → Bool) (n a k : ℕ) → k < a → lookup (nat_eq k) (came es s a n) ≡ None
lookup-below es s zero a k l = refl
lookup-below es s (suc n) a k l = by (s a) (lookup-below es s n (a + 1) k (omega arith))
  where
    other : nat_eq k a ≡ false
    other = grind (arith, nat_tests)

    by : (b : Bool) → lookup (nat_eq k) (came es s (a + 1) n) ≡ None → lookup (nat_eq k) (map (cut es) (if b then a ∷ filter s (range_with_len (a + 1) n) else filter s (range_with_len (a + 1) n))) ≡ None
    by true e = rw other e
    by false e = e

-- a part is among them where it came
lookup-came : (es : List RouteEntry) (s : ℕ → Bool) (n a k : ℕ) → a ≤ k → k < a + n → lookup (nat_eq k) (came es s a n) ≡ (if s k then Some (part_entries es k) else None)
lookup-came es s zero a k l m = absurd (omega arith)
lookup-came es s (suc n) a k l m = at (nat_eq k a) refl (λ h. lookup-came es s n (a + 1) k h (omega arith))
  where
    rest : List Numbered
    rest = came es s (a + 1) n

    same : (b : Bool) → nat_eq k a ≡ true → lookup (nat_eq k) rest ≡ None → lookup (nat_eq k) (map (cut es) (if b then a ∷ filter s (range_with_len (a + 1) n) else filter s (range_with_len (a + 1) n))) ≡ (if b then Some (part_entries es a) else None)
    same true e none = rw e refl
    same false e none = none

    past : (b : Bool) → nat_eq k a ≡ false → lookup (nat_eq k) (map (cut es) (if b then a ∷ filter s (range_with_len (a + 1) n) else filter s (range_with_len (a + 1) n))) ≡ lookup (nat_eq k) (came es s (a + 1) n)
    past true e = rw e refl
    past false e = refl

    at : (b : Bool) → nat_eq k a ≡ b → (a + 1 ≤ k → lookup (nat_eq k) (came es s (a + 1) n) ≡ (if s k then Some (part_entries es k) else None)) → lookup (nat_eq k) (came es s a (suc n)) ≡ (if s k then Some (part_entries es k) else None)
    at true e h =
        let one : a ≡ k = grind (arith, nat_tests) in
        same (s a) e (lookup-below es s n (a + 1) k (omega arith)) ∙ ap (λ j. if s j then Some (part_entries es j) else None) one
    at false e h =
        let more : a + 1 ≤ k = grind (arith, nat_tests) in
        past (s a) e ∙ h more

-- a part that isn't among the numbers changes nothing of them
filter-past : (s : ℕ → Bool) (p n a : ℕ) → p < a → filter (and_one s p) (range_with_len a n) ≡ filter s (range_with_len a n)
filter-past s p zero a l = refl
filter-past s p (suc n) a l = by (s a) (filter-past s p n (a + 1) (omega arith))
  where
    other : nat_eq p a ≡ false
    other = grind (arith, nat_tests)

    by : (b : Bool) → filter (and_one s p) (range_with_len (a + 1) n) ≡ filter s (range_with_len (a + 1) n) → (if b || nat_eq p a then a ∷ filter (and_one s p) (range_with_len (a + 1) n) else filter (and_one s p) (range_with_len (a + 1) n)) ≡ (if b then a ∷ filter s (range_with_len (a + 1) n) else filter s (range_with_len (a + 1) n))
    by true e = ap (λ l. a ∷ l) e
    by false e = rw other e

-- a part below all others stands first
put-first : (es : List RouteEntry) (fs : List RouteEntry) (s : ℕ → Bool) (n a p : ℕ) → p < a → with_part p fs (came es s a n) ≡ (p, fs) ∷ came es s a n
put-first es fs s zero a p l = refl
put-first es fs s (suc n) a p l = by (s a) (put-first es fs s n (a + 1) p (omega arith))
  where
    low : nat_lt p a ≡ true
    low = grind (arith, nat_tests)

    by : (b : Bool) → with_part p fs (came es s (a + 1) n) ≡ (p, fs) ∷ came es s (a + 1) n → with_part p fs (map (cut es) (if b then a ∷ filter s (range_with_len (a + 1) n) else filter s (range_with_len (a + 1) n))) ≡ (p, fs) ∷ map (cut es) (if b then a ∷ filter s (range_with_len (a + 1) n) else filter s (range_with_len (a + 1) n))
    by true e = rw low refl
    by false e = e

-- one part more among those that came
came-more : (es : List RouteEntry) (s : ℕ → Bool) (n a p : ℕ) → a ≤ p → p < a + n → with_part p (part_entries es p) (came es s a n) ≡ came es (and_one s p) a n
came-more es s zero a p l m = absurd (omega arith)
came-more es s (suc n) a p l m = at (nat_eq p a) refl (λ h. came-more es s n (a + 1) p h (omega arith))
  where
    same : (b : Bool) → p ≡ a → nat_eq p a ≡ true → with_part p (part_entries es p) (came es s (a + 1) n) ≡ (p, part_entries es p) ∷ came es s (a + 1) n
        → with_part p (part_entries es p) (map (cut es) (if b then a ∷ filter s (range_with_len (a + 1) n) else filter s (range_with_len (a + 1) n))) ≡ (p, part_entries es p) ∷ came es s (a + 1) n
    same true e t f = let low : nat_lt p a ≡ false = grind (arith, nat_tests) in rw (low, t) refl
    same false e t f = f

    past : (b : Bool) → nat_eq p a ≡ false → with_part p (part_entries es p) (came es s (a + 1) n) ≡ came es (and_one s p) (a + 1) n
        → with_part p (part_entries es p) (map (cut es) (if b then a ∷ filter s (range_with_len (a + 1) n) else filter s (range_with_len (a + 1) n)))
        ≡ map (cut es) (if b || nat_eq p a then a ∷ filter (and_one s p) (range_with_len (a + 1) n) else filter (and_one s p) (range_with_len (a + 1) n))
    past true t f = let low : nat_lt p a ≡ false = grind (arith, nat_tests) in rw (low, t) (ap (λ l. cut es a ∷ l) f)
    past false t f = rw t f

    ends : (b : Bool) → nat_eq p a ≡ true → p ≡ a → (p, part_entries es p) ∷ came es s (a + 1) n ≡ map (cut es) (if b || nat_eq p a then a ∷ filter (and_one s p) (range_with_len (a + 1) n) else filter (and_one s p) (range_with_len (a + 1) n))
    ends b t e =
        let far : filter (and_one s p) (range_with_len (a + 1) n) ≡ filter s (range_with_len (a + 1) n) = filter-past s p n (a + 1) (omega arith) in
        ap (λ k. cut es k ∷ came es s (a + 1) n) e ∙ ap (λ l. cut es a ∷ map (cut es) l) (sym far)
        ∙ ap (λ c. map (cut es) (if c then a ∷ filter (and_one s p) (range_with_len (a + 1) n) else filter (and_one s p) (range_with_len (a + 1) n))) (sym (any b t))
      where
        any : (b : Bool) → nat_eq p a ≡ true → (b || nat_eq p a) ≡ true
        any true t = refl
        any false t = t

    at : (b : Bool) → nat_eq p a ≡ b → (a + 1 ≤ p → with_part p (part_entries es p) (came es s (a + 1) n) ≡ came es (and_one s p) (a + 1) n) → with_part p (part_entries es p) (came es s a (suc n)) ≡ came es (and_one s p) a (suc n)
    at true t h =
        let e : p ≡ a = grind (arith, nat_tests) in
        same (s a) e t (put-first es (part_entries es p) s n (a + 1) p (omega arith)) ∙ ends (s a) t e
    at false t h = let more : a + 1 ≤ p = grind (arith, nat_tests) in past (s a) t (h more)

-- all parts below a number came
abbrev all_came : (ℕ → Bool) → ℕ → Bool
all_came s zero = true
all_came s (suc n) = all_came s n && s n

-- the parts that came, end to end, where all below a number did
came-joined : (es : List RouteEntry) (s : ℕ → Bool) (count n : ℕ) → n ≤ count → joined_below n (came es s 0 count) ≡ (if all_came s n then Some (take (8 * n) es) else None)
came-joined es s count zero l = refl
came-joined es s count (suc n) l =
    ap (λ o. option_and_then (λ front. option_map (λ entries. front ++ entries) o) (joined_below n (came es s 0 count))) (lookup-came es s count 0 n (omega arith) (omega arith))
    ∙ ap (λ o. option_and_then (λ front. option_map (λ entries. front ++ entries) (if s n then Some (part_entries es n) else None)) o) (came-joined es s count n (omega arith))
    ∙ by (all_came s n) (s n)
  where
    by : (a b : Bool) → option_and_then (λ front. option_map (λ entries. front ++ entries) (if b then Some (part_entries es n) else None)) (if a then Some (take (8 * n) es) else None) ≡ (if a && b then Some (take (8 * suc n) es) else None)
    by false b = refl
    by true false = refl
    by true true = let e : 8 * n + 8 ≡ 8 * suc n = omega arith in ap Some (sym (take-add (8 * n) 8 es) ∙ ap (λ k. take k es) e)

-- what a part of the set is
is-part : (a : Adoption) (dst n : ℕ) (p : RoutePart) → part_for a dst n ≡ Some p → (p.epoch ≡ a.epoch) × (p.parts ≡ parts_of a dst) × (p.entries ≡ part_entries (entries_from a.routes dst) n) × (n < parts_of a dst)
is-part a dst n p e = by (nat_eq dst a.mapper) (nat_lt n (parts_of a dst)) (route_of a.routes dst a.mapper) refl e
  where
    by : (b c : Bool) (o : Option (List ℤ)) → nat_lt n (parts_of a dst) ≡ c → (if b then None else if c then part_with a dst n (entries_from a.routes dst) o else None) ≡ Some p → (p.epoch ≡ a.epoch) × (p.parts ≡ parts_of a dst) × (p.entries ≡ part_entries (entries_from a.routes dst) n) × (n < parts_of a dst)
    by true c o t e = cc
    by false false o t e = cc
    by false true None t e = cc
    by false true (Some back) t e =
        let made : RoutePart = record { epoch = a.epoch; mapper = a.mapper; dst = dst; part = n; parts = parts_of a dst; back = back; entries = part_entries (entries_from a.routes dst) n } in
        let same : made ≡ p = same_Some made p e in
        (ap (λ (q : RoutePart). q.epoch) (sym same), ap (λ (q : RoutePart). q.parts) (sym same), ap (λ (q : RoutePart). q.entries) (sym same), grind (arith, nat_tests))

-- a table that collects the parts of a set, and what it is once all have come
abbrev collecting : Adoption → ℕ → Option ActiveTable → (ℕ → Bool) → TableState
collecting a dst act s = record { epoch = a.epoch; revoked = false; collected = came (entries_from a.routes dst) s 0 (parts_of a dst); active = act }

abbrev after : Adoption → ℕ → Option ActiveTable → (ℕ → Bool) → TableState
after a dst act s = if all_came s (parts_of a dst) then whole_table a.routes dst a.epoch else collecting a dst act s

same-number : (n : ℕ) → nat_eq n n ≡ true
same-number n = grind (arith, nat_tests)

-- a part comes to a table that collects
step-collecting : (a : Adoption) (dst : ℕ) (act : Option ActiveTable) (s : ℕ → Bool) (p : RoutePart) → is_epoch a.epoch (option_map (λ (t : ActiveTable). t.epoch) act) ≡ false → IsPartOf a dst p → (applied (collecting a dst act s) p).1 ≡ after a dst act (and_one s p.part)
step-collecting a dst act s p other part =
    let i = is-part a dst p.part p part in
    let t : TableState = collecting a dst act s in
    let es : List RouteEntry = entries_from a.routes dst in
    let count = parts_of a dst in
    let new : ℕ → Bool = and_one s p.part in
    let epoch : p.epoch ≡ a.epoch = i.0 in
    let idle : is_epoch p.epoch (active_epoch t) ≡ false = ap (λ e. is_epoch e (active_epoch t)) i.0 ∙ other in
    let low : p.part < 0 + count = let l = i.3 in omega arith in
    ap (λ (r : Applied × TableState). r.1) (applied-next t p (standing-new t p.epoch (omega arith) refl) idle)
    ∙ ap (λ n. (joined n (with_one t p.epoch p.part p.entries)).1) i.1
    ∙ ap (λ e. (joined count (with_one t e p.part p.entries)).1) i.0
    ∙ ap (λ (fs : List RouteEntry). (joined count (with_one t a.epoch p.part fs)).1) i.2
    ∙ ap (λ b. (joined count (record (if b then t else record t { epoch = a.epoch; revoked = false; collected = [] }) { collected = with_part p.part (part_entries es p.part) (if b then t else record t { epoch = a.epoch; revoked = false; collected = [] }).collected })).1) (same-number a.epoch)
    ∙ ap (λ (ps : List Numbered). (joined count (record t { collected = ps })).1) (came-more es s count 0 p.part (omega arith) low)
    ∙ ap (λ o. (joined_or (record t { collected = came es new 0 count }) o).1) (came-joined es new count count (omega arith))
    ∙ by (all_came new count)
  where
    by : (b : Bool)
        → (joined_or (collecting a dst act (and_one s p.part)) (if b then Some (take (8 * parts_of a dst) (entries_from a.routes dst)) else None)).1
        ≡ (if b then whole_table a.routes dst a.epoch else collecting a dst act (and_one s p.part))
    by true = ap (λ (l : List RouteEntry). record { epoch = a.epoch; revoked = false; collected = []; active = Some (record { epoch = a.epoch; entries = l }) }) (take_all (8 * parts_of a dst) (entries_from a.routes dst) (omega arith))
    by false = refl

all-stays : (s : ℕ → Bool) (p n : ℕ) → all_came s n ≡ true → all_came (and_one s p) n ≡ true
all-stays s p zero e = refl
all-stays s p (suc n) e =
    let two = and_parts (all_came s n) (s n) e in
    rw (all-stays s p n two.0, two.1) refl

-- a part comes to a table of the set, whether it is whole or not
step : (a : Adoption) (dst : ℕ) (act : Option ActiveTable) (s : ℕ → Bool) (p : RoutePart) → is_epoch a.epoch (option_map (λ (t : ActiveTable). t.epoch) act) ≡ false → IsPartOf a dst p → (applied (after a dst act s) p).1 ≡ after a dst act (and_one s p.part)
step a dst act s p other part = by (all_came s (parts_of a dst)) refl
  where
    by : (b : Bool) → all_came s (parts_of a dst) ≡ b → (applied (if b then whole_table a.routes dst a.epoch else collecting a dst act s) p).1 ≡ after a dst act (and_one s p.part)
    by true e =
        let i = is-part a dst p.part p part in
        let epoch : p.epoch ≡ a.epoch = i.0 in
        let same : nat_eq p.epoch a.epoch ≡ true = grind (arith, nat_tests) in
        ap (λ (r : Applied × TableState). r.1) (applied-active (whole_table a.routes dst a.epoch) p (standing-new (whole_table a.routes dst a.epoch) p.epoch (omega arith) refl) same)
        ∙ sym (ap (λ b. if b then whole_table a.routes dst a.epoch else collecting a dst act (and_one s p.part)) (all-stays s p.part (parts_of a dst) e))
    by false e = step-collecting a dst act s p other part

or-none : (b : Bool) → b ≡ (b || false)
or-none true = refl
or-none false = refl

or-more : (b c d : Bool) → ((b || c) || d) ≡ (b || (c || d))
or-more true c d = refl
or-more false c d = refl

-- parts come, one after another
all-steps : (a : Adoption) (dst : ℕ) (act : Option ActiveTable) (ps : List RoutePart) (s : ℕ → Bool) → is_epoch a.epoch (option_map (λ (t : ActiveTable). t.epoch) act) ≡ false → AllByRecursion (IsPartOf a dst) ps → after_parts (after a dst act s) ps ≡ after a dst act (λ k. s k || has_part k ps)
all-steps a dst act [] s other all = λ i. after a dst act (λ k. or-none (s k) i)
all-steps a dst act (p ∷ ps) s other all =
    ap (λ (t : TableState). after_parts t ps) (step a dst act s p other all.0)
    ∙ all-steps a dst act ps (and_one s p.part) other all.1
    ∙ (λ i. after a dst act (λ k. or-more (s k) (nat_eq p.part k) (has_part k ps) i))

none-came : (es : List RouteEntry) (n a : ℕ) → came es (λ k. false) a n ≡ []
none-came es zero a = refl
none-came es (suc n) a = none-came es n (a + 1)

-- the first part of a set
first-step : (a : Adoption) (dst : ℕ) (t : TableState) (p : RoutePart) → is_before t a.epoch ≡ true → IsPartOf a dst p → (applied t p).1 ≡ after a dst t.active (and_one (λ k. false) p.part)
first-step a dst t p before part =
    let two = and_parts (nat_lt t.epoch a.epoch) (not (is_epoch a.epoch (active_epoch t))) before in
    let idle : is_epoch a.epoch (active_epoch t) ≡ false = unset (is_epoch a.epoch (active_epoch t)) two.1 in
    let earlier : t.epoch < a.epoch = let b = two.0 in grind (arith, nat_tests) in
    let i = is-part a dst p.part p part in
    let epoch : p.epoch ≡ a.epoch = i.0 in
    let u : TableState = collecting a dst t.active (λ k. false) in
    let new : nat_eq t.epoch p.epoch ≡ false = grind (arith, nat_tests) in
    let same : nat_eq a.epoch p.epoch ≡ true = grind (arith, nat_tests) in
    let mine : is_epoch p.epoch (active_epoch t) ≡ false = ap (λ e. is_epoch e (active_epoch t)) i.0 ∙ idle in
    let begun : TableState = record { epoch = p.epoch; revoked = false; collected = []; active = t.active } in
    let begins : begun ≡ u = λ j. record { epoch = i.0 j; revoked = false; collected = sym (none-came (entries_from a.routes dst) (parts_of a dst) 0) j; active = t.active } in
    ap (λ (r : Applied × TableState). r.1) (applied-next t p (later-new t p.epoch (omega arith)) mine)
    ∙ ap (λ b. (joined p.parts (record (if b then t else begun) { collected = with_part p.part p.entries (if b then t else begun).collected })).1) new
    ∙ ap (λ (v : TableState). (joined p.parts (record v { collected = with_part p.part p.entries v.collected })).1) begins
    ∙ sym (ap (λ b. (joined p.parts (record (if b then u else record u { epoch = p.epoch; revoked = false; collected = [] }) { collected = with_part p.part p.entries (if b then u else record u { epoch = p.epoch; revoked = false; collected = [] }).collected })).1) same)
    ∙ sym (ap (λ (r : Applied × TableState). r.1) (applied-next u p (standing-new u p.epoch (omega arith) refl) mine))
    ∙ step-collecting a dst t.active (λ k. false) p idle part
  where
    unset : (b : Bool) → not b ≡ true → b ≡ false
    unset true e = cc
    unset false e = refl

all-each : (s : ℕ → Bool) (n : ℕ) → ((k : ℕ) → k < n → s k ≡ true) → all_came s n ≡ true
all-each s zero each = refl
all-each s (suc n) each = rw (all-each s n (λ k l. each k (omega arith)), each n (omega arith)) refl

lacks-one : (s : ℕ → Bool) (k n : ℕ) → k < n → s k ≡ false → all_came s n ≡ false
lacks-one s k zero l e = absurd (omega arith)
lacks-one s k (suc n) l e = at (nat_eq k n) refl (λ m. lacks-one s k n m e)
  where
    off : (b : Bool) → (b && false) ≡ false
    off true = refl
    off false = refl

    at : (b : Bool) → nat_eq k n ≡ b → (k < n → all_came s n ≡ false) → (all_came s n && s n) ≡ false
    at true t h =
        let same : k ≡ n = grind (arith, nat_tests) in
        ap (λ b. all_came s n && b) (sym (ap s same) ∙ e) ∙ off (all_came s n)
    at false t h =
        let m : k < n = grind (arith, nat_tests) in
        ap (λ b. b && s n) (h m)

idle-before : (t : TableState) (epoch : ℕ) → is_before t epoch ≡ true → is_epoch epoch (active_epoch t) ≡ false
idle-before t epoch before = by (is_epoch epoch (active_epoch t)) (and_parts (nat_lt t.epoch epoch) (not (is_epoch epoch (active_epoch t))) before).1
  where
    by : (b : Bool) → not b ≡ true → b ≡ false
    by true e = cc
    by false e = refl

pub parts-whole : PartsMakeTable
parts-whole a dst t [] before all some each = let none = each 0 some in cc
parts-whole a dst t (p ∷ ps) before all some each =
    let seen : ℕ → Bool = λ k. and_one (λ j. false) p.part k || has_part k ps in
    ap (λ (u : TableState). after_parts u ps) (first-step a dst t p before all.0)
    ∙ all-steps a dst t.active ps (and_one (λ k. false) p.part) (idle-before t a.epoch before) all.1
    ∙ ap (λ b. if b then whole_table a.routes dst a.epoch else collecting a dst t.active seen) (all-each seen (parts_of a dst) each)

pub parts-missing : ActiveOnceAllStand
parts-missing a dst t [] n before all low none = refl
parts-missing a dst t (p ∷ ps) n before all low none =
    let seen : ℕ → Bool = λ k. and_one (λ j. false) p.part k || has_part k ps in
    ap (λ (u : TableState). u.active)
    (ap (λ (u : TableState). after_parts u ps) (first-step a dst t p before all.0)
    ∙ all-steps a dst t.active ps (and_one (λ k. false) p.part) (idle-before t a.epoch before) all.1
    ∙ ap (λ b. if b then whole_table a.routes dst a.epoch else collecting a dst t.active seen) (lacks-one seen n (parts_of a dst) low none))
