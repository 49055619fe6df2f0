-- What a table has of a host's parts: it is active, or has collected some of them, and lacks others; what comes next leaves it so.
use Rattle.std.proofs.Common.{◌≡◌, ◌<◌, ◌≤◌, ◌+◌, ℕ, zero, suc, Bool, true, false, List, [], ◌∷◌, ◌++◌, nat_eq, nat_lt, Option, Some, None, is_some, option_map, ◌⊎◌, inl, inr, refl, sym, ap, ◌∙◌, subst, arith, true≢false, if◌then◌else◌}
use Rattle.std.specs.List.{AllByRecursion, range_with_len}
use Rattle.std.specs.Map.{lookup}
use Rattle.std.proofs.lemmas.Bool.Decides.{nat_tests}
use Rattle.world_defs.specs.Mapping.{RouteEntry, RoutePart}
use Rattle.world_defs.specs.declared.applied.Applied.{Applied}
use Rattle.world_defs.specs.declared.applied.Applied.TheVariants.{Active, Old}
use Rattle.world_defs.specs.Table.{ActiveTable, TableState, with_part, of_epoch, collected_with, joined_or, joined_below, is_epoch, active_epoch, is_old, applied}

abbrev Numbered : Type 0
Numbered = ℕ × List RouteEntry

-- It has collected a part of an epoch, and not all of so many.
pub record HasCollected (number count part : ℕ) (t : TableState) : Type 0 where
  pub epoch : t.epoch ≡ number
  pub there : is_some (lookup (nat_eq part) t.collected) ≡ true
  pub lacks : joined_below count t.collected ≡ None

-- it is active, or has collected a part
abbrev pub Has : ℕ → ℕ → ℕ → TableState → Type 0
Has number count part t = (is_some t.active ≡ true) ⊎ HasCollected number count part t

-- what it has of the parts it keeps
pub record TableGrows (number count : ℕ) (t u : TableState) : Type 0 where
  pub active : is_some t.active ≡ true → is_some u.active ≡ true
  pub parts : (part : ℕ) → Has number count part t → Has number count part u

pub grows-same-table : (number count : ℕ) (t u : TableState) → u ≡ t → TableGrows number count t u
grows-same-table number count t u e = record {
  active = λ a. ap (λ (x : TableState). is_some x.active) e ∙ a;
  parts = λ part h. subst (Has number count part) (sym e) h;
}

-- a part among others is there, and the others are too
with_part-here : (number : ℕ) (entries : List RouteEntry) (ps : List Numbered) → is_some (lookup (nat_eq number) (with_part number entries ps)) ≡ true
with_part-here number entries [] = let same : nat_eq number number ≡ true = grind (arith, nat_tests) in rw same refl
with_part-here number entries (p ∷ ps) = by (nat_lt number p.0) (nat_eq number p.0) refl (with_part-here number entries ps)
  where
    same : nat_eq number number ≡ true
    same = grind (arith, nat_tests)

    by : (b c : Bool) → nat_eq number p.0 ≡ c → is_some (lookup (nat_eq number) (with_part number entries ps)) ≡ true → is_some (lookup (nat_eq number) (if b then (number, entries) ∷ p ∷ ps else if c then (number, entries) ∷ ps else p ∷ with_part number entries ps)) ≡ true
    by true c e ih = rw same refl
    by false true e ih = rw same refl
    by false false e ih = ap (λ b. is_some (if b then Some p.1 else lookup (nat_eq number) (with_part number entries ps))) e ∙ ih

with_part-there : (part number : ℕ) (entries : List RouteEntry) (ps : List Numbered) → is_some (lookup (nat_eq part) ps) ≡ true → is_some (lookup (nat_eq part) (with_part number entries ps)) ≡ true
with_part-there part number entries [] has = absurd (true≢false (sym has))
with_part-there part number entries (p ∷ ps) has = by (nat_lt number p.0) (nat_eq number p.0) (nat_eq part p.0) (nat_eq part number) refl refl refl has (with_part-there part number entries ps)
  where
    Sees : List Numbered → Type 0
    Sees qs = is_some (lookup (nat_eq part) qs) ≡ true

    by : (b c d e : Bool) → nat_eq number p.0 ≡ c → nat_eq part p.0 ≡ d → nat_eq part number ≡ e
        → is_some (if d then Some p.1 else lookup (nat_eq part) ps) ≡ true
        → (Sees ps → Sees (with_part number entries ps))
        → Sees (if b then (number, entries) ∷ p ∷ ps else if c then (number, entries) ∷ ps else p ∷ with_part number entries ps)
    by true c d true q r s h ih = rw s refl
    by true c d false q r s h ih = rw s (rw r h)
    by false true d true q r s h ih = rw s refl
    by false true true false q r s h ih = absurd (grind (arith, nat_tests))
    by false true false false q r s h ih = rw s h
    by false false true e q r s h ih = rw r refl
    by false false false e q r s h ih = rw r (ih h)

-- with each part below a number there, they join
all-joined : (k : ℕ) (ps : List Numbered) → ((q : ℕ) → q < k → is_some (lookup (nat_eq q) ps) ≡ true) → is_some (joined_below k ps) ≡ true
all-joined zero ps all = refl
all-joined (suc k) ps all = by (joined_below k ps) (lookup (nat_eq k) ps) (all-joined k ps (λ q low. all q (omega (arith, low)))) (all k (omega arith))
  where
    after : Option (List RouteEntry) → List RouteEntry → Option (List RouteEntry)
    after found front = option_map (λ entries. front ++ entries) found

    by : (a b : Option (List RouteEntry)) → is_some a ≡ true → is_some b ≡ true → is_some (elim a as (λ x. Option (List RouteEntry)) [ None ↦ None | Some front ↦ after b front ]) ≡ true
    by None b e f = absurd (true≢false (sym e))
    by (Some front) None e f = absurd (true≢false (sym f))
    by (Some front) (Some entries) e f = refl

-- what comes of a part
of_epoch-epoch : (t : TableState) (epoch : ℕ) → (of_epoch t epoch).epoch ≡ epoch
of_epoch-epoch t epoch = by (nat_eq t.epoch epoch) refl
  where
    by : (b : Bool) → nat_eq t.epoch epoch ≡ b → (if b then t else record t { epoch = epoch; revoked = false; collected = [] }).epoch ≡ epoch
    by true e = grind (arith, nat_tests)
    by false e = refl

of_epoch-active : (t : TableState) (epoch : ℕ) → (of_epoch t epoch).active ≡ t.active
of_epoch-active t epoch = by (nat_eq t.epoch epoch)
  where
    by : (b : Bool) → (if b then t else record t { epoch = epoch; revoked = false; collected = [] }).active ≡ t.active
    by true = refl
    by false = refl

of_epoch-same : (t : TableState) (epoch : ℕ) → t.epoch ≡ epoch → of_epoch t epoch ≡ t
of_epoch-same t epoch e = let same : nat_eq t.epoch epoch ≡ true = grind (arith, nat_tests) in rw same refl

-- a table that has joined what it collected, or not yet
joins-has : (number count part : ℕ) (v : TableState) (o : Option (List RouteEntry)) → joined_below count v.collected ≡ o → v.epoch ≡ number → is_some (lookup (nat_eq part) v.collected) ≡ true → Has number count part (joined_or v o).1
joins-has number count part v None e one there = inr (record { epoch = one; there = there; lacks = e })
joins-has number count part v (Some entries) e one there = inl refl

joins-active : (v : TableState) (o : Option (List RouteEntry)) → is_some v.active ≡ true → is_some (joined_or v o).1.active ≡ true
joins-active v None a = a
joins-active v (Some entries) a = refl

-- what a part of an epoch leaves of a table for which it isn't old
result : TableState → RoutePart → Bool → Bool → TableState
result t p b c =
    (if b then (let r : Applied × TableState = (Old, t) in r) else if c then (Active, t) else joined_or (collected_with (of_epoch t p.epoch) p) (joined_below p.parts (collected_with (of_epoch t p.epoch) p).collected)).1

is-active : (epoch : ℕ) (o : Option ℕ) → is_epoch epoch o ≡ true → is_some o ≡ true
is-active epoch None e = absurd (true≢false (sym e))
is-active epoch (Some other) e = refl

active-some : (t : TableState) → is_some (active_epoch t) ≡ true → is_some t.active ≡ true
active-some t e = by t.active e
  where
    by : (o : Option ActiveTable) → is_some (option_map (λ (a : ActiveTable). a.epoch) o) ≡ true → is_some o ≡ true
    by None e = e
    by (Some a) e = refl

pub applied-grows : (number count : ℕ) (t : TableState) (p : RoutePart) → p.epoch ≡ number → p.parts ≡ count → TableGrows number count t (applied t p).1
unfolding applied result
applied-grows number count t p one parts = record {
  active = actives (is_old t p.epoch) (is_epoch p.epoch (active_epoch t));
  parts = λ part h. has part (is_old t p.epoch) (is_epoch p.epoch (active_epoch t)) h;
}
  where
    v : TableState
    v = collected_with (of_epoch t p.epoch) p

    actives : (b c : Bool) → is_some t.active ≡ true → is_some (result t p b c).active ≡ true
    actives true c a = a
    actives false true a = a
    actives false false a = joins-active v (joined_below p.parts v.collected) (ap is_some (of_epoch-active t p.epoch) ∙ a)

    has : (part : ℕ) (b c : Bool) → Has number count part t → Has number count part (result t p b c)
    has part b c (inl a) = inl (actives b c a)
    has part true c (inr k) = inr k
    has part false true (inr k) = inr k
    has part false false (inr k) =
        let same : of_epoch t p.epoch ≡ t = of_epoch-same t p.epoch (k.epoch ∙ sym one) in
        joins-has number count part v (joined_below p.parts v.collected) (ap (λ n. joined_below n v.collected) (sym parts)) (of_epoch-epoch t p.epoch ∙ one)
        (with_part-there part p.part p.entries (of_epoch t p.epoch).collected (ap (λ (x : TableState). is_some (lookup (nat_eq part) x.collected)) same ∙ k.there))

pub applied-takes : (number count : ℕ) (t : TableState) (p : RoutePart) → p.epoch ≡ number → p.parts ≡ count → is_old t number ≡ false → Has number count p.part (applied t p).1
unfolding applied result
applied-takes number count t p one parts due = by (is_old t p.epoch) (is_epoch p.epoch (active_epoch t)) refl refl
  where
    v : TableState
    v = collected_with (of_epoch t p.epoch) p

    by : (b c : Bool) → is_old t p.epoch ≡ b → is_epoch p.epoch (active_epoch t) ≡ c → Has number count p.part (result t p b c)
    by true c e f = absurd (true≢false (sym e ∙ ap (is_old t) one ∙ due))
    by false true e f = inl (active-some t (is-active p.epoch (active_epoch t) f))
    by false false e f =
        joins-has number count p.part v (joined_below p.parts v.collected) (ap (λ n. joined_below n v.collected) (sym parts)) (of_epoch-epoch t p.epoch ∙ one) (with_part-here p.part p.entries (of_epoch t p.epoch).collected)

-- each of a range
range-each : (P : ℕ → Type 0) (k from : ℕ) → AllByRecursion P (range_with_len from k) → (q : ℕ) → from ≤ q → q < from + k → P q
range-each P zero from all q low high = absurd (omega (arith, low, high))
range-each P (suc k) from all q low high = by (nat_eq q from) refl (λ above. range-each P k (from + 1) all.1 q above (omega (arith, high)))
  where
    by : (b : Bool) → nat_eq q from ≡ b → (from + 1 ≤ q → P q) → P q
    by true e rest = let same : from ≡ q = grind (arith, nat_tests) in subst P same all.0
    by false e rest = let above : from + 1 ≤ q = grind (arith, nat_tests) in rest above

-- a table that has each of its parts is active
pub whole-active : (number count : ℕ) (t : TableState) → 0 < count → AllByRecursion (λ q. Has number count q t) (range_with_len 0 count) → is_some t.active ≡ true
whole-active number count t some all = by (is_some t.active) refl
  where
    each : (q : ℕ) → q < count → Has number count q t
    each q low = range-each (λ k. Has number count k t) count 0 all q (omega arith) (omega (arith, low))

    collected : is_some t.active ≡ false → (q : ℕ) → q < count → HasCollected number count q t
    collected e q low = of (each q low)
      where
        of : Has number count q t → HasCollected number count q t
        of (inl a) = absurd (true≢false (sym a ∙ e))
        of (inr k) = k

    by : (b : Bool) → is_some t.active ≡ b → is_some t.active ≡ true
    by true e = e
    by false e =
        let first : HasCollected number count 0 t = collected e 0 some in
        let joined : is_some (joined_below count t.collected) ≡ true = all-joined count t.collected (λ q low. (collected e q low).there) in
        absurd (true≢false (sym joined ∙ ap is_some first.lacks))
