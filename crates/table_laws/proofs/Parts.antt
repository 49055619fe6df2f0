-- Parts of one table that are all there make it whole, and a part of the set leaves a table of the set.
use Rattle.std.proofs.Common.{◌≡◌, ◌<◌, ◌≤◌, ◌⊎◌, inl, inr, ◌+◌, ◌*◌, ℕ, zero, suc, List, [], ◌∷◌, ◌++◌, Bool, true, false, ◌&&◌, ◌||◌, length, nat_eq, nat_lt, take, Option, Some, None, IfSome, option_map, refl, ap, sym, ◌∙◌, subst, arith, true≢false, if◌then◌else◌}
use Rattle.std.specs.List.{AllByRecursion}
use Rattle.std.specs.Map.{lookup}
use Rattle.std.proofs.lemmas.Bool.{and_from}
use Rattle.std.proofs.lemmas.Bool.Decides.{nat_tests}
use Rattle.std.proofs.Math.Seq.{take-add}
use Rattle.std.proofs.lemmas.List.{take_all}
use Rattle.std.proofs.lemmas.Option.{same_Some}
use Rattle.world_defs.specs.Mapping.{RouteEntry, RoutePart}
use Rattle.gm_defs.proofs.Choices.{then-some, map-some}
use Rattle.world_defs.specs.declared.applied.Applied.{Applied}
use Rattle.world_defs.specs.Table.{Adoption, TableState, epoch_in, entries_from, part_count, part_entries, with_part, joined_below, of_epoch, collected_with, joined_or, applied, is_epoch, active_epoch, is_old}
use Rattle.table_laws.specs.Set.{IsPartOfSet, IsActive, IsCollected, IsBare, IsTable}
use Rattle.table_laws.specs.Laws.{JoinedIsWhole, PartKeepsTable}

abbrev Numbered : Type 0
Numbered = ℕ × List RouteEntry

lookup-fits : (whole : List RouteEntry) (n : ℕ) (ps : List Numbered) (es : List RouteEntry) → AllByRecursion (λ p. p.1 ≡ part_entries whole p.0) ps → lookup (nat_eq n) ps ≡ Some es → es ≡ part_entries whole n
lookup-fits whole n [] es all e = cc
lookup-fits whole n (p ∷ ps) es all e = by (nat_eq n p.0) refl e (lookup-fits whole n ps es all.1)
  where
    by : (b : Bool) → nat_eq n p.0 ≡ b → (if b then Some p.1 else lookup (nat_eq n) ps) ≡ Some es → (lookup (nat_eq n) ps ≡ Some es → es ≡ part_entries whole n) → es ≡ part_entries whole n
    by true t d ih = let same : n ≡ p.0 = grind (arith, nat_tests) in sym (same_Some p.1 es d) ∙ all.0 ∙ ap (part_entries whole) (sym same)
    by false t d ih = ih d

joined-fits : (whole : List RouteEntry) (n : ℕ) (ps : List Numbered) (es : List RouteEntry) → AllByRecursion (λ p. p.1 ≡ part_entries whole p.0) ps → joined_below n ps ≡ Some es → es ≡ take (8 * n) whole
joined-fits whole zero ps es all e = sym (same_Some [] es e)
joined-fits whole (suc n) ps es all e =
    let t = then-some (λ front. option_map (λ entries. front ++ entries) (lookup (nat_eq n) ps)) (joined_below n ps) es e in
    let m = map-some (λ entries. t.0 ++ entries) (lookup (nat_eq n) ps) es t.1.1 in
    let front : t.0 ≡ take (8 * n) whole = joined-fits whole n ps t.0 all t.1.0 in
    let last : m.0 ≡ part_entries whole n = lookup-fits whole n ps m.0 all m.1.0 in
    let next : 8 * n + 8 ≡ 8 * suc n = omega arith in
    sym m.1.1 ∙ (λ i. front i ++ last i) ∙ sym (take-add (8 * n) 8 whole) ∙ ap (λ k. take k whole) next

pub joined-whole : JoinedIsWhole
joined-whole whole ps es all e = joined-fits whole (part_count (length whole)) ps es all e ∙ take_all (8 * part_count (length whole)) whole (omega arith)

-- one part more among parts of the set
with_part-all : (P : Numbered → Type 0) (number : ℕ) (entries : List RouteEntry) (ps : List Numbered) → P (number, entries) → AllByRecursion P ps → AllByRecursion P (with_part number entries ps)
with_part-all P number entries [] new all = (new, tt)
with_part-all P number entries (p ∷ ps) new all = by (nat_lt number p.0) (nat_eq number p.0) (with_part-all P number entries ps new all.1)
  where
    by : (b c : Bool) → AllByRecursion P (with_part number entries ps) → AllByRecursion P (if b then (number, entries) ∷ p ∷ ps else if c then (number, entries) ∷ ps else p ∷ with_part number entries ps)
    by true c ih = (new, all)
    by false true ih = (new, all.1)
    by false false ih = (all.0, ih)

-- what a host has of the set as it collects a part of it: its mark is gone, and what is active and collected are the set's
record IsTaking (o : Option Adoption) (host epoch : ℕ) (t : TableState) : Type 0 where
  now : t.epoch ≡ epoch
  unrevoked : t.revoked ≡ false
  active : IfSome t.active (IsActive o host)
  collected : AllByRecursion (IsCollected o host) t.collected

of_epoch-taking : (o : Option Adoption) (host : ℕ) (t : TableState) (epoch : ℕ) → (nat_eq epoch t.epoch && t.revoked) ≡ false → IsTable o host t → IsTaking o host epoch (of_epoch t epoch)
of_epoch-taking o host t epoch unmarked is = by (nat_eq t.epoch epoch) t.revoked refl refl
  where
    by : (b m : Bool) → nat_eq t.epoch epoch ≡ b → t.revoked ≡ m → IsTaking o host epoch (if b then t else record t { epoch = epoch; revoked = false; collected = [] })
    by true true e f =
        let same : nat_eq epoch t.epoch ≡ true = grind (arith, nat_tests) in
        absurd (true≢false (sym (and_from (nat_eq epoch t.epoch) t.revoked same f) ∙ unmarked))
    by true false e f = record { now = grind (arith, nat_tests); unrevoked = f; active = is.active; collected = is.collected }
    by false m e f = record { now = refl; unrevoked = refl; active = is.active; collected = tt }

taking-table : (o : Option Adoption) (host epoch : ℕ) (t : TableState) → epoch ≡ epoch_in o → IsTaking o host epoch t → IsTable o host t
taking-table o host epoch t same is =
    let here : t.epoch ≡ epoch_in o = is.now ∙ same in
    record {
      no_later = omega (arith, here);
      no_earlier = omega (arith, here);
      before = λ low. absurd (omega (arith, here, low));
      bare = none_left here;
      active = is.active;
      collected = is.collected;
    }
  where
    none_left : t.epoch ≡ epoch_in o → (t.epoch < epoch_in o) ⊎ (t.revoked ≡ true) → IsBare t
    none_left here (inl low) = absurd (omega (arith, here, low))
    none_left here (inr marked) = absurd (true≢false (sym marked ∙ is.unrevoked))

joined-taking : (a : Adoption) (host : ℕ) (t : TableState) (p : RoutePart) (r : Option (List RouteEntry)) → IsPartOfSet a.epoch a.routes host p → IsTaking (Some a) host a.epoch t → joined_below p.parts t.collected ≡ r → IsTaking (Some a) host a.epoch (joined_or t r).1
joined-taking a host t p None part is e = is
joined-taking a host t p (Some es) part is e = record {
  now = is.now;
  unrevoked = is.unrevoked;
  active = record {
    epoch = is.now;
    entries = joined-whole (entries_from a.routes host) t.collected es is.collected (ap (λ n. joined_below n t.collected) (sym part.parts) ∙ e);
  };
  collected = tt;
}

-- a part of an epoch before the set's is old
old-part : (a : Adoption) (host : ℕ) (t : TableState) (epoch : ℕ) → 0 < epoch → epoch < a.epoch → IsTable (Some a) host t → is_old t epoch ≡ true
old-part a host t epoch some low is = by (nat_lt epoch t.epoch) (nat_eq epoch t.epoch) refl refl
  where
    marked : (t.epoch ≡ 0) ⊎ (t.revoked ≡ true) → nat_eq epoch t.epoch ≡ true → t.revoked ≡ true
    marked (inl unseen) e =
        let same : epoch ≡ t.epoch = grind (arith, nat_tests) in
        absurd (omega (arith, same, unseen, some))
    marked (inr m) e = m

    by : (b c : Bool) → nat_lt epoch t.epoch ≡ b → nat_eq epoch t.epoch ≡ c → (b || (c && t.revoked)) ≡ true
    by true c e f = refl
    by false true e f =
        let same : epoch ≡ t.epoch = grind (arith, nat_tests) in
        let before : t.epoch < a.epoch = omega (arith, same, low) in
        marked (is.before before) f
    by false false e f =
        let near : a.epoch ≤ t.epoch + 1 = is.no_earlier in
        let l = low in
        absurd (grind (arith, nat_tests))

applied-set : (a : Adoption) (host : ℕ) (t : TableState) (p : RoutePart) → IsPartOfSet a.epoch a.routes host p → IsTable (Some a) host t → IsTable (Some a) host (applied t p).1
unfolding applied
applied-set a host t p part is = by (nat_lt p.epoch t.epoch) (nat_eq p.epoch t.epoch && t.revoked) (is_epoch p.epoch (active_epoch t)) refl
  where
    u : TableState
    u = of_epoch t p.epoch

    v : TableState
    v = collected_with u p

    now : IsTaking (Some a) host a.epoch u → IsTaking (Some a) host a.epoch v
    now was = record {
      now = was.now;
      unrevoked = was.unrevoked;
      active = was.active;
      collected = with_part-all (IsCollected (Some a) host) p.part p.entries u.collected part.entries was.collected;
    }

    by : (b m c : Bool) → (nat_eq p.epoch t.epoch && t.revoked) ≡ m → IsTable (Some a) host (if b || m then (let r : Applied × TableState = (Applied.Old, t) in r) else if c then (Applied.Active, t) else joined_or v (joined_below p.parts v.collected)).1
    by true m c e = is
    by false true c e = is
    by false false true e = is
    by false false false e =
        let was : IsTaking (Some a) host a.epoch u = subst (λ k. IsTaking (Some a) host k u) part.epoch (of_epoch-taking (Some a) host t p.epoch e is) in
        taking-table (Some a) host a.epoch (joined_or v (joined_below p.parts v.collected)).1 refl (joined-taking a host v p (joined_below p.parts v.collected) part (now was) refl)

applied-old : (t : TableState) (p : RoutePart) → is_old t p.epoch ≡ true → (applied t p).1 ≡ t
unfolding applied
applied-old t p e = by (is_old t p.epoch) e
  where
    u : TableState
    u = collected_with (of_epoch t p.epoch) p

    by : (b : Bool) → b ≡ true → (if b then (let r : Applied × TableState = (Applied.Old, t) in r) else if is_epoch p.epoch (active_epoch t) then (Applied.Active, t) else joined_or u (joined_below p.parts u.collected)).1 ≡ t
    by true e = refl
    by false e = absurd (true≢false (sym e))

pub applied-table : PartKeepsTable
applied-table None host t p part is = absurd part
applied-table (Some a) host t p (inl low) is = subst (IsTable (Some a) host) (sym (applied-old t p (old-part a host t p.epoch low.0 low.1 is))) is
applied-table (Some a) host t p (inr part) is = applied-set a host t p part is
