-- Cables without one of them: what they keep, the table of their far ends, and that they are a fabric's still.
use Rattle.std.proofs.Common.{◌≡◌, ◌≢◌, ◌<◌, ℕ, zero, suc, ◌+◌, List, [], ◌∷◌, Bool, true, false, ◌||◌, not, cond, length, set, nat_lt, Option, Some, None, refl, ap, sym, ◌∙◌, subst, true≢false, arith, if◌then◌else◌, get_or, ⊎_elim}
use Rattle.std.specs.Prelude.{position, is_some}
use Rattle.std.specs.List.{AllByRecursion, list_any, prefix_len, remove, slice_get}
use Rattle.std.proofs.Math.ListN.{length-set}
use Rattle.std.proofs.lemmas.Bool.Decides.{nat_tests}
use Rattle.net_defs.specs.declared.vertex.End.{End}
use Rattle.net_defs.specs.declared.vertex.Cable.{Cable}
use Rattle.net_defs.specs.Network.{Network, IsFabric, Apart, ends_of, far_end, has_port, same_end}
use Rattle.net_defs.proofs.Ends.{far_end-none, far_end-unused, same_end-true, same_end-refl, same_end-false}
use Rattle.port_graph.specs.Table.{is_possible, place_of_end, entry, IsTableOf}
use Rattle.port_graph.specs.Removing.{ends_at, without_end, without_cable}
use Rattle.port_graph.proofs.Fabrics.{is_some-position}
use Rattle.port_graph.proofs.Tables.{place_of_end-lt, sizes, write_other, write_same}

-- a place that was found is the number of elements before it, and there is an element
position-place : {X : Type 0} (p : X → Bool) (xs : List X) (k : ℕ) → Some k ≡ position p xs → (k ≡ prefix_len (λ x. not (p x)) xs) × (k < length xs)
position-place p xs k found = by (nat_lt (prefix_len (λ x. not (p x)) xs) (length xs)) refl found
  where
    by : (b : Bool) → nat_lt (prefix_len (λ x. not (p x)) xs) (length xs) ≡ b → Some k ≡ cond b (Some (prefix_len (λ x. not (p x)) xs)) None → (k ≡ prefix_len (λ x. not (p x)) xs) × (k < length xs)
    by true lt e =
        let same : k ≡ prefix_len (λ x. not (p x)) xs = cc in
        (same, grind (arith, nat_tests, same, lt))
    by false lt e = cc

one_more : (n : ℕ) → 1 + n ≡ suc n
one_more n = omega arith

-- the cables without the one at that place are those without the end
remove-first : (e : End) (cs : List Cable) → remove cs (prefix_len (λ c. not (ends_at e c)) cs) ≡ without_end cs e
remove-first e [] = refl
remove-first e (c ∷ cs) = by (ends_at e c) (remove-first e cs)
  where
    by : (b : Bool) → remove cs (prefix_len (λ c. not (ends_at e c)) cs) ≡ without_end cs e
        → remove (c ∷ cs) (cond (not b) (1 + prefix_len (λ c. not (ends_at e c)) cs) 0) ≡ (if b then cs else c ∷ without_end cs e)
    by true rest = refl
    by false rest = ap (λ n. remove (c ∷ cs) n) (one_more (prefix_len (λ c. not (ends_at e c)) cs)) ∙ ap (λ l. c ∷ l) rest

-- where no place is found, nothing goes
none-without : (e : End) (cs : List Cable) → list_any (ends_at e) cs ≡ false → without_end cs e ≡ cs
none-without e [] none = refl
none-without e (c ∷ cs) none = by (ends_at e c) none (none-without e cs)
  where
    by : (b : Bool) → (b || list_any (ends_at e) cs) ≡ false → (list_any (ends_at e) cs ≡ false → without_end cs e ≡ cs) → (if b then cs else c ∷ without_end cs e) ≡ c ∷ cs
    by true h rest = absurd (true≢false h)
    by false h rest = ap (λ l. c ∷ l) (rest h)

pub without_end-unused : (e : End) (cs : List Cable) (o : Option ℕ) → ((k : ℕ) → o ≢ Some k) → o ≡ position (ends_at e) cs → without_end cs e ≡ cs
without_end-unused e cs None lacks found = none-without e cs (sym (is_some-position (ends_at e) cs) ∙ ap is_some (sym found))
without_end-unused e cs (Some k) lacks found = absurd (lacks k refl)

-- the element that is read at a place
get-read : {X : Type 0} (xs : List X) (k : ℕ) (d : X) → k < length xs → d ≡ get_or xs k d → slice_get xs k ≡ Some d
get-read [] k d lt e = absurd (omega arith)
get-read (x ∷ xs) zero d lt e = ap Some (sym e)
get-read (x ∷ xs) (suc k) d lt e = get-read xs k d (omega arith) e

-- the cable at the place that was found, and what its removal leaves
pub found-cable : (e : End) (cs : List Cable) (o : Option ℕ) (k : ℕ) (c : Cable) → o ≡ Some k → o ≡ position (ends_at e) cs → c ≡ get_or cs k c → slice_get cs k ≡ Some c
found-cable e cs o k c is found read = get-read cs k c (position-place (ends_at e) cs k (sym is ∙ found)).1 read

pub found-removed : (e : End) (cs : List Cable) (o : Option ℕ) (k : ℕ) → o ≡ Some k → o ≡ position (ends_at e) cs → remove cs k ≡ without_end cs e
found-removed e cs o k is found = ap (remove cs) (position-place (ends_at e) cs k (sym is ∙ found)).0 ∙ remove-first e cs

-- what holds of each end holds of the ends of a cable
ends-nth : (P : End → Type 0) (cs : List Cable) (k : ℕ) (c : Cable) → AllByRecursion P (ends_of cs) → slice_get cs k ≡ Some c → P c.a × P c.b
ends-nth P [] k c all at = cc
ends-nth P (d ∷ ds) zero c all at =
    let same : d ≡ c = cc in
    subst (λ x. P x.a × P x.b) same (all.0, all.1.0)
ends-nth P (d ∷ ds) (suc k) c all at = ends-nth P ds k c all.1.1 at

two-ends : (cs : List Cable) (k : ℕ) (c : Cable) → Apart (ends_of cs) → slice_get cs k ≡ Some c → c.a ≢ c.b
two-ends [] k c apart at = cc
two-ends (d ∷ ds) zero c apart at =
    let same : d ≡ c = cc in
    subst (λ x. x.a ≢ x.b) same apart.0.0
two-ends (d ∷ ds) (suc k) c apart at = two-ends ds k c apart.1.1 at

-- the ends of a cable that is gone have no far end
far_end-gone : (cs : List Cable) (k : ℕ) (c : Cable) → Apart (ends_of cs) → slice_get cs k ≡ Some c → (far_end (remove cs k) c.a ≡ None) × (far_end (remove cs k) c.b ≡ None)
far_end-gone [] k c apart at = cc
far_end-gone (d ∷ ds) zero c apart at =
    let same : d ≡ c = cc in
    subst (λ x. (far_end ds x.a ≡ None) × (far_end ds x.b ≡ None)) same (far_end-none ds d.a apart.0.1, far_end-none ds d.b apart.1.0)
far_end-gone (d ∷ ds) (suc k) c apart at =
    let rest = far_end-gone ds k c apart.1.1 at in
    let not_a = ends-nth (λ x. d.a ≢ x) ds k c apart.0.1 at in
    let not_b = ends-nth (λ x. d.b ≢ x) ds k c apart.1.0 at in
    (rw (same_end-false d.a c.a not_a.0, same_end-false d.b c.a not_b.0) rest.0, rw (same_end-false d.a c.b not_a.1, same_end-false d.b c.b not_b.1) rest.1)

-- and every other end has the one that it had
far_end-left : (cs : List Cable) (k : ℕ) (c : Cable) (e : End) → slice_get cs k ≡ Some c → same_end c.a e ≡ false → same_end c.b e ≡ false → far_end (remove cs k) e ≡ far_end cs e
far_end-left [] k c e at na nb = cc
far_end-left (d ∷ ds) zero c e at na nb =
    let same : c ≡ d = cc in
    let a : same_end d.a e ≡ false = subst (λ x. same_end x.a e ≡ false) same na in
    let b : same_end d.b e ≡ false = subst (λ x. same_end x.b e ≡ false) same nb in
    rw (a, b) refl
far_end-left (d ∷ ds) (suc k) c e at na nb =
    ap (λ o. if same_end d.a e then Some d.b else if same_end d.b e then Some d.a else o) (far_end-left ds k c e at na nb)

-- a table that has a cable is full
table-full : (cs : List Cable) (table : List (Option End)) (k : ℕ) (c : Cable) → IsTableOf cs table → is_possible c.a ≡ true → slice_get cs k ≡ Some c → length table ≡ 1152
table-full cs table k c is possible at = ⊎_elim (λ e. absurd (empty table e (is.far_ends c.a possible))) (λ e. e) (sizes table is.size)
  where
    used : far_end cs c.a ≢ None
    used none = (ends-nth (λ x. c.a ≢ x) cs k c (far_end-unused cs c.a none) at).0 refl

    empty : (t : List (Option End)) → length t ≡ 0 → entry t c.a ≢ far_end cs c.a
    empty [] e same = used (sym same)
    empty (x ∷ xs) e same = absurd (omega (arith, e))

-- the table after a cable is gone
pub table-removed : (cs : List Cable) (table : List (Option End)) (k : ℕ) (c : Cable) → IsTableOf cs table → Apart (ends_of cs) → AllByRecursion (λ e. is_possible e ≡ true) (ends_of cs) → slice_get cs k ≡ Some c
    → IsTableOf (remove cs k) (set (set table (place_of_end c.a) None) (place_of_end c.b) None)
table-removed cs table k c is apart possible at = record {
  size = rw (length-set, length-set, full) refl;
  far_ends = λ e pe. by e pe (same_end c.a e) (same_end c.b e) refl refl;
}
  where
    ends : (is_possible c.a ≡ true) × (is_possible c.b ≡ true)
    ends = ends-nth (λ e. is_possible e ≡ true) cs k c possible at

    full : length table ≡ 1152
    full = table-full cs table k c is ends.0 at

    differ : c.a ≢ c.b
    differ = two-ends cs k c apart at

    gone : (far_end (remove cs k) c.a ≡ None) × (far_end (remove cs k) c.b ≡ None)
    gone = far_end-gone cs k c apart at

    by : (e : End) → is_possible e ≡ true → (s t : Bool) → same_end c.a e ≡ s → same_end c.b e ≡ t → entry (set (set table (place_of_end c.a) None) (place_of_end c.b) None) e ≡ far_end (remove cs k) e
    by e pe true t is_a is_b =
        subst (λ d. entry (set (set table (place_of_end c.a) None) (place_of_end c.b) None) d ≡ far_end (remove cs k) d) (same_end-true c.a e is_a)
        (write_other (set table (place_of_end c.a) None) c.b c.a None ends.1 ends.0 (λ q. differ (sym q)) ∙ write_same table c.a None ends.0 full ∙ sym gone.0)
    by e pe false true is_a is_b =
        subst (λ d. entry (set (set table (place_of_end c.a) None) (place_of_end c.b) None) d ≡ far_end (remove cs k) d) (same_end-true c.b e is_b)
        (write_same (set table (place_of_end c.a) None) c.b None ends.1 (length-set table (place_of_end c.a) None ∙ full) ∙ sym gone.1)
    by e pe false false is_a is_b =
        let far_a : c.a ≢ e = λ q. true≢false (sym (same_end-refl c.a) ∙ ap (same_end c.a) q ∙ is_a) in
        let far_b : c.b ≢ e = λ q. true≢false (sym (same_end-refl c.b) ∙ ap (same_end c.b) q ∙ is_b) in
        write_other (set table (place_of_end c.a) None) c.b e None ends.1 pe far_b
        ∙ write_other table c.a e None ends.0 pe far_a
        ∙ is.far_ends e pe
        ∙ sym (far_end-left cs k c e at is_a is_b)

-- both places of a cable stand in the table
pub places-there : (cs : List Cable) (table : List (Option End)) (k : ℕ) (c : Cable) → IsTableOf cs table → AllByRecursion (λ e. is_possible e ≡ true) (ends_of cs) → slice_get cs k ≡ Some c
    → (place_of_end c.a < length table) × (place_of_end c.b < length table)
places-there cs table k c is possible at =
    let ends = ends-nth (λ e. is_possible e ≡ true) cs k c possible at in
    let full : length table ≡ 1152 = table-full cs table k c is ends.0 at in
    (rw full (place_of_end-lt c.a ends.0), rw full (place_of_end-lt c.b ends.1))

-- what holds of each end, without a cable
all-without : (P : End → Type 0) (cs : List Cable) (e : End) → AllByRecursion P (ends_of cs) → AllByRecursion P (ends_of (without_end cs e))
all-without P [] e all = tt
all-without P (c ∷ cs) e all = by (ends_at e c) (all-without P cs e all.1.1)
  where
    by : (b : Bool) → AllByRecursion P (ends_of (without_end cs e)) → AllByRecursion P (ends_of (if b then cs else c ∷ without_end cs e))
    by true rest = all.1.1
    by false rest = (all.0, (all.1.0, rest))

apart-without : (cs : List Cable) (e : End) → Apart (ends_of cs) → Apart (ends_of (without_end cs e))
apart-without [] e apart = tt
apart-without (c ∷ cs) e apart = by (ends_at e c) (apart-without cs e apart.1.1)
  where
    by : (b : Bool) → Apart (ends_of (without_end cs e)) → Apart (ends_of (if b then cs else c ∷ without_end cs e))
    by true rest = apart.1.1
    by false rest = ((apart.0.0, all-without (λ y. c.a ≢ y) cs e apart.0.1), (all-without (λ y. c.b ≢ y) cs e apart.1.0, rest))

-- a fabric without a cable is one
pub fabric-without_cable : (n : Network) (e : End) → IsFabric n → IsFabric (without_cable n e)
fabric-without_cable n e f = record {
  few_hosts = f.few_hosts;
  few_switches = f.few_switches;
  names_apart = f.names_apart;
  port_counts = f.port_counts;
  cabled_ports = all-without (λ d. has_port n d ≡ true) n.cables e f.cabled_ports;
  ports_once = apart-without n.cables e f.ports_once;
}
