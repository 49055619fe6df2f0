-- Entries that rise by port, and where one stands among them.
use Rattle.std.proofs.Common.{◌≡◌, ◌<◌, ◌≤◌, ℕ, zero, suc, List, [], ◌∷◌, Bool, true, false, ◌&&◌, length, nat_eq, nat_lt, get_or, Option, Some, None, refl, sym, ◌∙◌, subst, arith, if◌then◌else◌, ◌⊎◌, inl, inr}
use Rattle.std.specs.Prelude.{ℤ, slice_get, int_lt}
use Rattle.std.specs.List.{AllByRecursion}
use Rattle.std.proofs.lemmas.Bool.{false≢true, and_parts, and_from, or_cases, ltb-true}
use Rattle.std.proofs.lemmas.Bool.Decides.{nat_tests, Decides-eqb}
use Rattle.std.proofs.lemmas.Int.{ints}
use Rattle.net_defs.proofs.Distinct.{all-weaker}
use Rattle.journal_defs.proofs.Order.{or-left, or-right}
use Rattle.map_defs.specs.declared.rank.RankEntry.{RankEntry}
use Rattle.map_defs.specs.NetMap.{MapPort, same_port, port_below}
use Rattle.map_defs.specs.Ranks.{rank_of}
use Rattle.map_defs.proofs.Ports.{same_port-true}
use Rattle.rank_cert.specs.Listing.{port_of, comes_after, rise_after, rank_at}

-- the order of ports by cases
lt_irrefl : (s : ℤ) → int_lt s s ≡ false
lt_irrefl s = grind (arith, ints)

lt_trans : (r s t : ℤ) → int_lt r s ≡ true → int_lt s t ≡ true → int_lt r t ≡ true
lt_trans r s t e f = grind (arith, ints)

below-cases : (d e : MapPort) → port_below d e ≡ true → (d.v < e.v) ⊎ ((d.v ≡ e.v) × (int_lt d.p e.p ≡ true))
below-cases d e t = by (or_cases (nat_lt d.v e.v) (nat_eq d.v e.v && int_lt d.p e.p) t)
  where
    by : (nat_lt d.v e.v ≡ true) ⊎ ((nat_eq d.v e.v && int_lt d.p e.p) ≡ true) → (d.v < e.v) ⊎ ((d.v ≡ e.v) × (int_lt d.p e.p ≡ true))
    by (inl h) = inl (ltb-true d.v e.v h)
    by (inr h) = let two = and_parts (nat_eq d.v e.v) (int_lt d.p e.p) h in inr ((Decides-eqb d.v e.v).0 two.0, two.1)

less-test : (a b : ℕ) → a < b → nat_lt a b ≡ true
less-test a b l = grind (arith, nat_tests)

from-cases : (d e : MapPort) → (d.v < e.v) ⊎ ((d.v ≡ e.v) × (int_lt d.p e.p ≡ true)) → port_below d e ≡ true
from-cases d e (inl l) = or-left (nat_lt d.v e.v) (nat_eq d.v e.v && int_lt d.p e.p) (less-test d.v e.v l)
from-cases d e (inr h) = or-right (nat_lt d.v e.v) (nat_eq d.v e.v && int_lt d.p e.p) (and_from (nat_eq d.v e.v) (int_lt d.p e.p) ((Decides-eqb d.v e.v).1 h.0) h.1)

below-trans : (a b c : MapPort) → port_below a b ≡ true → port_below b c ≡ true → port_below a c ≡ true
below-trans a b c e f = from-cases a c (by (below-cases a b e) (below-cases b c f))
  where
    by : (a.v < b.v) ⊎ ((a.v ≡ b.v) × (int_lt a.p b.p ≡ true)) → (b.v < c.v) ⊎ ((b.v ≡ c.v) × (int_lt b.p c.p ≡ true)) → (a.v < c.v) ⊎ ((a.v ≡ c.v) × (int_lt a.p c.p ≡ true))
    by (inl l) (inl k) = inl (omega arith)
    by (inl l) (inr k) = inl (subst (λ n. a.v < n) k.0 l)
    by (inr l) (inl k) = inl (subst (λ n. n < c.v) (sym l.0) k)
    by (inr l) (inr k) = inr (l.0 ∙ k.0, lt_trans a.p b.p c.p l.1 k.1)

below-irrefl : (a : MapPort) → port_below a a ≡ true → ⊥
below-irrefl a e = by (below-cases a a e)
  where
    by : (a.v < a.v) ⊎ ((a.v ≡ a.v) × (int_lt a.p a.p ≡ true)) → ⊥
    by (inl l) = omega arith
    by (inr h) = false≢true (sym (lt_irrefl a.p) ∙ h.1)

below-other : (a b : MapPort) → port_below a b ≡ true → same_port a b ≡ false
below-other a b e = by (same_port a b) refl
  where
    by : (t : Bool) → same_port a b ≡ t → same_port a b ≡ false
    by true p = absurd (below-irrefl a (subst (λ x. port_below a x ≡ true) (sym (same_port-true a b p)) e))
    by false p = p

-- neither below nor the same: above
above-trans : (d a b : MapPort) → port_below a d ≡ false → port_below a b ≡ true → same_port b d ≡ false
above-trans d a b e f = by (same_port b d) refl
  where
    by : (t : Bool) → same_port b d ≡ t → same_port b d ≡ false
    by true p = absurd (false≢true (sym e ∙ subst (λ x. port_below a x ≡ true) (same_port-true b d p) f))
    by false p = p

-- each entry stands below all after it
abbrev pub AreRising : List RankEntry → Type 0
AreRising [] = Unit {0}
AreRising (k ∷ ks) = AllByRecursion (λ j. port_below (port_of k) (port_of j) ≡ true) ks × AreRising ks

after-all : (d : MapPort) (ks : List RankEntry) → rise_after (Some d) ks ≡ true → AllByRecursion (λ j. port_below d (port_of j) ≡ true) ks
after-all d [] e = tt
after-all d (k ∷ ks) e =
    let two = and_parts (port_below d (port_of k)) (rise_after (Some (port_of k)) ks) e in
    (two.0, all-weaker (λ j. port_below (port_of k) (port_of j) ≡ true) (λ j. port_below d (port_of j) ≡ true) ks (λ j f. below-trans d (port_of k) (port_of j) two.0 f) (after-all (port_of k) ks two.1))

pub rising : (before : Option MapPort) (ks : List RankEntry) → rise_after before ks ≡ true → AreRising ks
rising before [] e = tt
rising before (k ∷ ks) e =
    let two = and_parts (comes_after before (port_of k)) (rise_after (Some (port_of k)) ks) e in
    (after-all (port_of k) ks two.1, rising (Some (port_of k)) ks two.1)

-- what comes before a port in a rising list is a part at its begin
pub partitioned : (ks : List RankEntry) (d : MapPort) → AreRising ks → (i j : ℕ) (x : RankEntry) → i ≤ j → j < length ks → port_below (port_of (get_or ks j x)) d ≡ true → port_below (port_of (get_or ks i x)) d ≡ true
partitioned [] d up i j x le lt e = absurd (omega arith)
partitioned (k ∷ ks) d up zero zero x le lt e = e
partitioned (k ∷ ks) d up zero (suc j) x le lt e = below-trans (port_of k) (port_of (get_or ks j x)) d (each ks j up.0 (omega arith)) e
  where
    each : (js : List RankEntry) (i : ℕ) → AllByRecursion (λ s. port_below (port_of k) (port_of s) ≡ true) js → i < length js → port_below (port_of k) (port_of (get_or js i x)) ≡ true
    each [] i all l = absurd (omega arith)
    each (s ∷ ss) zero all l = all.0
    each (s ∷ ss) (suc i) all l = each ss i all.1 (omega arith)
partitioned (k ∷ ks) d up (suc i) zero x le lt e = absurd (omega arith)
partitioned (k ∷ ks) d up (suc i) (suc j) x le lt e = partitioned ks d up.1 i j x (omega arith) (omega arith) e

none-after : (ks : List RankEntry) (d : MapPort) → AllByRecursion (λ j. same_port (port_of j) d ≡ false) ks → rank_of ks d ≡ None
none-after [] d all = refl
none-after (k ∷ ks) d all = rw all.0 (none-after ks d all.1)

pub rank-found : (ks : List RankEntry) (d : MapPort) (n : ℕ) → AreRising ks → ((i : ℕ) (x : RankEntry) → i < n → port_below (port_of (get_or ks i x)) d ≡ true) → ((i : ℕ) (x : RankEntry) → n ≤ i → i < length ks → port_below (port_of (get_or ks i x)) d ≡ false) → rank_of ks d ≡ rank_at (slice_get ks n) d
rank-found [] d n up low high = refl
rank-found (k ∷ ks) d zero up low high =
    let here : port_below (port_of k) d ≡ false = high zero k (omega arith) (omega arith) in
    let rest : rank_of ks d ≡ None = none-after ks d (all-weaker (λ j. port_below (port_of k) (port_of j) ≡ true) (λ j. same_port (port_of j) d ≡ false) ks (λ j. above-trans d (port_of k) (port_of j) here) up.0) in
    by (same_port (port_of k) d) rest
  where
    by : (b : Bool) → rank_of ks d ≡ None → (if b then Some k.rank else rank_of ks d) ≡ (if b then Some k.rank else None)
    by true e = refl
    by false e = e
rank-found (k ∷ ks) d (suc n) up low high =
    let other : same_port (port_of k) d ≡ false = below-other (port_of k) d (low zero k (omega arith)) in
    rw other (rank-found ks d n up.1 (λ i x l. low (suc i) x (omega arith)) (λ i x l h. high (suc i) x (omega arith) (omega arith)))
