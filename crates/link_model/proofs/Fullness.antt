-- The marks of full channels, and the next of them.
use Rattle.std.proofs.Common.{◌≡◌, ◌≢◌, ◌<◌, ◌≤◌, ◌+◌, ◌-◌, ℕ, zero, suc, Bool, true, false, nat_eq, true≢false, List, length, replicate, get_or, set, Option, Some, None, is_some, refl, sym, ap, ◌∙◌, subst, arith, if◌then◌else◌}
use Rattle.std.specs.List.{find, range_with_len}
use Rattle.std.specs.Option.{IfSome, IfNone}
use Rattle.std.proofs.lemmas.Bool.Decides.{Decides-eqb}
use native.Mathlib.Decide.{dec_lt}
use Rattle.std.proofs.lemmas.List.{get_or-set_same, get_or-set_other}
use Rattle.std.proofs.Math.ListN.{length-set, get_or-eq_default}
use Rattle.world_defs.specs.Links.{Held}
use Rattle.number_marks.specs.Marks.{mark_at, IsWritten, IsNextMark}
use Rattle.link_model.proofs.Counting.{count-put, count-take, none-counted, none-full_count}
use Rattle.link_model.specs.FullSlots.{full_of, full_count, full_from, IsLone, IsIndexed}

-- ---- the marks after a write
-- a channel is written, and its mark
pub marks-set : (ps : List (Option Held)) (old new : List ℕ) (c : ℕ) (p : Option Held) → c < length ps → ((k : ℕ) → mark_at old k ≡ full_of (get_or ps k None))
    → IsWritten old new c (full_of p) → (k : ℕ) → mark_at new k ≡ full_of (get_or (set ps c p) k None)
marks-set ps old new c p low before is k = by (nat_eq k c) refl
  where
    by : (t : Bool) → nat_eq k c ≡ t → mark_at new k ≡ full_of (get_or (set ps c p) k None)
    by true e =
        let same : k ≡ c = (Decides-eqb k c).0 e in
        ap (mark_at new) same ∙ is.here ∙ sym (ap (λ i. full_of (get_or (set ps c p) i None)) same ∙ ap full_of (get_or-set_same ps c p None low))
    by false e =
        let other : k ≢ c = λ h. true≢false (sym ((Decides-eqb k c).1 h) ∙ e) in
        is.others k other ∙ before k ∙ ap full_of (sym (get_or-set_other ps c k p None other))

-- ---- the next full channel
full-mark : (o : Option Held) → full_of o ≡ 1 → is_some o ≡ true
full-mark None e = absurd (omega (arith, e))
full-mark (Some held) e = refl

bare-mark : (o : Option Held) → full_of o ≡ 0 → is_some o ≡ false
bare-mark None e = refl
bare-mark (Some held) e = absurd (omega (arith, e))

abbrev first_of : (ℕ → Bool) → ℕ → Option ℕ → Bool → Option ℕ
first_of p from rest b = if b then Some from else rest

-- the first number of a range that passes a test
pub find-range : (p : ℕ → Bool) (n from c : ℕ) → from ≤ c → c < from + n → p c ≡ true → ((k : ℕ) → from ≤ k → k < c → p k ≡ false) → find p (range_with_len from n) ≡ Some c
find-range p zero from c low high here passed = absurd (omega arith)
find-range p (suc n) from c low high here passed =
    by (nat_eq from c) refl (λ less. find-range p n (from + 1) c (omega arith) (omega arith) here (λ k h. passed k (omega arith)))
  where
    by : (t : Bool) → nat_eq from c ≡ t → (from < c → find p (range_with_len (from + 1) n) ≡ Some c) → find p (range_with_len from (suc n)) ≡ Some c
    by true e later =
        let same : from ≡ c = (Decides-eqb from c).0 e in
        ap (first_of p from (find p (range_with_len (from + 1) n))) (ap p same ∙ here) ∙ ap Some same
    by false e later =
        let other : from ≢ c = λ h. true≢false (sym ((Decides-eqb from c).1 h) ∙ e) in
        let less : from < c = omega arith in
        ap (first_of p from (find p (range_with_len (from + 1) n))) (passed from (omega arith) less) ∙ later less

pub find-range-none : (p : ℕ → Bool) (n from : ℕ) → ((k : ℕ) → from ≤ k → p k ≡ false) → find p (range_with_len from n) ≡ None
find-range-none p zero from passed = refl
find-range-none p (suc n) from passed =
    ap (first_of p from (find p (range_with_len (from + 1) n))) (passed from (omega arith)) ∙ find-range-none p n (from + 1) (λ k h. passed k (omega arith))

-- what a find over a range says
pub find-found : (p : ℕ → Bool) (n from c : ℕ) → find p (range_with_len from n) ≡ Some c → (from ≤ c) × (c < from + n) × (p c ≡ true) × ((k : ℕ) → from ≤ k → k < c → p k ≡ false)
find-found p zero from c is = cc
find-found p (suc n) from c is = by (p from) refl (find-found p n (from + 1) c)
  where
    by : (t : Bool) → p from ≡ t → (find p (range_with_len (from + 1) n) ≡ Some c → (from + 1 ≤ c) × (c < from + 1 + n) × (p c ≡ true) × ((k : ℕ) → from + 1 ≤ k → k < c → p k ≡ false))
        → (from ≤ c) × (c < from + suc n) × (p c ≡ true) × ((k : ℕ) → from ≤ k → k < c → p k ≡ false)
    by true e later =
        let here : Some from ≡ Some c = ap (first_of p from (find p (range_with_len (from + 1) n))) (sym e) ∙ is in
        let same : from ≡ c = cc in
        (omega (arith, same), omega (arith, same), ap p (sym same) ∙ e, λ k low high. absurd (omega (arith, same)))
    by false e later =
        let rest : find p (range_with_len (from + 1) n) ≡ Some c = ap (first_of p from (find p (range_with_len (from + 1) n))) (sym e) ∙ is in
        let h = later rest in
        (omega (arith, h.0), omega (arith, h.1), h.2, passed h)
      where
        passed : (from + 1 ≤ c) × (c < from + 1 + n) × (p c ≡ true) × ((k : ℕ) → from + 1 ≤ k → k < c → p k ≡ false) → (k : ℕ) → from ≤ k → k < c → p k ≡ false
        passed h k low high = at (nat_eq from k) refl
          where
            at : (t : Bool) → nat_eq from k ≡ t → p k ≡ false
            at true z = ap p (sym ((Decides-eqb from k).0 z)) ∙ e
            at false z =
                let other : from ≢ k = λ y. true≢false (sym ((Decides-eqb from k).1 y) ∙ z) in
                h.3 k (omega arith) high

pub find-missed : (p : ℕ → Bool) (n from : ℕ) → find p (range_with_len from n) ≡ None → (k : ℕ) → from ≤ k → k < from + n → p k ≡ false
find-missed p zero from is k low high = absurd (omega arith)
find-missed p (suc n) from is k low high = by (p from) refl (find-missed p n (from + 1))
  where
    by : (t : Bool) → p from ≡ t → (find p (range_with_len (from + 1) n) ≡ None → (k : ℕ) → from + 1 ≤ k → k < from + 1 + n → p k ≡ false) → p k ≡ false
    by true e later = let here : Some from ≡ None = ap (first_of p from (find p (range_with_len (from + 1) n))) (sym e) ∙ is in cc
    by false e later = at (nat_eq from k) refl
      where
        at : (t : Bool) → nat_eq from k ≡ t → p k ≡ false
        at true z = ap p (sym ((Decides-eqb from k).0 z)) ∙ e
        at false z =
            let rest : find p (range_with_len (from + 1) n) ≡ None = ap (first_of p from (find p (range_with_len (from + 1) n))) (sym e) ∙ is in
            let other : from ≢ k = λ y. true≢false (sym ((Decides-eqb from k).1 y) ∙ z) in
            later rest k (omega arith) (omega arith)

pub none-there : (o : Option Held) → is_some o ≡ false → o ≡ None
none-there None e = refl
none-there (Some held) e = cc

-- a full channel is one of the channels
pub full-there : (ps : List (Option Held)) (c : ℕ) → full_of (get_or ps c None) ≡ 1 → c < length ps
full-there ps c e = elim (dec_lt c (length ps)) [ yes h ↦ h | no h ↦ absurd (apart (sym e ∙ ap full_of (get_or-eq_default ps None (omega (arith, h))))) ]
  where
    apart : ◌≡◌ {A = ℕ} 1 0 → ⊥
    apart z = omega (arith, z)

pub full-some : (ps : List (Option Held)) (words : List ℕ) (from c : ℕ) → ((k : ℕ) → mark_at words k ≡ full_of (get_or ps k None)) → IsNextMark words from c → full_from ps from ≡ Some c
full-some ps words from c marks is =
    let full : full_of (get_or ps c None) ≡ 1 = sym (marks c) ∙ is.marked in
    let there = full-there ps c full in
    find-range (λ k. is_some (get_or ps k None)) (length ps - from) from c is.above (omega (arith, is.above, there)) (full-mark (get_or ps c None) full)
    (λ k low high. bare-mark (get_or ps k None) (sym (marks k) ∙ is.passed k low high))

pub full-none : (ps : List (Option Held)) (words : List ℕ) (from : ℕ) → ((k : ℕ) → mark_at words k ≡ full_of (get_or ps k None)) → ((k : ℕ) → from ≤ k → mark_at words k ≡ 0) → full_from ps from ≡ None
full-none ps words from marks none = find-range-none (λ k. is_some (get_or ps k None)) (length ps - from) from (λ k low. bare-mark (get_or ps k None) (sym (marks k) ∙ none k low))

pub full-next : (ps : List (Option Held)) (words : List ℕ) (from : ℕ) (o : Option ℕ) → ((k : ℕ) → mark_at words k ≡ full_of (get_or ps k None)) → IfSome o (IsNextMark words from) → IfNone o ((k : ℕ) → from ≤ k → mark_at words k ≡ 0) → o ≡ full_from ps from
full-next ps words from None marks some none = sym (full-none ps words from marks none)
full-next ps words from (Some c) marks some none = sym (full-some ps words from c marks some)

pub full-idle : (ps : List (Option Held)) (count from : ℕ) → count ≡ full_count ps → count ≡ 0 → None ≡ full_from ps from
full-idle ps count from counted none = sym (find-range-none (λ k. is_some (get_or ps k None)) (length ps - from) from (λ k low. ap is_some (none-counted ps k (sym counted ∙ none))))

-- ---- the only full channel
lone-is : (ps : List (Option Held)) (c : ℕ) → full_count ps ≡ 1 → c < length ps → is_some (get_or ps c None) ≡ true → IsLone ps c
lone-is ps c one low full =
    let less = count-take ps c full in
    record {
      there = low;
      full = full;
      others = λ k other. sym (get_or-set_other ps c k None None other) ∙ none-counted (set ps c None) k (omega (arith, less, one));
    }

some-mark : (o : Option Held) → is_some o ≡ true → full_of o ≡ 1
some-mark None e = cc
some-mark (Some held) e = refl

pub lone-at : (ps : List (Option Held)) (words : List ℕ) (count c : ℕ) → IsIndexed ps count words → count ≡ 1 → is_some (get_or ps c None) ≡ true → IsLone ps c
lone-at ps words count c is one full = lone-is ps c (sym is.counted ∙ one) (full-there ps c (some-mark (get_or ps c None) full)) full

pub lone-next : (ps : List (Option Held)) (words : List ℕ) (count : ℕ) (o : Option ℕ) → IsIndexed ps count words → count ≡ 1 → IfSome o (IsNextMark words 0) → IfSome o (IsLone ps)
lone-next ps words count None is one found = tt
lone-next ps words count (Some c) is one found =
    let full : full_of (get_or ps c None) ≡ 1 = sym (is.marks c) ∙ found.marked in
    let counted = is.counted in
    lone-is ps c (omega (arith, counted, one)) (full-there ps c full) (full-mark (get_or ps c None) full)

pub lone-none : (ps : List (Option Held)) (words : List ℕ) (count : ℕ) (o : Option ℕ) → IsIndexed ps count words → IfNone o ((k : ℕ) → 0 ≤ k → mark_at words k ≡ 0) → IfNone o (full_count ps ≢ 1)
lone-none ps words count (Some c) is missed = tt
lone-none ps words count None is missed = λ one.
    let none = none-full_count ps (λ k. none-there (get_or ps k None) (bare-mark (get_or ps k None) (sym (is.marks k) ∙ missed k (omega arith)))) in
    absurd (omega (arith, none, one))

-- ---- the index
-- an empty list of channels has no full one
pub none-full : (n k : ℕ) → full_of (get_or (replicate n None) k None) ≡ 0
none-full zero k = refl
none-full (suc n) zero = refl
none-full (suc n) (suc k) = none-full n k

-- an empty channel gets a packet, and its mark
pub indexed-put : (ps now : List (Option Held)) (count : ℕ) (old new : List ℕ) (c : ℕ) (held : Held) → c < length ps → get_or ps c None ≡ None → IsIndexed ps count old → now ≡ set ps c (Some held) → IsWritten old new c 1 → IsIndexed now (count + 1) new
indexed-put ps now count old new c held low empty is now-is written = subst (λ l. IsIndexed l (count + 1) new) (sym now-is) (record {
  counted = ap (λ n. n + 1) is.counted ∙ count-put ps c held low empty;
  room = omega (arith, length-set {A = Option Held} ps c (Some held), is.room, written.size);
  few = omega (arith, is.few, written.size);
  marks = marks-set ps old new c (Some held) low is.marks written;
})

-- a full channel loses its packet, and its mark
pub indexed-take : (ps now : List (Option Held)) (count : ℕ) (old new : List ℕ) (c : ℕ) → c < length ps → is_some (get_or ps c None) ≡ true → IsIndexed ps count old → now ≡ set ps c None → IsWritten old new c 0 → IsIndexed now (count - 1) new
indexed-take ps now count old new c low full is now-is written = subst (λ l. IsIndexed l (count - 1) new) (sym now-is) (record {
  counted = let less = count-take ps c full in omega (arith, less, is.counted);
  room = omega (arith, length-set {A = Option Held} ps c None, is.room, written.size);
  few = omega (arith, is.few, written.size);
  marks = marks-set ps old new c None low is.marks written;
})
