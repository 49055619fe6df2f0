-- By which lane something goes first.
use Rattle.std.proofs.Common.{◌≡◌, ◌<◌, ◌≤◌, ◌+◌, ℕ, zero, suc, Bool, true, false, nat_eq, nat_lt, Option, Some, None, length, refl, sym, ap, subst, ◌∙◌, arith}
use Rattle.std.specs.Prelude.{is_some}
use Rattle.std.proofs.lemmas.Bool.Decides.{nat_tests}
use Rattle.std.specs.List.{range_with_len}
use Rattle.world_defs.specs.Node.{Outgoing, either, first_some, lanes_of}
use Rattle.gm_conn.specs.Lanes.{NoneBetween, IsNext}
use Rattle.gm_conn.specs.Lanes.IsNext.{next, nobody_left}
use Rattle.nic_node.specs.Held.{HostNode}

-- there is nothing for any lane below a number
abbrev pub NothingBelow : {A : Type 0} → (ℕ → Option A) → ℕ → Type 0
NothingBelow f below = (lane : ℕ) → lane < below → f lane ≡ None

first-none : {A : Type 0} (f : ℕ → Option A) (from n : ℕ) → ((p : ℕ) → from ≤ p → p < from + n → f p ≡ None) → first_some f (range_with_len from n) ≡ None
first-none f from zero none = refl
first-none f from (suc n) none =
    ap (λ x. either x (first_some f (range_with_len (from + 1) n))) (none from (omega arith) (omega arith))
    ∙ first-none f (from + 1) n (λ p low high. none p (omega arith) (omega arith))

first-at : {A : Type 0} (f : ℕ → Option A) (from n p : ℕ) (x : A) → from ≤ p → p < from + n → f p ≡ Some x → ((q : ℕ) → from ≤ q → q < p → f q ≡ None)
    → first_some f (range_with_len from n) ≡ Some x
first-at {A} f from zero p x low high there none = absurd (omega arith)
first-at {A} f from (suc n) p x low high there none =
    by (nat_eq from p) refl (λ less. first-at f (from + 1) n p x (omega arith) (omega arith) there (λ q above below. none q (omega arith) below))
  where
    by : (t : Bool) → nat_eq from p ≡ t → (from < p → first_some f (range_with_len (from + 1) n) ≡ Some x) → first_some f (range_with_len from (suc n)) ≡ Some x
    by true e later =
        let same : from ≡ p = grind (arith, nat_tests) in
        ap (λ y. either y (first_some f (range_with_len (from + 1) n))) (ap f same ∙ there)
    by false e later =
        let less : from < p = grind (arith, nat_tests) in
        ap (λ y. either y (first_some f (range_with_len (from + 1) n))) (none from (omega arith) less) ∙ later less

-- a search that found nothing, and one that found something
pub search-none : {A : Type 0} (f : ℕ → Option A) (n : ℕ) → NothingBelow f n → None ≡ first_some f (range_with_len 0 n)
search-none f n none = sym (first-none f 0 n (λ p low high. none p (omega arith)))

pub search-at : {A : Type 0} (f : ℕ → Option A) (n p : ℕ) → p < n → is_some (f p) ≡ true → NothingBelow f p → f p ≡ first_some f (range_with_len 0 n)
search-at {A} f n p within there none = by (f p) refl there
  where
    by : (x : Option A) → f p ≡ x → is_some x ≡ true → f p ≡ first_some f (range_with_len 0 n)
    by (Some x) e t = e ∙ sym (first-at f 0 n p x (omega arith) (omega arith) e (λ q low high. none q high))
    by None e t = absurd (grind arith)

-- what the least lane says that passes a test
abbrev pub Found : (ℕ → Bool) → ℕ → ℕ → Option ℕ → Type 0
Found test from count (Some p) = (from ≤ p) × (p < count) × (test p ≡ true) × NoneBetween test from p
Found test from count None = NoneBetween test from count

pub found : (test : ℕ → Bool) (from count : ℕ) (r : Option ℕ) → IsNext test from count r → Found test from count r
found test from count _ (next low high there none) = (low, high, there, none)
found test from count _ (nobody_left none) = none

-- the search went on
pub passed : {A : Type 0} (f : ℕ → Option A) (test : ℕ → Bool) (from below : ℕ) → ((q : ℕ) → test q ≡ false → f q ≡ None) → NothingBelow f from → NoneBetween test from below
    → NothingBelow f below
passed f test from below quiet before between = λ q high. by q high (nat_lt q from) refl
  where
    by : (q : ℕ) → q < below → (t : Bool) → nat_lt q from ≡ t → f q ≡ None
    by q high true e = before q (grind (arith, nat_tests))
    by q high false e = quiet q (between q (grind (arith, nat_tests)) high)

pub passed-one : {A : Type 0} (f : ℕ → Option A) (p : ℕ) → NothingBelow f p → f p ≡ None → NothingBelow f (p + 1)
passed-one f p before here = λ q high. by q high (nat_eq q p) refl
  where
    by : (q : ℕ) → q < p + 1 → (t : Bool) → nat_eq q p ≡ t → f q ≡ None
    by q high true e = let same : q ≡ p = grind (arith, nat_tests) in ap f same ∙ here
    by q high false e = let differs : q < p = grind (arith, nat_tests) in before q differs

-- Something goes by the least lane that passes a test and for which there is something; for one that doesn't pass there is nothing.
pub goes-there : (f : HostNode → ℕ → Option Outgoing) (w v : HostNode) (test : ℕ → Bool) (from lane : ℕ) → w ≡ v → ((q : ℕ) → test q ≡ false → f w q ≡ None)
    → NothingBelow (f w) from → IsNext test from (length w.state.lanes) (Some lane) → is_some (f w lane) ≡ true
    → (f v lane ≡ first_some (f v) (lanes_of v.state)) × (is_some (f v lane) ≡ true)
goes-there f w v test from lane is quiet before least there =
    let l : Found test from (length w.state.lanes) (Some lane) = found test from (length w.state.lanes) (Some lane) least in
    subst (λ (x : HostNode). (f x lane ≡ first_some (f x) (lanes_of x.state)) × (is_some (f x lane) ≡ true)) is
    (search-at (f w) (length w.state.lanes) lane l.1 there (passed (f w) test from lane quiet before l.3), there)

pub goes-on : (f : HostNode → ℕ → Option Outgoing) (w : HostNode) (test : ℕ → Bool) (from lane : ℕ) → ((q : ℕ) → test q ≡ false → f w q ≡ None)
    → NothingBelow (f w) from → IsNext test from (length w.state.lanes) (Some lane) → f w lane ≡ None → NothingBelow (f w) (lane + 1)
goes-on f w test from lane quiet before least nothing =
    let l : Found test from (length w.state.lanes) (Some lane) = found test from (length w.state.lanes) (Some lane) least in
    passed-one (f w) lane (passed (f w) test from lane quiet before l.3) nothing

pub goes-nowhere : (f : HostNode → ℕ → Option Outgoing) (w v : HostNode) (test : ℕ → Bool) (from : ℕ) → w ≡ v → ((q : ℕ) → test q ≡ false → f w q ≡ None)
    → NothingBelow (f w) from → IsNext test from (length w.state.lanes) None → None ≡ first_some (f v) (lanes_of v.state)
goes-nowhere f w v test from is quiet before least =
    subst (λ (x : HostNode). None ≡ first_some (f x) (lanes_of x.state)) is
    (search-none (f w) (length w.state.lanes) (passed (f w) test from (length w.state.lanes) quiet before (found test from (length w.state.lanes) None least)))

-- a lane that is next is one of them, and not before the number
pub next-within : (test : ℕ → Bool) (from count lane : ℕ) → IsNext test from count (Some lane) → (from ≤ lane) × (lane < count) × (test lane ≡ true)
next-within test from count lane least =
    let l : Found test from count (Some lane) = found test from count (Some lane) least in (l.0, l.1, l.2)
