-- How a journal that is written out is shown to have grown.
use Rattle.std.proofs.Common.{◌≡◌, ◌<◌, ℕ, zero, suc, List, [], ◌∷◌, ◌++◌, map, Bool, true, false, not, ◌||◌, Option, Some, None, is_some, ◌∙◌, ap, refl, arith, if◌then◌else◌, ◌⊎◌, inl, inr}
use Rattle.std.specs.Prelude.{ℤ, pos, negsuc, int_lt, ◌<ℤ◌}
use Rattle.std.specs.List.{list_all}
use Rattle.std.proofs.lemmas.Bool.{false≢true, and_parts, and_from, cases_order}
use Rattle.std.proofs.lemmas.Bool.Decides.{nat_tests}
use Rattle.std.proofs.lemmas.Int.{ints}
use Rattle.std.proofs.lemmas.List.{map-append}
use Rattle.net_defs.specs.Turn.{is_turn, same_turns}
use Rattle.net_defs.specs.declared.place.Answer.{Answer}
use Rattle.journal_defs.specs.declared.entry.Entry.{Entry}
use Rattle.journal_defs.specs.Walks.{IsOnward, falling_turns, onward_turns}
use Rattle.journal_defs.specs.Tree.{answered, is_asked}
use Rattle.journal_defs.specs.Counting.{numbers_below}
use Rattle.journal_defs.specs.Growth.{IsExpanded, IsLeastUnasked}
use Rattle.net_defs.proofs.Turns.{same_turns-true}

-- an answer stands in an entry
pub record Holds (j : List Entry) (w : List ℤ) (a : Answer) (test : Entry → Bool) : Type 0 where
  pub entry : Entry
  pub walk : entry.walk ≡ w
  pub answer : entry.answer ≡ a
  pub passes : test entry ≡ true

pub answered-holds : (j : List Entry) (w : List ℤ) (a : Answer) (test : Entry → Bool) → list_all test j ≡ true → answered j w ≡ Some a → Holds j w a test
answered-holds [] w a test all e = cc
answered-holds (x ∷ j) w a test all e = by (same_turns x.walk w) refl e (answered-holds j w a test two.1)
  where
    two : (test x ≡ true) × (list_all test j ≡ true)
    two = and_parts (test x) (list_all test j) all

    by : (b : Bool) → same_turns x.walk w ≡ b → (if b then Some x.answer else answered j w) ≡ Some a → (answered j w ≡ Some a → Holds j w a test) → Holds (x ∷ j) w a test
    by true s f rest = record { entry = x; walk = same_turns-true x.walk w s; answer = cc; passes = two.0 }
    by false s f rest = let h = rest f in record { entry = h.entry; walk = h.walk; answer = h.answer; passes = h.passes }

pub asked-answer : (o : Option Answer) → is_some o ≡ true → (a : Answer) × (o ≡ Some a)
asked-answer None e = absurd (false≢true e)
asked-answer (Some a) e = (a, refl)

-- a walk that was asked is no longer than the longest
pub asked-short : (j : List Entry) (w : List ℤ) (test : Entry → Bool) → list_all test j ≡ true → is_asked j w ≡ true → (e : Entry) × (e.walk ≡ w) × (test e ≡ true)
asked-short j w test all e =
    let told = asked-answer (answered j w) e in
    let h = answered-holds j w told.0 test all told.1 in
    (h.entry, h.walk, h.passes)

-- a test that holds of the 30 turns
falling-pass : (test : ℤ → Bool) (n k : ℕ) → list_all test (falling_turns n) ≡ true → k < n → test (negsuc k) ≡ true
falling-pass test zero k all l = absurd (omega arith)
falling-pass test (suc n) k all l =
    let two = and_parts (test (negsuc n)) (list_all test (falling_turns n)) all in
    by two.0 (falling-pass test n k two.1) (cases_order k n)
  where
    by : test (negsuc n) ≡ true → (k < n → test (negsuc k) ≡ true) → (k ≡ n) ⊎ ((k < n) ⊎ (n < k)) → test (negsuc k) ≡ true
    by here rest (inl e) = ap (λ m. test (negsuc m)) e ∙ here
    by here rest (inr (inl b)) = rest b
    by here rest (inr (inr b)) = absurd (omega arith)

all-append : {X : Type 0} (test : X → Bool) (xs ys : List X) → list_all test (xs ++ ys) ≡ true → (list_all test xs ≡ true) × (list_all test ys ≡ true)
all-append test [] ys all = (refl, all)
all-append test (x ∷ xs) ys all =
    let two = and_parts (test x) (list_all test (xs ++ ys)) all in
    let rest = all-append test xs ys two.1 in
    (and_from (test x) (list_all test xs) two.0 rest.0, rest.1)

pub rising-pass : {X : Type 0} (test : X → Bool) (f : ℕ → X) (n k : ℕ) → list_all test (map f (numbers_below n)) ≡ true → k < n → test (f k) ≡ true
rising-pass test f zero k all l = absurd (omega arith)
rising-pass test f (suc n) k all l =
    let two = all-append test (map f (numbers_below n)) (f n ∷ []) (rw map-append at all) in
    by (and_parts (test (f n)) true two.1).0 (rising-pass test f n k two.0) (cases_order k n)
  where
    by : test (f n) ≡ true → (k < n → test (f k) ≡ true) → (k ≡ n) ⊎ ((k < n) ⊎ (n < k)) → test (f k) ≡ true
    by here rest (inl e) = ap (λ m. test (f m)) e ∙ here
    by here rest (inr (inl b)) = rest b
    by here rest (inr (inr b)) = absurd (omega arith)

pub onward-pass : (test : ℤ → Bool) (t : ℤ) → list_all test onward_turns ≡ true → IsOnward t → test t ≡ true
onward-pass test (pos zero) all on = absurd (on.1 refl)
onward-pass test (pos (suc k)) all on =
    let parts = all-append test (falling_turns 15) (map (λ k. pos (suc k)) (numbers_below 15)) all in
    let near : k < 15 = small k on.0 in
    rising-pass test (λ k. pos (suc k)) 15 k parts.1 near
  where
    small : (k : ℕ) → is_turn (pos (suc k)) ≡ true → k < 15
    small k e = grind (arith, nat_tests)
onward-pass test (negsuc k) all on =
    let parts = all-append test (falling_turns 15) (map (λ k. pos (suc k)) (numbers_below 15)) all in
    let near : k < 15 = small k on.0 in
    falling-pass test 15 k parts.0 near
  where
    small : (k : ℕ) → is_turn (negsuc k) ≡ true → k < 15
    small k e = grind (arith, nat_tests)

-- tests that a node is expanded, and that a turn is its least unasked
pub expanded-by : (j : List Entry) (w : List ℤ) → list_all (λ t. is_asked j (w ++ t ∷ [])) onward_turns ≡ true → IsExpanded j w
expanded-by j w all = record { asked = λ t on. onward-pass (λ t. is_asked j (w ++ t ∷ [])) t all on }

or-when : (a b : Bool) → (not a || b) ≡ true → a ≡ true → b ≡ true
or-when true b e f = e
or-when false b e f = absurd (false≢true f)

less-test : (s t : ℤ) → s <ℤ t → int_lt s t ≡ true
less-test s t l = grind (arith, ints)

pub least-by : (j : List Entry) (w : List ℤ) (t : ℤ) → IsOnward t → is_asked j (w ++ t ∷ []) ≡ false → list_all (λ s. not (int_lt s t) || is_asked j (w ++ s ∷ [])) onward_turns ≡ true → IsLeastUnasked j w t
least-by j w t on un all =
    record { onward = on; unasked = un; lesser = λ s there l. or-when (int_lt s t) (is_asked j (w ++ s ∷ [])) (onward-pass (λ s. not (int_lt s t) || is_asked j (w ++ s ∷ [])) s all there) (less-test s t l) }
