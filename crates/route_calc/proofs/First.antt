-- What the least number that passes a test is.
use Rattle.std.proofs.Common.{◌≡◌, ◌<◌, ℕ, zero, suc, ◌+◌, Bool, true, false, Option, Some, None, is_some, refl, ap, sym, ◌∙◌, arith, ◌⊎◌, inl, inr, add-one}
use Rattle.std.proofs.lemmas.Bool.{false≢true, cases_order}
use Rattle.route_calc.specs.First.{first_below, or_at}

-- what an answer says of the numbers below a bound
abbrev pub Says : ℕ → (ℕ → Bool) → Option ℕ → Type 0
Says n test None = (i : ℕ) → i < n → test i ≡ false
Says n test (Some j) = (j < n) × (test j ≡ true) × ((i : ℕ) → i < j → test i ≡ false)

says-more : (n : ℕ) (test : ℕ → Bool) (o : Option ℕ) (b : Bool) → test n ≡ b → Says n test o → Says (suc n) test (or_at o b n)
says-more n test (Some j) b e s = (let l = s.0 in omega arith, s.1, s.2)
says-more n test None true e s = (omega arith, e, s)
says-more n test None false e s = λ i l. by i l (cases_order i n)
  where
    by : (i : ℕ) → i < suc n → (i ≡ n) ⊎ ((i < n) ⊎ (n < i)) → test i ≡ false
    by i l (inl p) = ap test p ∙ e
    by i l (inr (inl a)) = s i a
    by i l (inr (inr a)) = absurd (omega arith)

pub first-says : (n : ℕ) (test : ℕ → Bool) → Says n test (first_below n test)
unfolding first_below
first-says zero test = λ i l. absurd (omega arith)
first-says (suc n) test = says-more n test (first_below n test) (test n) refl (first-says n test)

pub first-zero : (test : ℕ → Bool) → first_below 0 test ≡ None
unfolding first_below
first-zero test = refl

pub first-more : (n : ℕ) (test : ℕ → Bool) → first_below (suc n) test ≡ or_at (first_below n test) (test n) n
unfolding first_below
first-more n test = refl

-- nothing passes yet
pub none-more : (n : ℕ) (test : ℕ → Bool) → first_below n test ≡ None → test n ≡ false → first_below (n + 1) test ≡ None
none-more n test e f = ap (λ k. first_below k test) (add-one n) ∙ first-more n test ∙ ap (λ o. or_at o (test n) n) e ∙ ap (λ b. or_at None b n) f

-- the first one that passes
pub first-at : (n k : ℕ) (test : ℕ → Bool) → first_below k test ≡ None → test k ≡ true → k < n → first_below n test ≡ Some k
first-at n k test e t l = by (first_below n test) (first-says n test) (first_below k test) e (first-says k test)
  where
    one : (j : ℕ) → (j ≡ k) ⊎ ((j < k) ⊎ (k < j)) → Says n test (Some j) → Says k test None → ◌≡◌ {A = Option ℕ} (Some j) (Some k)
    one j (inl p) s none = ap Some p
    one j (inr (inl a)) s none = absurd (false≢true (sym (none j a) ∙ s.1))
    one j (inr (inr a)) s none = absurd (false≢true (sym (s.2 k a) ∙ t))

    by : (o : Option ℕ) → Says n test o → (p : Option ℕ) → p ≡ None → Says k test p → o ≡ Some k
    by None s p f none = absurd (false≢true (sym (s k l) ∙ t))
    by (Some j) s None f none = one j (cases_order j k) s none
    by (Some j) s (Some i) f none = cc

pub first-some : (n i : ℕ) (test : ℕ → Bool) → i < n → test i ≡ true → is_some (first_below n test) ≡ true
first-some n i test l t = by (first_below n test) (first-says n test)
  where
    by : (o : Option ℕ) → Says n test o → is_some o ≡ true
    by None s = absurd (false≢true (sym (s i l) ∙ t))
    by (Some j) s = refl

-- the answer as a number
pub record First (n : ℕ) (test : ℕ → Bool) : Type 0 where
  pub at : ℕ
  pub is : first_below n test ≡ Some at
  pub low : at < n
  pub passes : test at ≡ true
  pub least : (i : ℕ) → i < at → test i ≡ false

pub first-there : (n : ℕ) (test : ℕ → Bool) → is_some (first_below n test) ≡ true → First n test
first-there n test e = by (first_below n test) refl e (first-says n test)
  where
    by : (o : Option ℕ) → first_below n test ≡ o → is_some o ≡ true → Says n test o → First n test
    by None f g s = absurd (false≢true g)
    by (Some j) f g s = record { at = j; is = f; low = s.0; passes = s.1; least = s.2 }
