-- The first element of a list that passes a test.
use Rattle.std.proofs.Common.{◌≡◌, ℕ, zero, suc, ◌+◌, Bool, true, false, ◌||◌, not, cond, List, [], ◌∷◌, ◌++◌, length, nat_lt, if◌then◌else◌, Option, Some, None, is_some, refl, sym, ap, ◌∙◌, arith, true≢false}
use Rattle.std.specs.Prelude.{position}
use Rattle.std.specs.List.{list_any, prefix_len, range_with_len, remove}
use Rattle.std.proofs.lemmas.Bool.Decides.{nat_tests}
use Rattle.gm_defs.specs.Port.{without_first}

module _ {A : Type 0} (test : A → Bool) where
  abbrev first : List A → ℕ
  first xs = prefix_len (λ x. not (test x)) xs

  first-low : (xs : List A) → nat_lt (first xs) (length xs) ≡ list_any test xs
  first-low [] = refl
  first-low (x ∷ xs) = by (test x) (first-low xs)
    where
      by : (b : Bool) → nat_lt (first xs) (length xs) ≡ list_any test xs → nat_lt (cond (not b) (1 + first xs) 0) (suc (length xs)) ≡ (b || list_any test xs)
      by true e = grind (arith, nat_tests)
      by false e = more (first xs) (length xs) ∙ e
        where
          more : (k n : ℕ) → nat_lt (1 + k) (suc n) ≡ nat_lt k n
          more k n = grind (arith, nat_tests)

  taken-out : (xs : List A) → list_any test xs ≡ true → remove xs (first xs) ≡ without_first test xs
  taken-out [] e = absurd (true≢false (sym e))
  taken-out (x ∷ xs) e = by (test x) refl e (taken-out xs)
    where
      by : (b : Bool) → test x ≡ b → (b || list_any test xs) ≡ true → (list_any test xs ≡ true → remove xs (first xs) ≡ without_first test xs)
          → remove (x ∷ xs) (cond (not (test x)) (1 + first xs) 0) ≡ (if test x then xs else x ∷ without_first test xs)
      by true t f rest = ap (λ b. remove (x ∷ xs) (cond (not b) (1 + first xs) 0)) t ∙ sym (ap (λ b. if b then xs else x ∷ without_first test xs) t)
      by false t f rest =
          ap (λ b. remove (x ∷ xs) (cond (not b) (1 + first xs) 0)) t ∙ next (first xs) ∙ ap (λ l. x ∷ l) (rest f)
          ∙ sym (ap (λ b. if b then xs else x ∷ without_first test xs) t)
        where
          next : (k : ℕ) → remove (x ∷ xs) (1 + k) ≡ x ∷ remove xs k
          next k = let one : 1 + k ≡ suc k = omega arith in ap (remove (x ∷ xs)) one

  none-out : (xs : List A) → list_any test xs ≡ false → xs ≡ without_first test xs
  none-out [] e = refl
  none-out (x ∷ xs) e = by (test x) refl e (none-out xs)
    where
      by : (b : Bool) → test x ≡ b → (b || list_any test xs) ≡ false → (list_any test xs ≡ false → xs ≡ without_first test xs) → x ∷ xs ≡ (if test x then xs else x ∷ without_first test xs)
      by true t f rest = absurd (true≢false f)
      by false t f rest = rw t (ap (λ l. x ∷ l) (rest f))

  by-place : (b : Bool) (k : ℕ) (o : Option ℕ) → cond b (Some k) None ≡ o → is_some o ≡ b
  by-place true k o e = ap is_some (sym e)
  by-place false k o e = ap is_some (sym e)

  -- a place is found exactly where some element passes
  pub found_any : (xs : List A) (o : Option ℕ) → o ≡ position test xs → is_some o ≡ list_any test xs
  found_any xs o e = by-place (nat_lt (first xs) (length xs)) (first xs) o (sym e) ∙ first-low xs

  -- and there it is taken out
  pub removed_first : (xs ys : List A) (k : ℕ) → Some k ≡ position test xs → ys ≡ remove xs k → ys ≡ without_first test xs
  removed_first xs ys k e r = by (nat_lt (first xs) (length xs)) refl e
    where
      by : (b : Bool) → nat_lt (first xs) (length xs) ≡ b → Some k ≡ cond b (Some (first xs)) None → ys ≡ without_first test xs
      by true t f = let at : k ≡ first xs = cc in r ∙ ap (remove xs) at ∙ taken-out xs (sym (first-low xs) ∙ t)
      by false t f = absurd (true≢false (ap is_some f))

  pub none_removed : (xs : List A) → None ≡ position test xs → xs ≡ without_first test xs
  none_removed xs e = none-out xs (sym (found_any xs None e))

-- one number more
numbers-next : (a k : ℕ) → range_with_len a (suc k) ≡ range_with_len a k ++ (a + k) ∷ []
numbers-next a zero = let none : a ≡ a + 0 = omega arith in ap (λ x. x ∷ []) none
numbers-next a (suc k) =
    let same : (a + 1) + k ≡ a + suc k = omega arith in
    ap (λ l. a ∷ l) (numbers-next (a + 1) k) ∙ ap (λ x. a ∷ range_with_len (a + 1) k ++ x ∷ []) same

pub ranged_next : (k : ℕ) → range_with_len 0 (k + 1) ≡ range_with_len 0 k ++ k ∷ []
ranged_next k =
    let one : k + 1 ≡ suc k = omega arith in
    let same : 0 + k ≡ k = omega arith in
    ap (range_with_len 0) one ∙ numbers-next 0 k ∙ ap (λ x. range_with_len 0 k ++ x ∷ []) same
