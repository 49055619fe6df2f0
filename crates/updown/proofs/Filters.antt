-- Lists over the numbers below one, with one number more.
use Rattle.std.proofs.Common.{◌≡◌, ◌<◌, ◌+◌, ℕ, zero, suc, List, [], ◌∷◌, ◌++◌, map, length, get_or, Bool, true, false, cond, refl, ap, sym, ◌∙◌, subst, arith, if◌then◌else◌, ◌⊎◌, inl, inr, add-one}
use Rattle.std.specs.List.{filter}
use Rattle.std.proofs.lemmas.Bool.{cases_order}
use Rattle.std.proofs.lemmas.List.{map-append, length-map, get_or_append_left, get_or_at}
use Rattle.journal_defs.specs.Counting.{numbers_below}
use Rattle.journal_defs.proofs.Members.{length-numbers}

pub filter-push : (test : ℕ → Bool) (xs : List ℕ) (x : ℕ) → length (filter test (xs ++ x ∷ [])) ≡ length (filter test xs) + (if test x then 1 else 0)
filter-push test [] x = by (test x)
  where
    by : (b : Bool) → length (cond b (x ∷ []) []) ≡ 0 + (if b then 1 else 0)
    by true = refl
    by false = refl
filter-push test (y ∷ ys) x = by (test y) (filter-push test ys x)
  where
    by : (b : Bool) → length (filter test (ys ++ x ∷ [])) ≡ length (filter test ys) + (if test x then 1 else 0) → length (cond b (y ∷ filter test (ys ++ x ∷ [])) (filter test (ys ++ x ∷ []))) ≡ length (cond b (y ∷ filter test ys) (filter test ys)) + (if test x then 1 else 0)
    by true e = omega arith
    by false e = e

-- one number more
pub numbers-more : (k : ℕ) → numbers_below (k + 1) ≡ numbers_below k ++ k ∷ []
numbers-more k = ap numbers_below (add-one k)

pub count-more : (test : ℕ → Bool) (k : ℕ) → length (filter test (numbers_below (k + 1))) ≡ length (filter test (numbers_below k)) + (if test k then 1 else 0)
count-more test k = ap (λ l. length (filter test l)) (numbers-more k) ∙ filter-push test (numbers_below k) k

pub map-more : {X : Type 0} (f : ℕ → X) (k : ℕ) → map f (numbers_below (k + 1)) ≡ map f (numbers_below k) ++ f k ∷ []
map-more f k = ap (map f) (numbers-more k) ∙ map-append f (numbers_below k) (k ∷ [])

-- what a list over the numbers below one has at a place
pub map-at : {X : Type 0} (f : ℕ → X) (n k : ℕ) (d : X) → k < n → get_or (map f (numbers_below n)) k d ≡ f k
map-at f zero k d l = absurd (omega arith)
map-at f (suc n) k d l = ap (λ xs. get_or xs k d) (map-append f (numbers_below n) (n ∷ [])) ∙ by (cases_order k n) (map-at f n k d)
  where
    long : length (map f (numbers_below n)) ≡ n
    long = length-map (numbers_below n) f ∙ length-numbers n

    by : (k ≡ n) ⊎ ((k < n) ⊎ (n < k)) → (k < n → get_or (map f (numbers_below n)) k d ≡ f k) → get_or (map f (numbers_below n) ++ f n ∷ []) k d ≡ f k
    by (inl e) rest = get_or_at (map f (numbers_below n)) (f n) [] d k (long ∙ sym e) ∙ ap f (sym e)
    by (inr (inl a)) rest = get_or_append_left (map f (numbers_below n)) (f n ∷ []) d k (subst (λ j. k < j) (sym long) a) ∙ rest a
    by (inr (inr a)) rest = absurd (omega arith)
