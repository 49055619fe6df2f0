-- Lists of numbers: what stands in them, and that none stands twice.
use Rattle.std.proofs.Common.{◌≡◌, ℕ, suc, List, [], ◌∷◌, ◌++◌, Bool, true, false, sym, ◌∙◌, subst, ap, refl, true≢false, arith, ◌⊎◌, inl, inr, not, ◌||◌, nat_eq, ◌≤◌, length}
use Rattle.std.specs.List.{list_any}
use Rattle.std.proofs.lemmas.Bool.{false≢true, and_from, and_parts}
use Rattle.std.proofs.lemmas.Bool.Decides.{Decides-eqb}
use Rattle.circ_defs.specs.Ways.{AreAmong, AreNone, IsOneOf}
use Rattle.circ_defs.specs.Circuit.{are_apart}

-- numbers that are apart, by tests
pub one-of : (k : ℕ) (ks : List ℕ) → list_any (nat_eq k) ks ≡ true → IsOneOf k ks
one-of k [] e = absurd (false≢true e)
one-of k (l ∷ ks) e = by (nat_eq k l) refl e (one-of k ks)
  where
    by : (b : Bool) → nat_eq k l ≡ b → (b || list_any (nat_eq k) ks) ≡ true → (list_any (nat_eq k) ks ≡ true → IsOneOf k ks) → IsOneOf k (l ∷ ks)
    by true p g rest = inl ((Decides-eqb k l).0 p)
    by false p g rest = inr (rest g)

pub any-of : (k : ℕ) (ks : List ℕ) → IsOneOf k ks → list_any (nat_eq k) ks ≡ true
any-of k [] m = absurd m
any-of k (l ∷ ks) (inl e) = by (nat_eq k l) ((Decides-eqb k l).1 e)
  where
    by : (b : Bool) → b ≡ true → (b || list_any (nat_eq k) ks) ≡ true
    by true p = refl
    by false p = absurd (false≢true p)
any-of k (l ∷ ks) (inr m) = by (nat_eq k l) (any-of k ks m)
  where
    by : (b : Bool) → list_any (nat_eq k) ks ≡ true → (b || list_any (nat_eq k) ks) ≡ true
    by true p = refl
    by false p = p

pub none-of : (k : ℕ) (ks : List ℕ) → ¬ IsOneOf k ks → list_any (nat_eq k) ks ≡ false
none-of k ks other = by (list_any (nat_eq k) ks) refl
  where
    by : (b : Bool) → list_any (nat_eq k) ks ≡ b → b ≡ false
    by true p = absurd (other (one-of k ks p))
    by false p = refl

-- a number is one of these or not
pub is-one : (k : ℕ) (ks : List ℕ) → IsOneOf k ks ⊎ (¬ IsOneOf k ks)
is-one k ks = by (list_any (nat_eq k) ks) refl
  where
    by : (b : Bool) → list_any (nat_eq k) ks ≡ b → IsOneOf k ks ⊎ (¬ IsOneOf k ks)
    by true e = inl (one-of k ks e)
    by false e = inr (λ m. true≢false (sym (any-of k ks m) ∙ e))

pub one-of-push : (k l : ℕ) (ks : List ℕ) → IsOneOf k (ks ++ l ∷ []) → IsOneOf k ks ⊎ (k ≡ l)
one-of-push k l [] (inl e) = inr e
one-of-push k l [] (inr m) = absurd m
one-of-push k l (x ∷ ks) (inl e) = inl (inl e)
one-of-push k l (x ∷ ks) (inr m) = by (one-of-push k l ks m)
  where
    by : IsOneOf k ks ⊎ (k ≡ l) → IsOneOf k (x ∷ ks) ⊎ (k ≡ l)
    by (inl i) = inl (inr i)
    by (inr i) = inr i

pub apart-parts : (k : ℕ) (ks : List ℕ) → are_apart (k ∷ ks) ≡ true → (¬ IsOneOf k ks) × (are_apart ks ≡ true)
apart-parts k ks e =
    let two = and_parts (not (list_any (nat_eq k) ks)) (are_apart ks) e in
    ((λ m. true≢false (sym two.0 ∙ ap not (any-of k ks m))), two.1)

pub apart-from : (k : ℕ) (ks : List ℕ) → ¬ IsOneOf k ks → are_apart ks ≡ true → are_apart (k ∷ ks) ≡ true
apart-from k ks m e = and_from (not (list_any (nat_eq k) ks)) (are_apart ks) (ap not (none-of k ks m)) e

pub are_apart-push : (ks : List ℕ) (k : ℕ) → are_apart ks ≡ true → ¬ IsOneOf k ks → are_apart (ks ++ k ∷ []) ≡ true
are_apart-push [] k e m = refl
are_apart-push (l ∷ ks) k e m =
    let two = apart-parts l ks e in
    apart-from l (ks ++ k ∷ []) (λ i. by (one-of-push l k ks i)) (are_apart-push ks k two.1 (λ i. m (inr i)))
  where
    by : IsOneOf l ks ⊎ (l ≡ k) → ⊥
    by (inl i) = (apart-parts l ks e).0 i
    by (inr i) = m (inl (sym i))

-- lists of numbers
pub left-in : (k : ℕ) (ks ls : List ℕ) → IsOneOf k ks → IsOneOf k (ks ++ ls)
left-in k [] ls m = absurd m
left-in k (x ∷ ks) ls (inl e) = inl e
left-in k (x ∷ ks) ls (inr m) = inr (left-in k ks ls m)

pub right-in : (k : ℕ) (ks ls : List ℕ) → IsOneOf k ls → IsOneOf k (ks ++ ls)
right-in k [] ls m = m
right-in k (x ∷ ks) ls m = inr (right-in k ks ls m)

pub either-in : (k : ℕ) (ks ls : List ℕ) → IsOneOf k (ks ++ ls) → IsOneOf k ks ⊎ IsOneOf k ls
either-in k [] ls m = inr m
either-in k (x ∷ ks) ls (inl e) = inl (inl e)
either-in k (x ∷ ks) ls (inr m) = by (either-in k ks ls m)
  where
    by : IsOneOf k ks ⊎ IsOneOf k ls → IsOneOf k (x ∷ ks) ⊎ IsOneOf k ls
    by (inl i) = inl (inr i)
    by (inr i) = inr i

-- all of these, by each of them
pub among-from : (ks gs : List ℕ) → ((k : ℕ) → IsOneOf k ks → IsOneOf k gs) → AreAmong ks gs
among-from [] gs f = tt
among-from (k ∷ ks) gs f = (f k (inl refl), among-from ks gs (λ l m. f l (inr m)))

pub among-to : (k : ℕ) (ks gs : List ℕ) → AreAmong ks gs → IsOneOf k ks → IsOneOf k gs
among-to k [] gs a m = absurd m
among-to k (x ∷ ks) gs a (inl e) = subst (λ l. IsOneOf l gs) (sym e) a.0
among-to k (x ∷ ks) gs a (inr m) = among-to k ks gs a.1 m

pub none-from : (ks ls : List ℕ) → ((k : ℕ) → IsOneOf k ks → IsOneOf k ls → ⊥) → AreNone ks ls
none-from [] ls f = tt
none-from (k ∷ ks) ls f = (f k (inl refl), none-from ks ls (λ l m. f l (inr m)))

pub none-to : (k : ℕ) (ks ls : List ℕ) → AreNone ks ls → IsOneOf k ks → IsOneOf k ls → ⊥
none-to k [] ls a m i = m
none-to k (x ∷ ks) ls a (inl e) i = a.0 (subst (λ l. IsOneOf l ls) e i)
none-to k (x ∷ ks) ls a (inr m) i = none-to k ks ls a.1 m i

pub itself-among : (ks ls : List ℕ) → AreAmong ks (ks ++ ls)
itself-among ks ls = among-from ks (ks ++ ls) (λ k m. left-in k ks ls m)

-- the sheet grows over a path, cable by cable, where the tree leads on from its end to a host over cables of the sheet
pub one-of-middle : (k l : ℕ) (xs ys : List ℕ) → IsOneOf k (l ∷ (xs ++ ys)) → IsOneOf k (xs ++ l ∷ ys)
one-of-middle k l [] ys m = m
one-of-middle k l (x ∷ xs) ys (inl e) = inr (one-of-middle k l xs ys (inl e))
one-of-middle k l (x ∷ xs) ys (inr (inl e)) = inl e
one-of-middle k l (x ∷ xs) ys (inr (inr m)) = inr (one-of-middle k l xs ys (inr m))

pub all-among : (ks ls ms : List ℕ) → ((k : ℕ) → IsOneOf k ls → IsOneOf k ms) → AreAmong ks ls → AreAmong ks ms
all-among [] ls ms some a = tt
all-among (k ∷ ks) ls ms some a = (some k a.0, all-among ks ls ms some a.1)

pub none-same : (ks old gs : List ℕ) → ((k : ℕ) → IsOneOf k gs → IsOneOf k old) → AreNone ks old → AreNone ks gs
none-same [] old gs some a = tt
none-same (k ∷ ks) old gs some a = ((λ m. a.0 (some k m)), none-same ks old gs some a.1)

pub apart-both : (ks ls : List ℕ) → are_apart ks ≡ true → are_apart ls ≡ true → AreNone ks ls → are_apart (ks ++ ls) ≡ true
apart-both [] ls a b c = b
apart-both (k ∷ ks) ls a b c = let two = apart-parts k ks a in apart-from k (ks ++ ls) (λ m. by (either-in k ks ls m)) (apart-both ks ls two.1 b c.1)
  where
    by : IsOneOf k ks ⊎ IsOneOf k ls → ⊥
    by (inl i) = (apart-parts k ks a).0 i
    by (inr i) = c.0 i

pub more-of : (k : ℕ) (ks ls : List ℕ) → IsOneOf k ks → suc (length ls) ≤ length (ks ++ ls)
more-of k [] ls m = absurd m
more-of k (x ∷ ks) ls m = let l = longer ks in omega arith
  where
    longer : (ks : List ℕ) → length ls ≤ length (ks ++ ls)
    longer [] = omega arith
    longer (y ∷ ks) = let l = longer ks in omega arith

record Without (k : ℕ) (gs : List ℕ) : Type 0 where
  pub rest : List ℕ
  pub count : length gs ≡ suc (length rest)
  pub others : (l : ℕ) → IsOneOf l gs → (l ≡ k) ⊎ IsOneOf l rest

take-out : (k : ℕ) (gs : List ℕ) → IsOneOf k gs → Without k gs
take-out k [] m = absurd m
take-out k (g ∷ gs) (inl e) = record { rest = gs; count = (let z : length (g ∷ gs) ≡ suc (length gs) = omega arith in z); others = λ l m. by l m }
  where
    by : (l : ℕ) → IsOneOf l (g ∷ gs) → (l ≡ k) ⊎ IsOneOf l gs
    by l (inl p) = inl (p ∙ sym e)
    by l (inr i) = inr i
take-out k (g ∷ gs) (inr m) =
    let r = take-out k gs m in
    record { rest = g ∷ r.rest; count = (let c = r.count in let z : length (g ∷ gs) ≡ suc (length (g ∷ r.rest)) = omega arith in z); others = λ l i. by r.rest l i r.others }
  where
    by : (rest : List ℕ) (l : ℕ) → IsOneOf l (g ∷ gs) → ((l : ℕ) → IsOneOf l gs → (l ≡ k) ⊎ IsOneOf l rest) → (l ≡ k) ⊎ IsOneOf l (g ∷ rest)
    by rest l (inl p) f = inr (inl p)
    by rest l (inr i) f = on (f l i)
      where
        on : (l ≡ k) ⊎ IsOneOf l rest → (l ≡ k) ⊎ IsOneOf l (g ∷ rest)
        on (inl p) = inl p
        on (inr q) = inr (inr q)

moved : (k : ℕ) (ks gs rest : List ℕ) → ¬ IsOneOf k ks → ((l : ℕ) → IsOneOf l gs → (l ≡ k) ⊎ IsOneOf l rest) → AreAmong ks gs → AreAmong ks rest
moved k [] gs rest new f a = tt
moved k (x ∷ ks) gs rest new f a = (by (f x a.0), moved k ks gs rest (λ m. new (inr m)) f a.1)
  where
    by : (x ≡ k) ⊎ IsOneOf x rest → IsOneOf x rest
    by (inl e) = absurd (new (inl (sym e)))
    by (inr m) = m

pub few : (ks gs : List ℕ) → are_apart ks ≡ true → AreAmong ks gs → length ks ≤ length gs
few [] gs apart a = omega arith
few (k ∷ ks) gs apart a =
    let two = apart-parts k ks apart in
    let r = take-out k gs a.0 in
    let c = r.count in
    let rest = few ks r.rest two.1 (moved k ks gs r.rest two.0 r.others a.1) in
    omega arith
