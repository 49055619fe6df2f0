-- Vertices with one more, and the index of their hosts.
use Rattle.std.proofs.Common.{◌≡◌, ◌≢◌, ◌<◌, ◌≤◌, ℕ, zero, suc, ◌+◌, List, [], ◌∷◌, ◌++◌, Bool, true, false, not, ◌||◌, cond, length, get_or, set, max, nat_eq, nat_lt, eqb, Option, Some, None, is_some, refl, ap, sym, ◌∙◌, subst, true≢false, arith, if◌then◌else◌, get_or-set_other, get_or-set_same, ◌⊎◌, inl, inr}
use Rattle.std.specs.Prelude.{position, slice_get}
use Rattle.std.specs.List.{list_any, prefix_len}
use Rattle.std.proofs.lemmas.Bool.{cases_order}
use Rattle.std.proofs.lemmas.Bool.Decides.{nat_tests, Decides-eqb}
use Rattle.std.proofs.lemmas.List.Folds.{prefix_len-append}
use Rattle.std.proofs.lemmas.List.Sums.{prefix_len-le-length}
use Rattle.net_defs.specs.Building.{first_of_two}
use Rattle.map_defs.specs.declared.vertex.MapVertex.{MapVertex}
use Rattle.map_defs.specs.declared.vertex.MapVertex.TheVariants.{Host, Switch}
use Rattle.map_defs.specs.NetMap.{switches_of, host_at}
use Rattle.map_defs.specs.Routing.{is_host_named}
use Rattle.fabric_map.specs.Listing.{IsIndexOf}

-- one more vertex
pub switches_of-host : (vs : List MapVertex) (h : ℕ) → switches_of (vs ++ Host h ∷ []) ≡ switches_of vs
switches_of-host [] h = refl
switches_of-host (Host g ∷ vs) h = switches_of-host vs h
switches_of-host (Switch s ∷ vs) h = ap (λ l. s ∷ l) (switches_of-host vs h)

pub switches_of-switch : (vs : List MapVertex) (n : ℕ) → switches_of (vs ++ Switch n ∷ []) ≡ switches_of vs ++ n ∷ []
switches_of-switch [] n = refl
switches_of-switch (Host g ∷ vs) n = switches_of-switch vs n
switches_of-switch (Switch s ∷ vs) n = ap (λ l. s ∷ l) (switches_of-switch vs n)

pub few_switches : (vs : List MapVertex) → length (switches_of vs) ≤ length vs
few_switches [] = omega arith
few_switches (Host g ∷ vs) = let l = few_switches vs in omega arith
few_switches (Switch s ∷ vs) = let l = few_switches vs in omega arith

-- where a test first passes, with one more element
push-cases : (l n : ℕ) (b : Bool) → l ≤ n → cond (nat_lt (cond (eqb l n) (n + cond (not b) (1 + 0) 0) l) (n + 1)) (Some (cond (eqb l n) (n + cond (not b) (1 + 0) 0) l)) None ≡ first_of_two (cond (nat_lt l n) (Some l) None) (if b then Some n else None)
push-cases l n b le = by b (cases_order l n)
  where
    by : (b : Bool) → (l ≡ n) ⊎ ((l < n) ⊎ (n < l)) → cond (nat_lt (cond (eqb l n) (n + cond (not b) (1 + 0) 0) l) (n + 1)) (Some (cond (eqb l n) (n + cond (not b) (1 + 0) 0) l)) None ≡ first_of_two (cond (nat_lt l n) (Some l) None) (if b then Some n else None)
    by true (inl e) =
        let same : eqb l n ≡ true = grind (arith, nat_tests) in
        let past : nat_lt l n ≡ false = grind (arith, nat_tests) in
        let low : nat_lt (n + 0) (n + 1) ≡ true = grind (arith, nat_tests) in
        let zero : n + 0 ≡ n = omega arith in
        rw (same, past, low, zero) refl
    by false (inl e) =
        let same : eqb l n ≡ true = grind (arith, nat_tests) in
        let past : nat_lt l n ≡ false = grind (arith, nat_tests) in
        let low : nat_lt (n + (1 + 0)) (n + 1) ≡ false = grind (arith, nat_tests) in
        rw (same, past, low) refl
    by c (inr (inl k)) =
        let other : eqb l n ≡ false = grind (arith, nat_tests) in
        let before : nat_lt l n ≡ true = grind (arith, nat_tests) in
        let low : nat_lt l (n + 1) ≡ true = grind (arith, nat_tests) in
        rw (other, before, low) refl
    by c (inr (inr k)) = absurd (omega arith)

length-one : {X : Type 0} (xs : List X) (x : X) → length (xs ++ x ∷ []) ≡ length xs + 1
length-one [] x = refl
length-one (y ∷ ys) x = let e = length-one ys x in omega arith

pub position-push : {X : Type 0} (p : X → Bool) (xs : List X) (x : X) → position p (xs ++ x ∷ []) ≡ first_of_two (position p xs) (if p x then Some (length xs) else None)
position-push p xs x =
    (let a = prefix_len-append (λ y. not (p y)) xs (x ∷ []) in let b = length-one xs x in λ i. cond (nat_lt (a i) (b i)) (Some (a i)) None)
    ∙ push-cases (prefix_len (λ y. not (p y)) xs) (length xs) (p x) (prefix_len-le-length (λ y. not (p y)) xs)

-- a test passes somewhere where one of the elements passes it
prefix-less : {X : Type 0} (p : X → Bool) (xs : List X) → nat_lt (prefix_len (λ y. not (p y)) xs) (length xs) ≡ list_any p xs
prefix-less p [] = refl
prefix-less p (x ∷ xs) = by (p x) (prefix-less p xs)
  where
    by : (b : Bool) → nat_lt (prefix_len (λ y. not (p y)) xs) (length xs) ≡ list_any p xs → nat_lt (cond (not b) (1 + prefix_len (λ y. not (p y)) xs) 0) (suc (length xs)) ≡ (b || list_any p xs)
    by true e = grind (arith, nat_tests)
    by false e = more (prefix_len (λ y. not (p y)) xs) (length xs) ∙ e
      where
        more : (k n : ℕ) → nat_lt (1 + k) (suc n) ≡ nat_lt k n
        more k n = grind (arith, nat_tests)

pub position-any : {X : Type 0} (p : X → Bool) (xs : List X) → is_some (position p xs) ≡ list_any p xs
position-any p xs = by (nat_lt (prefix_len (λ y. not (p y)) xs) (length xs)) (prefix-less p xs)
  where
    by : (b : Bool) → b ≡ list_any p xs → is_some (cond b (Some (prefix_len (λ y. not (p y)) xs)) None) ≡ list_any p xs
    by true e = e
    by false e = e

pub no_position : {X : Type 0} (p : X → Bool) (xs : List X) → list_any p xs ≡ false → position p xs ≡ None
no_position p xs e = by (position p xs) (position-any p xs ∙ e)
  where
    by : (o : Option ℕ) → is_some o ≡ false → o ≡ None
    by None f = refl
    by (Some k) f = absurd (true≢false f)

-- a host of the list passes the test for its address
pub host-any : (h : ℕ) (vs : List MapVertex) (v : ℕ) → host_at (slice_get vs v) ≡ Some h → list_any (is_host_named h) vs ≡ true
host-any h [] v e = cc
host-any h (x ∷ vs) zero e = by x e
  where
    by : (y : MapVertex) → host_at (Some y) ≡ Some h → (is_host_named h y || list_any (is_host_named h) vs) ≡ true
    by (Host g) f = (let one : g ≡ h = cc in rw ((Decides-eqb g h).1 one) refl)
    by (Switch s) f = cc
host-any h (x ∷ vs) (suc v) e = by (is_host_named h x) (host-any h vs v e)
  where
    by : (b : Bool) → list_any (is_host_named h) vs ≡ true → (b || list_any (is_host_named h) vs) ≡ true
    by true f = refl
    by false f = f

-- the index with one more vertex
pub index-host : (vs : List MapVertex) (n : ℕ) (old index : List (Option ℕ)) (h : ℕ) → IsIndexOf vs n old → length index ≡ max (h + 1) (length old) → ((k : ℕ) → get_or index k None ≡ get_or old k None) → position (is_host_named h) vs ≡ None → IsIndexOf (vs ++ Host h ∷ []) n (set index h (Some (length vs)))
index-host vs n old index h is longer kept new = record {
  counted = is.counted ∙ ap length (sym (switches_of-host vs h));
  found = λ k. by k (nat_eq h k) refl ∙ sym (position-push (is_host_named k) vs (Host h));
}
  where
    first_or_none : (o : Option ℕ) → o ≡ first_of_two o None
    first_or_none None = refl
    first_or_none (Some x) = refl

    by : (k : ℕ) (b : Bool) → nat_eq h k ≡ b → get_or (set index h (Some (length vs))) k None ≡ first_of_two (position (is_host_named k) vs) (if nat_eq h k then Some (length vs) else None)
    by k true p =
        let same : h ≡ k = (Decides-eqb h k).0 p in
        let none : position (is_host_named k) vs ≡ None = subst (λ j. position (is_host_named j) vs ≡ None) same new in
        subst (λ j. get_or (set index h (Some (length vs))) j None ≡ Some (length vs)) same (get_or-set_same index h (Some (length vs)) None (omega arith)) ∙ rw (none, p) refl
    by k false p =
        let differ : k ≢ h = λ e. true≢false (sym ((Decides-eqb h k).1 (sym e)) ∙ p) in
        get_or-set_other index h k (Some (length vs)) None differ ∙ kept k ∙ is.found k ∙ rw p (first_or_none (position (is_host_named k) vs))

pub index-switch : (vs : List MapVertex) (n : ℕ) (index : List (Option ℕ)) → IsIndexOf vs n index → IsIndexOf (vs ++ Switch n ∷ []) (n + 1) index
index-switch vs n index is = record {
  counted = (let e = ap length (switches_of-switch vs n) ∙ length-one (switches_of vs) n in let c = is.counted in omega arith);
  found = λ k. is.found k ∙ first_or_none (position (is_host_named k) vs) ∙ sym (position-push (is_host_named k) vs (Switch n));
}
  where
    first_or_none : (o : Option ℕ) → o ≡ first_of_two o None
    first_or_none None = refl
    first_or_none (Some x) = refl
