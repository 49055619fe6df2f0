-- The first place at which a test passes, one element more at a time, and lists that are printed up to a place.
use Rattle.std.proofs.Common.{◌≡◌, ℕ, zero, suc, ◌+◌, List, [], ◌∷◌, ◌++◌, Bool, true, false, not, cond, length, take, nat_lt, Some, None, option_map, refl, ap, sym, ◌∙◌, arith, append_assoc, if◌then◌else◌}
use Rattle.std.specs.Prelude.{position, flat_map}
use Rattle.std.specs.List.{prefix_len, slice_get}
use Rattle.std.proofs.lemmas.Bool.Decides.{nat_tests}
use Rattle.std.proofs.lemmas.List.{append-nil}

below-step : {X : Type 0} (n : ℕ) (x : X) (xs : List X) → nat_lt (1 + n) (length (x ∷ xs)) ≡ nat_lt n (length xs)
below-step n x xs = grind (arith, nat_tests)

some-below : {X : Type 0} (x : X) (xs : List X) → nat_lt 0 (length (x ∷ xs)) ≡ true
some-below x xs = grind (arith, nat_tests)

pub position-cons : {X : Type 0} (p : X → Bool) (x : X) (xs : List X) → position p (x ∷ xs) ≡ (if p x then Some 0 else option_map (λ n. 1 + n) (position p xs))
position-cons p x xs = by (p x)
  where
    choose : (b : Bool) (n : ℕ) → cond b (Some (1 + n)) None ≡ option_map (λ n. 1 + n) (cond b (Some n) None)
    choose true n = refl
    choose false n = refl

    by : (t : Bool) → cond (nat_lt (cond (not t) (1 + prefix_len (λ y. not (p y)) xs) 0) (length (x ∷ xs))) (Some (cond (not t) (1 + prefix_len (λ y. not (p y)) xs) 0)) None
        ≡ (if t then Some 0 else option_map (λ n. 1 + n) (cond (nat_lt (prefix_len (λ y. not (p y)) xs) (length xs)) (Some (prefix_len (λ y. not (p y)) xs)) None))
    by true = λ i. cond (some-below x xs i) (Some 0) None
    by false =
        (λ i. cond (below-step (prefix_len (λ y. not (p y)) xs) x xs i) (Some (1 + prefix_len (λ y. not (p y)) xs)) None)
        ∙ choose (nat_lt (prefix_len (λ y. not (p y)) xs) (length xs)) (prefix_len (λ y. not (p y)) xs)

-- what is printed of a list, up to a place and one element more
pub printed-more : {X : Type 0} (f : X → List ℕ) (xs : List X) (i : ℕ) (x : X) → slice_get xs i ≡ Some x → flat_map f (take (i + 1) xs) ≡ flat_map f (take i xs) ++ f x
printed-more f [] i x e = cc
printed-more f (y ∷ ys) zero x e = let same : y ≡ x = cc in append-nil (f y) ∙ ap f same
printed-more f (y ∷ ys) (suc i) x e =
    let plus : suc i + 1 ≡ suc (i + 1) = omega arith in
    ap (λ k. flat_map f (take k (y ∷ ys))) plus ∙ ap (λ l. f y ++ l) (printed-more f ys i x e) ∙ sym (append_assoc (f y) (flat_map f (take i ys)) (f x))
