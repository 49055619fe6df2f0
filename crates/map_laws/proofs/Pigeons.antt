-- A list without repetitions whose members stand in another is no longer than that.
use Rattle.std.proofs.Common.{◌≡◌, ◌≢◌, ◌<◌, ◌≤◌, ℕ, suc, List, [], ◌∷◌, map, length, sym, ◌∙◌, ap, refl, arith, inl, inr}
use Rattle.std.specs.List.{AllByRecursion}
use Rattle.net_defs.specs.Network.{Apart}
use Rattle.journal_defs.specs.Counting.{numbers_below}
use Rattle.journal_defs.proofs.Members.{IsMember, all-member, number-member, length-numbers}

-- a list without one of its members
removed : {X : Type 0} (x : X) (ys : List X) → IsMember x ys → List X
removed x [] m = []
removed x (y ∷ ys) (inl e) = ys
removed x (y ∷ ys) (inr m) = y ∷ removed x ys m

removed-length : {X : Type 0} (x : X) (ys : List X) (m : IsMember x ys) → length ys ≡ suc (length (removed x ys m))
unfolding removed
removed-length x [] m = absurd m
removed-length x (y ∷ ys) (inl e) = refl
removed-length x (y ∷ ys) (inr m) = ap suc (removed-length x ys m)

removed-member : {X : Type 0} (x z : X) (ys : List X) (m : IsMember x ys) → z ≢ x → IsMember z ys → IsMember z (removed x ys m)
unfolding removed
removed-member x z [] m d i = absurd m
removed-member x z (y ∷ ys) (inl e) d (inl f) = absurd (d (f ∙ sym e))
removed-member x z (y ∷ ys) (inl e) d (inr i) = i
removed-member x z (y ∷ ys) (inr m) d (inl f) = inl f
removed-member x z (y ∷ ys) (inr m) d (inr i) = inr (removed-member x z ys m d i)

pub no-more : {X : Type 0} (xs ys : List X) → Apart xs → ((x : X) → IsMember x xs → IsMember x ys) → length xs ≤ length ys
no-more [] ys apart f = omega arith
no-more (x ∷ xs) ys apart f =
    let m = f x (inl refl) in
    let rest : length xs ≤ length (removed x ys m) = no-more xs (removed x ys m) apart.1 (λ z i. removed-member x z ys m (λ e. all-member (λ y. x ≢ y) z xs apart.0 i (sym e)) (f z (inr i))) in
    let long = removed-length x ys m in
    omega arith

-- members of a list stand at it in a longer one
pub member-map-all : {X Y : Type 0} (P : X → Type 0) (f : X → Y) (xs : List X) → Apart xs → AllByRecursion P xs → ((x y : X) → P x → P y → f x ≡ f y → x ≡ y) → Apart (map f xs)
member-map-all P f [] apart all one = tt
member-map-all P f (x ∷ xs) apart all one = (new xs apart.0 all.1, member-map-all P f xs apart.1 all.1 one)
  where
    new : (ys : List _) → AllByRecursion (λ y. x ≢ y) ys → AllByRecursion P ys → AllByRecursion (λ z. f x ≢ z) (map f ys)
    new [] d a = tt
    new (y ∷ ys) d a = ((λ e. d.0 (one x y all.0 a.0 e)), new ys d.1 a.1)

pub few-below : (n : ℕ) (xs : List ℕ) → Apart xs → AllByRecursion (λ q. q < n) xs → length xs ≤ n
few-below n xs apart all =
    let most = no-more xs (numbers_below n) apart (λ q i. number-member n q (all-member (λ q. q < n) q xs all i)) in
    let long = length-numbers n in
    omega arith
