-- The first element of a rising list that passes a test, and the size for a length.
use Rattle.std.proofs.Common.{◌≡◌, ◌<◌, ℕ, Bool, true, false, ◌||◌, nat_eq, nat_le, List, [], ◌∷◌, find, Some, lt_irrefl, refl, ap, ◌∙◌, subst, arith, if◌then◌else◌}
use Rattle.std.specs.List.{AllByRecursion, list_any}
use Rattle.std.proofs.Math.Bool.{or-true}
use Rattle.std.proofs.lemmas.Bool.Decides.{nat_tests, Decides-eqb}
use Rattle.net_defs.proofs.Distinct.{all-weaker}
use Rattle.gm_defs.specs.Token.{sizes, room}
use Rattle.gm_defs.specs.Laws.{SizeIsLeast}

abbrev Rises : List ℕ → Type 0
Rises [] = Unit {0}
Rises (x ∷ xs) = AllByRecursion (λ y. x < y) xs × Rises xs

record IsFirst (p : ℕ → Bool) (xs : List ℕ) (x : ℕ) : Type 0 where
  among : list_any (nat_eq x) xs ≡ true
  passes : p x ≡ true
  lesser : AllByRecursion (λ y. y < x → p y ≡ false) xs

at-head : (p : ℕ → Bool) (y : ℕ) (ys : List ℕ) → AllByRecursion (λ z. y < z) ys → p y ≡ true → IsFirst p (y ∷ ys) y
at-head p y ys above q = record {
  among = ap (λ b. b || list_any (nat_eq y) ys) ((Decides-eqb y y).1 refl);
  passes = q;
  lesser = ((λ h. absurd (lt_irrefl y h)), all-weaker (λ z. y < z) (λ z. z < y → p z ≡ false) ys (λ z k h. absurd (lt_irrefl y (grind (arith)))) above);
}

find-first : (p : ℕ → Bool) (xs : List ℕ) (x : ℕ) → Rises xs → find p xs ≡ Some x → IsFirst p xs x
find-first p [] x r e = cc
find-first p (y ∷ ys) x r e = by (p y) refl e (find-first p ys x r.1)
  where
    by : (t : Bool) → p y ≡ t → (if t then Some y else find p ys) ≡ Some x → (find p ys ≡ Some x → IsFirst p ys x) → IsFirst p (y ∷ ys) x
    by true q d ih = let same : y ≡ x = cc in subst (λ z. IsFirst p (y ∷ ys) z) same (at-head p y ys r.0 q)
    by false q d ih =
        let rest : IsFirst p ys x = ih d in
        record {
          among = ap (λ b. nat_eq x y || b) rest.among ∙ or-true (nat_eq x y);
          passes = rest.passes;
          lesser = ((λ h. q), rest.lesser);
        }

rising : Rises sizes
rising = grind (arith)

pub size-least : SizeIsLeast
size-least len size e =
    let first : IsFirst (λ s. nat_le len (room s)) sizes size = find-first (λ s. nat_le len (room s)) sizes size rising e in
    record {
      one_of = first.among;
      has_room = let k : nat_le len (room size) ≡ true = first.passes in grind (arith, nat_tests);
      least = all-weaker (λ s. s < size → nat_le len (room s) ≡ false) (λ s. s < size → room s < len) sizes (λ s f h. let k : nat_le len (room s) ≡ false = f h in grind (arith, nat_tests)) first.lesser;
    }
