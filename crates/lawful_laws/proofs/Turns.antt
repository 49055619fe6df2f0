-- Walks that are asked, and their ways back: their turns and numbers fit.
use Rattle.std.proofs.Common.{◌≡◌, ◌<◌, ◌^◌, ℕ, zero, suc, Bool, true, ◌&&◌, nat_lt, nat_le, ℤ, pos, negsuc, List, [], ◌∷◌, ◌++◌, map, reverse, length, refl, sym, ap, ◌∙◌, subst, arith}
use Rattle.std.specs.Prelude.{neg_ℤ}
use Rattle.std.specs.List.{AllByRecursion, list_all}
use Rattle.std.proofs.lemmas.Bool.Decides.{nat_tests}
use Rattle.std.proofs.lemmas.Int.{ints}
use Rattle.std.proofs.lemmas.List.{map-append, length-map, length-reverse}
use mathlib.Core.List.{reverse-cons}
use Rattle.net_defs.specs.Turn.{is_turn, IsTurn}
use Rattle.net_defs.proofs.Distinct.{all-push}
use Rattle.world_defs.specs.Mapping.{is_route}
use Rattle.gm_defs.proofs.Choices.{both}
use Rattle.world_defs.specs.Node.{way_back}

pub both-true : (a b : Bool) → a ≡ true → b ≡ true → (a && b) ≡ true
both-true a b e f = rw (e, f) refl

-- a number of 64 bits and an address of 16
pub two-fit : (number host : ℕ) → number < 2 ^ 64 → host < 2 ^ 16 → (nat_lt number (2 ^ 64) && nat_lt host (2 ^ 16)) ≡ true
two-fit number host low near =
    let a : nat_lt number (2 ^ 64) ≡ true = grind (arith, nat_tests) in
    let b : nat_lt host (2 ^ 16) ≡ true = grind (arith, nat_tests) in
    both-true (nat_lt number (2 ^ 64)) (nat_lt host (2 ^ 16)) a b

all-turns : (walk : List ℤ) → list_all is_turn walk ≡ true → AllByRecursion IsTurn walk
all-turns [] e = tt
all-turns (t ∷ walk) e = let b = both (is_turn t) (list_all is_turn walk) e in (b.0, all-turns walk b.1)

turns-all : (walk : List ℤ) → AllByRecursion IsTurn walk → list_all is_turn walk ≡ true
turns-all [] all = refl
turns-all (t ∷ walk) all = both-true (is_turn t) (list_all is_turn walk) all.0 (turns-all walk all.1)

pub route-turns : (walk : List ℤ) → is_route walk ≡ true → AllByRecursion IsTurn walk
route-turns walk e = all-turns walk (both (nat_le (length walk) 64) (list_all is_turn walk) e).1

-- the way back
neg-turn : (t : ℤ) → IsTurn t → IsTurn (neg_ℤ t)
neg-turn (pos zero) is = refl
neg-turn (pos (suc n)) is = grind (arith, ints, nat_tests)
neg-turn (negsuc n) is = grind (arith, ints, nat_tests)

back-push : (t : ℤ) (walk : List ℤ) → way_back (t ∷ walk) ≡ way_back walk ++ neg_ℤ t ∷ []
back-push t walk = ap (map neg_ℤ) (reverse-cons t walk) ∙ map-append neg_ℤ (reverse walk) (t ∷ [])

back-turns : (walk : List ℤ) → AllByRecursion IsTurn walk → AllByRecursion IsTurn (way_back walk)
back-turns [] all = tt
back-turns (t ∷ walk) all = subst (AllByRecursion IsTurn) (sym (back-push t walk)) (all-push IsTurn (way_back walk) (neg_ℤ t) (back-turns walk all.1) (neg-turn t all.0))

pub back-route : (walk : List ℤ) → is_route walk ≡ true → is_route (way_back walk) ≡ true
back-route walk e =
    let b = both (nat_le (length walk) 64) (list_all is_turn walk) e in
    let long : length (way_back walk) ≡ length walk = length-map (reverse walk) neg_ℤ ∙ length-reverse walk in
    both-true (nat_le (length (way_back walk)) 64) (list_all is_turn (way_back walk)) (ap (λ k. nat_le k 64) long ∙ b.0) (turns-all (way_back walk) (back-turns walk (all-turns walk b.1)))

all-join : (xs ys : List ℤ) → AllByRecursion IsTurn xs → AllByRecursion IsTurn ys → AllByRecursion IsTurn (xs ++ ys)
all-join [] ys a b = b
all-join (x ∷ xs) ys a b = (a.0, all-join xs ys a.1 b)

-- there and back again
pub loop-turns : (walk : List ℤ) → is_route walk ≡ true → AllByRecursion IsTurn (walk ++ pos 0 ∷ way_back walk)
loop-turns walk e = let all = route-turns walk e in all-join walk (pos 0 ∷ way_back walk) all (refl, back-turns walk all)
