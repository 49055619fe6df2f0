-- What is said of stretches in a row: whether one of them moved something, and counts that stay at their last value.
use Rattle.std.proofs.Common.{◌≡◌, ◌≤◌, ℕ, ◌+◌, Bool, true, false, not, ◌||◌, [], ◌∷◌, nat_eq, nat_lt, refl, ◌∙◌, ap, arith}
use Rattle.std.proofs.lemmas.Bool.Decides.{nat_tests}
use Rattle.world_defs.specs.declared.effect.Effect.{Effect}
use Rattle.world_defs.specs.Drain.{changed, changes}
use Rattle.world_laws.proofs.Draining.{one_if, changes-push}
use Rattle.world_defs.specs.Logs as log
use Rattle.world_drain.specs.Settling.{capped}

-- something moved in one of two stretches
pub some-sum : (a b : ℕ) → (nat_lt 0 a || nat_lt 0 b) ≡ nat_lt 0 (a + b)
some-sum a b = grind (arith, nat_tests)

pub moved-sum : (a b : ℕ) (x y z : Bool) → x ≡ nat_lt 0 a → y ≡ nat_lt 0 b → z ≡ (x || y) → z ≡ nat_lt 0 (a + b)
moved-sum a b x y z p q r = r ∙ (ap (λ t. t || y) p ∙ (ap (λ t. nat_lt 0 a || t) q ∙ some-sum a b))

-- one event that changed something, or not
pub one-moved : (b : Bool) → nat_lt 0 (one_if b) ≡ b
one-moved true = refl
one-moved false = refl

pub one-change : (x : Effect) → changes (x ∷ []) ≡ one_if (changed x)
one-change x = let a = changes-push x [] (changed x) refl in omega (arith, a)

pub not-moved : (n : ℕ) → not (nat_lt 0 n) ≡ nat_eq n 0
not-moved n = grind (arith, nat_tests)

-- counts
pub capped-few : (n : ℕ) → n ≤ 8192 → n ≡ capped n
capped-few n few = omega (arith, few)

pub capped-sum : (a b x y z : ℕ) → x ≡ capped a → y ≡ capped b → z ≡ capped (x + y) → z ≡ capped (a + b)
capped-sum a b x y z p q r = omega (arith, p, q, r)

-- what is joined in a row
plus-none : (n : ℕ) → n ≡ 0 + n
plus-none n = omega arith

plus-assoc : (a b c : ℕ) → a + (b + c) ≡ (a + b) + c
plus-assoc a b c = omega arith

pub moved-none : (m : log.Moved) → m ≡ log.moved_both log.unmoved m
moved-none m = λ i. record { moves = plus-none m.moves i; resets = plus-none m.resets i }

pub moved-assoc : (a b c : log.Moved) → log.moved_both a (log.moved_both b c) ≡ log.moved_both (log.moved_both a b) c
moved-assoc a b c = λ i. record { moves = plus-assoc a.moves b.moves c.moves i; resets = plus-assoc a.resets b.resets c.resets i }

pub rounds-none : (r : log.Rounds) → r ≡ log.rounds_both (record { rounds = 0; resets = 0 }) r
rounds-none r = λ i. record { rounds = plus-none r.rounds i; resets = plus-none r.resets i }

pub rounds-assoc : (a b c : log.Rounds) → log.rounds_both a (log.rounds_both b c) ≡ log.rounds_both (log.rounds_both a b) c
rounds-assoc a b c = λ i. record { rounds = plus-assoc a.rounds b.rounds c.rounds i; resets = plus-assoc a.resets b.resets c.resets i }
