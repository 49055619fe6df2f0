-- The size of a message's buffer, and the host that a message goes to.
use Rattle.std.proofs.Common.{◌≡◌, ◌≢◌, ◌≤◌, ◌<◌, ℕ, zero, suc, ◌+◌, ◌-◌, ◌%◌, ◌*◌, Bool, true, false, List, [], ◌∷◌, ◌++◌, find, nat_le, nat_lt, Some, unwrap_or, refl, ap, sym, ◌∙◌, arith, if◌then◌else◌}
use Rattle.std.proofs.lemmas.Bool.Decides.{nat_tests}
use Rattle.std.specs.List.{list_all}
use Rattle.std.proofs.Math.Nat.{mod-eq_of_lt, add-mod_right, mod-lt}
use Rattle.net_defs.proofs.Ends.{both}
use Rattle.gm_defs.specs.Token.{room, sizes}
use Rattle.fabric_gen.specs.Laws.{HasRoom, GoesOn, HasOneSender}
use Rattle.fabric_gen.specs.Text.{message_length, message_size, peer}

-- an element that passes a test, or an earlier one, is found
found : {X : Type 0} (p : X → Bool) (xs : List X) (x d : X) (ys : List X) → p x ≡ true → find p (xs ++ x ∷ ys) ≡ Some (unwrap_or (find p (xs ++ x ∷ ys)) d)
found p [] x d ys e = by (p x) e
  where
    by : (t : Bool) → t ≡ true → (if t then Some x else find p ys) ≡ Some (unwrap_or (if t then Some x else find p ys) d)
    by true e = refl
    by false e = cc
found p (w ∷ ws) x d ys e = by (p w) (found p ws x d ys e)
  where
    by : (t : Bool) → find p (ws ++ x ∷ ys) ≡ Some (unwrap_or (find p (ws ++ x ∷ ys)) d)
        → (if t then Some w else find p (ws ++ x ∷ ys)) ≡ Some (unwrap_or (if t then Some w else find p (ws ++ x ∷ ys)) d)
    by true rest = refl
    by false rest = rest

pub has-room : HasRoom
has-room seed i m =
    let len = message_length seed i m in
    let short : nat_le len (room 10) ≡ true = grind (arith, nat_tests) in
    found (λ size. nat_le len (room size)) (4 ∷ 5 ∷ 6 ∷ 7 ∷ 8 ∷ 9 ∷ []) 10 0 (11 ∷ 12 ∷ 13 ∷ 14 ∷ 15 ∷ 16 ∷ []) short

-- a step of less than a round stays below its end, or wraps once
record Stepped (n i s : ℕ) : Type 0 where
  rounds : ℕ
  few : rounds ≤ 1
  total : i + s ≡ (i + s) % n + rounds * n

stepped : (n i s : ℕ) → i < n → s < n → Stepped n i s
stepped n i s a b = by (nat_lt (i + s) n) refl
  where
    by : (t : Bool) → nat_lt (i + s) n ≡ t → Stepped n i s
    by true t =
        let below : i + s < n = grind (arith, nat_tests) in
        let same : (i + s) % n ≡ i + s = mod-eq_of_lt below in
        record { rounds = 0; few = omega arith; total = omega arith }
    by false t =
        let above : n ≤ i + s = grind (arith, nat_tests) in
        let k : ℕ = (i + s) - n in
        let split : i + s ≡ k + n = omega arith in
        let same : (i + s) % n ≡ k = ap (λ x. x % n) split ∙ add-mod_right k n ∙ mod-eq_of_lt (omega arith) in
        record { rounds = 1; few = omega arith; total = omega arith }

-- the step from a host to the one that its message goes to
abbrev step : ℕ → ℕ → ℕ → ℕ
step n seed m = 1 + (seed + m) % (n - 1)

step-below : (n seed m : ℕ) → 2 ≤ n → step n seed m < n
step-below n seed m two = let small : (seed + m) % (n - 1) < n - 1 = mod-lt (seed + m) (omega arith) in omega arith

peer-step : (n seed i m : ℕ) → peer n seed i m ≡ (i + step n seed m) % n
peer-step n seed i m = ap (λ x. x % n) (let r : ℕ = (seed + m) % (n - 1) in let one : i + 1 + r ≡ i + (1 + r) = omega arith in one)

-- a step of at least one and less than a round leads elsewhere
elsewhere : (n i s : ℕ) → i < n → 0 < s → s < n → (i + s) % n ≢ i
elsewhere n i s a b d e = by (stepped n i s a d)
  where
    by : Stepped n i s → ⊥
    by w = rounds w.rounds w.few w.total
      where
        rounds : (k : ℕ) → k ≤ 1 → i + s ≡ (i + s) % n + k * n → ⊥
        rounds zero low total = omega arith
        rounds (suc zero) low total = omega arith
        rounds (suc (suc k)) low total = omega arith

pub goes-on : GoesOn
goes-on n seed i m two below e = elsewhere n i (step n seed m) below (omega arith) (step-below n seed m two) (sym (peer-step n seed i m) ∙ e)

-- the same step from two hosts to one
one-start : (n i k s : ℕ) → i < n → k < n → s < n → (i + s) % n ≡ (k + s) % n → i ≡ k
one-start n i k s a b d e = by (stepped n i s a d) (stepped n k s b d)
  where
    by : Stepped n i s → Stepped n k s → i ≡ k
    by v w = rounds v.rounds w.rounds v.few w.few v.total w.total
      where
        rounds : (x y : ℕ) → x ≤ 1 → y ≤ 1 → i + s ≡ (i + s) % n + x * n → k + s ≡ (k + s) % n + y * n → i ≡ k
        rounds zero zero f g p q = omega arith
        rounds zero (suc zero) f g p q = omega arith
        rounds (suc zero) zero f g p q = omega arith
        rounds (suc zero) (suc zero) f g p q = omega arith
        rounds (suc (suc x)) y f g p q = omega arith
        rounds zero (suc (suc y)) f g p q = omega arith
        rounds (suc zero) (suc (suc y)) f g p q = omega arith

pub one-sender : HasOneSender
one-sender n seed i k m two first second e =
    one-start n i k (step n seed m) first second (step-below n seed m two) (sym (peer-step n seed i m) ∙ e ∙ peer-step n seed k m)

-- the first element that passes a test, of small ones
found-small : (p : ℕ → Bool) (xs : List ℕ) → list_all (λ x. nat_le x 31) xs ≡ true → unwrap_or (find p xs) 0 ≤ 31
found-small p [] e = omega arith
found-small p (x ∷ xs) e = by (p x) (both (nat_le x 31) (list_all (λ y. nat_le y 31) xs) e) (found-small p xs)
  where
    by : (t : Bool) → (nat_le x 31 ≡ true) × (list_all (λ y. nat_le y 31) xs ≡ true) → (list_all (λ y. nat_le y 31) xs ≡ true → unwrap_or (find p xs) 0 ≤ 31)
        → unwrap_or (if t then Some x else find p xs) 0 ≤ 31
    by true two rest = let small : nat_le x 31 ≡ true = two.0 in grind (arith, nat_tests)
    by false two rest = rest two.1

-- the size of a buffer is one that a script may give
pub size-small : (seed i m : ℕ) → message_size seed i m ≤ 31
size-small seed i m = found-small (λ size. nat_le (message_length seed i m) (room size)) sizes refl

-- a message goes to a host of the fabric
pub peer-below : (n seed i m : ℕ) → 2 ≤ n → peer n seed i m < n
peer-below n seed i m two = mod-lt (i + 1 + (seed + m) % (n - 1)) (omega arith)
