-- Bytes that count up are a client's.
use Rattle.std.proofs.Common.{◌≡◌, ℕ, zero, suc, ◌+◌, ◌%◌, Bool, true, false, ◌&&◌, List, [], ◌∷◌, map, length, nat_eq, refl, sym, ap, ◌∙◌, arith, true≢false}
use Rattle.std.specs.List.{range_with_len}
use Rattle.std.proofs.lemmas.Bool.Decides.{nat_tests}
use Rattle.gm_defs.proofs.Choices.{both}
use Rattle.world_defs.specs.Client.{client_bytes}
use Rattle.port_ledgers.specs.Bytes.{counts_up}

pub equal : (a b : ℕ) → nat_eq a b ≡ true → a ≡ b
equal a b e = grind (arith, nat_tests)

pub same : (a b : ℕ) → a ≡ b → nat_eq a b ≡ true
same a b e = grind (arith, nat_tests)

pub two : (a b : Bool) → a ≡ true → b ≡ true → (a && b) ≡ true
two true true x y = refl
two false b x y = absurd (true≢false (sym x))
two true false x y = absurd (true≢false (sym y))

-- bytes that count up from a place of a message are its bytes from there
are-bytes : (seed at : ℕ) (bs : List ℕ) → counts_up (seed + at) bs ≡ true → bs ≡ map (λ i. (seed + i) % 256) (range_with_len at (length bs))
are-bytes seed at [] e = refl
are-bytes seed at (b ∷ bs) e =
    let h = both (nat_eq b ((seed + at) % 256)) (counts_up (seed + at + 1) bs) e in
    let next : seed + at + 1 ≡ seed + (at + 1) = omega arith in
    let rest : bs ≡ map (λ i. (seed + i) % 256) (range_with_len (at + 1) (length bs)) =
    are-bytes seed (at + 1) bs (sym (ap (λ n. counts_up n bs) next) ∙ h.1) in
    ap (λ x. x ∷ bs) (equal b ((seed + at) % 256) h.0) ∙ ap (λ x. (seed + at) % 256 ∷ x) rest

-- the bytes of a message from a place count up
bytes-count : (seed at n : ℕ) → counts_up (seed + at) (map (λ i. (seed + i) % 256) (range_with_len at n)) ≡ true
bytes-count seed at zero = refl
bytes-count seed at (suc n) =
    let next : seed + (at + 1) ≡ seed + at + 1 = omega arith in
    two (nat_eq ((seed + at) % 256) ((seed + at) % 256)) (counts_up (seed + at + 1) (map (λ i. (seed + i) % 256) (range_with_len (at + 1) n)))
    (same ((seed + at) % 256) ((seed + at) % 256) refl)
    (sym (ap (λ k. counts_up k (map (λ i. (seed + i) % 256) (range_with_len (at + 1) n))) next) ∙ bytes-count seed (at + 1) n)

pub from-seed : (seed : ℕ) (bs : List ℕ) → counts_up seed bs ≡ true → bs ≡ client_bytes (length bs) seed
from-seed seed bs e = let none : seed + 0 ≡ seed = omega arith in are-bytes seed 0 bs (ap (λ n. counts_up n bs) none ∙ e)

pub client-counts : (seed len : ℕ) → counts_up seed (client_bytes len seed) ≡ true
client-counts seed len = let none : seed ≡ seed + 0 = omega arith in ap (λ n. counts_up n (client_bytes len seed)) none ∙ bytes-count seed 0 len

pub client-length : (seed len : ℕ) → length (client_bytes len seed) ≡ len
client-length seed len = long 0 len
  where
    long : (at n : ℕ) → length (map (λ i. (seed + i) % 256) (range_with_len at n)) ≡ n
    long at zero = refl
    long at (suc n) = ap suc (long (at + 1) n)
