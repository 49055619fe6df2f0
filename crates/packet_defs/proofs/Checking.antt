-- What holds of each number below a bound, by computing it for each.
use Rattle.std.proofs.Common.{◌≡◌, ◌<◌, ℕ, zero, suc, Bool, true, ◌&&◌, nat_eq, refl}
use Rattle.std.proofs.lemmas.Bool.Decides.{Decides-eqb, Decides-below_and}
use Rattle.packet_defs.specs.Bits.{bits_of_byte, zeros}
use Rattle.packet_defs.proofs.Folding.{left}

abbrev pub below : (ℕ → Bool) → ℕ → Bool
below p zero = true
below p (suc n) = p n && below p n

pub each_below : (p : ℕ → Bool) (n : ℕ) → below p n ≡ true → (k : ℕ) → k < n → p k ≡ true
each_below p n e = (Decides-below_and p (λ k. p k ≡ true) (below p) (λ k. ((λ t. t), (λ t. t))) refl (λ m. refl) n).0 e

-- the remainder of a byte is the byte
byte_check : below (λ b. nat_eq (left 0 (bits_of_byte b)) b) 256 ≡ true
byte_check = refl

pub left-byte : (b : ℕ) → b < 256 → left 0 (bits_of_byte b) ≡ b
left-byte b h = (Decides-eqb (left 0 (bits_of_byte b)) b).0 (each_below (λ b. nat_eq (left 0 (bits_of_byte b)) b) 256 byte_check b h)

-- x to the 127th leaves 1
period_check : below (λ r. nat_eq (left r (zeros 127)) r) 256 ≡ true
period_check = refl

pub left-period : (r : ℕ) → r < 256 → left r (zeros 127) ≡ r
left-period r h = (Decides-eqb (left r (zeros 127)) r).0 (each_below (λ n. nat_eq (left n (zeros 127)) n) 256 period_check r h)
