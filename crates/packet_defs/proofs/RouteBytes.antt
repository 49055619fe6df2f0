-- A turn and its route byte: each of the 31 turns, and each of the 256 bytes.
use Rattle.std.proofs.Common.{◌≡◌, ◌<◌, ℕ, Bool, true, false, ◌&&◌, nat_le, nat_eq, ℤ, pos, negsuc, ◌-ℤ◌, Option, Some, None, refl, sym, ap, subst, arith, if◌then◌else◌, true≢false}
use Rattle.std.proofs.lemmas.Bool.Decides.{nat_tests, Decides-eqb, Decides-int_eq}
use Rattle.std.proofs.lemmas.Int.{ints}
use Rattle.std.specs.Ordering.{int_eq}
use Rattle.net_defs.proofs.Ends.{both}
use Rattle.net_defs.specs.Turn.{is_turn, IsTurn}
use Rattle.packet_defs.specs.RouteByte.{route_byte, turn_of}
use Rattle.packet_defs.proofs.Checking.{below, each_below}

abbrev gives : Option ℤ → ℤ → Bool
gives None turn = false
gives (Some s) turn = int_eq s turn

gives-true : (o : Option ℤ) (turn : ℤ) → gives o turn ≡ true → o ≡ Some turn
gives-true None turn e = absurd (true≢false (sym e))
gives-true (Some s) turn e = ap Some ((Decides-int_eq s turn).0 e)

pos_check : below (λ n. gives (turn_of (route_byte (pos n))) (pos n)) 16 ≡ true
pos_check = refl

negsuc_check : below (λ n. gives (turn_of (route_byte (negsuc n))) (negsuc n)) 15 ≡ true
negsuc_check = refl

-- the turn of a turn's route byte is that turn
pub turn_of-route_byte : (turn : ℤ) → IsTurn turn → turn_of (route_byte turn) ≡ Some turn
turn_of-route_byte (pos n) h = let k : n < 16 = grind (arith, ints) in gives-true _ (pos n) (each_below (λ m. gives (turn_of (route_byte (pos m))) (pos m)) 16 pos_check n k)
turn_of-route_byte (negsuc n) h = let k : n < 15 = grind (arith, ints) in gives-true _ (negsuc n) (each_below (λ m. gives (turn_of (route_byte (negsuc m))) (negsuc m)) 15 negsuc_check n k)

-- a turn that is one, and has that byte as its route byte
abbrev fits : ℕ → Option ℤ → Bool
fits byte None = true
fits byte (Some turn) = is_turn turn && nat_eq byte (route_byte turn)

byte_check : below (λ byte. fits byte (turn_of byte)) 256 ≡ true
byte_check = refl

small_byte : (byte : ℕ) (turn : ℤ) → turn_of byte ≡ Some turn → byte < 256
small_byte byte turn e = by (nat_le 128 byte && nat_le byte 143) (nat_le 177 byte && nat_le byte 191) refl refl e
  where
    by : (t u : Bool) → (nat_le 128 byte && nat_le byte 143) ≡ t → (nat_le 177 byte && nat_le byte 191) ≡ u → (if t then Some (pos byte -ℤ pos 128) else if u then Some (pos byte -ℤ pos 192) else None) ≡ Some turn → byte < 256
    by true u p q e = let k = (both (nat_le 128 byte) (nat_le byte 143) p).1 in grind (arith, nat_tests)
    by false true p q e = let k = (both (nat_le 177 byte) (nat_le byte 191) q).1 in grind (arith, nat_tests)
    by false false p q e = cc

-- a byte that has a turn is the route byte of that turn
pub turn_of-only : (byte : ℕ) (turn : ℤ) → turn_of byte ≡ Some turn → IsTurn turn × (byte ≡ route_byte turn)
turn_of-only byte turn e =
    let t : fits byte (Some turn) ≡ true = subst (λ o. fits byte o ≡ true) e (each_below (λ b. fits b (turn_of b)) 256 byte_check byte (small_byte byte turn e)) in
    let two = both (is_turn turn) (nat_eq byte (route_byte turn)) t in
    (two.0, (Decides-eqb byte (route_byte turn)).0 two.1)
