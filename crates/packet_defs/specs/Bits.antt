-- Bits of bytes, most significant first, and polynomials whose coefficients are bits.
-- A polynomial is the list of its coefficients, that of the greatest power first, or the number with these binary
-- digits: x^8 + x^2 + x + 1 is 0x107. The sum of two is the exclusive or of their numbers, and x times one is twice
-- its number.
use Rattle.std.specs.Prelude.{◌≡◌, ℕ, ◌+◌, ◌*◌, ◌/◌, ◌%◌, ◌^◌, ◌<◌, Bool, true, false, nat_eq, nat_lt, List, [], ◌∷◌}
use Rattle.std.specs.Prelude.{◌++◌, replicate, if◌then◌else◌}
use Rattle.std.specs.List.{fold}
use Rattle.std.specs.Int.Bits.{bit_xor}

-- a bit as a number
abbrev pub bit : Bool → ℕ
bit true = 1
bit false = 0

-- a number has a 1 at the bit that counts 2^k
abbrev pub is_set : ℕ → ℕ → Bool
is_set n k = nat_eq (n / 2 ^ k % 2) 1

-- the eight bits of a byte
abbrev pub bits_of_byte : ℕ → List Bool
bits_of_byte b = is_set b 7 ∷ is_set b 6 ∷ is_set b 5 ∷ is_set b 4 ∷ is_set b 3 ∷ is_set b 2 ∷ is_set b 1 ∷ is_set b 0
    ∷ []

-- the bits of bytes, one byte after another
abbrev pub bits_of : List ℕ → List Bool
bits_of [] = []
bits_of (b ∷ bs) = bits_of_byte b ++ bits_of bs

-- so many zero bits
abbrev pub zeros : ℕ → List Bool
zeros n = replicate n false

-- the number of a polynomial, by Horner's rule
abbrev pub polynomial : List Bool → ℕ
polynomial p = fold (λ n c. 2 * n + bit c) 0 p

-- the product of two polynomials, by Horner's rule: the first by its coefficients, the second by its number
abbrev pub product : List Bool → ℕ → ℕ
product q d = fold (λ n c. bit_xor (2 * n) (if c then d else 0)) 0 q

-- the divisor x^8 + x^2 + x + 1
abbrev pub divisor : ℕ
divisor = 263

-- what the divisor leaves of a polynomial of degree at most 8
abbrev pub reduced : ℕ → ℕ
reduced n = if nat_lt n 256 then n else bit_xor n divisor

-- what the divisor leaves of any polynomial, by Horner's rule
abbrev pub remainder : List Bool → ℕ
remainder p = fold (λ r c. reduced (2 * r + bit c)) 0 p

-- What makes r the remainder of a polynomial: the polynomial is a multiple of the divisor plus r, and r has a degree
-- below 8.
abbrev pub IsRemainder : List Bool → ℕ → Type 0
IsRemainder p r = (q : List Bool) × (polynomial p ≡ bit_xor (product q divisor) r) × (r < 256)
