-- The forms of words: names, numbers and turns.
use Rattle.std.specs.Prelude.{ℕ, ◌-◌, ◌^◌, ℤ, pos, neg_ℤ, Bool, ◌&&◌, ◌||◌, List, [], ◌∷◌, length, slice_index, nat_eq}
use Rattle.std.specs.Prelude.{nat_lt, nat_le, if◌then◌else◌, Result, Ok, Err}
use Rattle.std.specs.List.{list_all}
use Rattle.std.specs.Str.Parse.{digits_value}
use Rattle.fab_text.specs.declared.fault.NumFault.{NumFault}
use Rattle.fab_text.specs.declared.fault.NumFault.TheVariants.{NotNumber, TooLarge}

-- `a` to `z`
abbrev pub is_letter : ℕ → Bool
is_letter b = nat_le 97 b && nat_le b 122

-- `0` to `9`
abbrev pub is_digit : ℕ → Bool
is_digit b = nat_le 48 b && nat_le b 57

-- a letter, a digit or `_`
abbrev pub is_name_byte : ℕ → Bool
is_name_byte b = is_letter b || is_digit b || nat_eq b 95

-- A name begins with a letter, and has 1 to 16 bytes that may stand in a name.
abbrev pub name_test : List ℕ → Bool
name_test w = nat_le 1 (length w) && nat_le (length w) 16 && is_letter (slice_index w 0) && list_all is_name_byte w

-- A number is one or more digits.
abbrev pub number_test : List ℕ → Bool
number_test w = nat_lt 0 (length w) && list_all is_digit w

-- the number that a word says, which may be at most so large
abbrev pub number_within : ℕ → List ℕ → Result ℕ NumFault
number_within most w =
    if number_test w then (if nat_le (digits_value 10 w) most then Ok (digits_value 10 w) else Err TooLarge)
    else Err NotNumber

-- the number of 32 bits that a word says
abbrev pub u32_of : List ℕ → Result ℕ NumFault
u32_of w = number_within (2 ^ 32 - 1) w

-- a number read at its place, with a sign given to it
abbrev pub with_sign : (ℕ → ℤ) → Result ℕ NumFault → Result ℤ NumFault
with_sign sign (Ok n) = Ok (sign n)
with_sign sign (Err e) = Err e

-- a number below zero, by its size
abbrev pub minus : ℕ → ℤ
minus n = neg_ℤ (pos n)

-- A turn is a number up to 15, after `+` (43), `-` (45) or no sign.
abbrev pub turn_of : List ℕ → Result ℤ NumFault
turn_of [] = Err NotNumber
turn_of (b ∷ bs) =
    if nat_eq b 43 then with_sign pos (number_within 15 bs)
    else if nat_eq b 45 then with_sign minus (number_within 15 bs)
    else with_sign pos (number_within 15 (b ∷ bs))
