-- Turns and walks. A turn is relative: it is added to the entry port (relative turns, SPAA 1997).
use Rattle.std.specs.Prelude.{◌≡◌, ℤ, pos, negsuc, ◌&&◌, Bool, true, false, List, [], ◌∷◌, length, nat_lt, int_le}
use Rattle.std.specs.Prelude.{if◌then◌else◌, Option, Some, None}
use Rattle.std.specs.Ordering.{int_eq}
use Rattle.std.specs.List.{list_all}
use Rattle.net_defs.specs.declared.walk.WalkFault.{WalkFault}
use Rattle.net_defs.specs.declared.walk.WalkFault.TheVariants.{TooLong, TurnRange}

-- a turn is from -15 to 15
abbrev pub is_turn : ℤ → Bool
is_turn t = int_le (negsuc 14) t && int_le t (pos 15)

-- a number that is a turn
abbrev pub IsTurn : ℤ → Type 0
IsTurn t = is_turn t ≡ true

-- why turns are no walk: first their number, then their range
abbrev pub walk_refusal : List ℤ → Option WalkFault
walk_refusal turns = if nat_lt 64 (length turns) then Some TooLong else if list_all is_turn turns then None
    else Some TurnRange

-- the same turns in the same order
abbrev pub same_turns : List ℤ → List ℤ → Bool
same_turns [] [] = true
same_turns (s ∷ ss) (t ∷ ts) = int_eq s t && same_turns ss ts
same_turns _ _ = false
