-- Addresses of hosts, and the turns of a walk.
use Rattle.std.proofs.Common.{◌≡◌, ◌<◌, ℕ, List, [], ◌∷◌, Bool, true, false, length, nat_lt, nat_le, Some, None, refl, arith, if◌then◌else◌}
use Rattle.std.specs.Prelude.{ℤ}
use Rattle.std.specs.List.{AllByRecursion, list_all}
use Rattle.std.proofs.lemmas.Bool.Decides.{nat_tests}
use Rattle.net_defs.specs.Network.{Network}
use Rattle.net_defs.specs.Turn.{is_turn, IsTurn, walk_refusal}
use Rattle.net_defs.specs.declared.walk.WalkFault.TheVariants.{TooLong, TurnRange}
use Rattle.net_defs.proofs.Ends.{both}
use Rattle.fab_script.specs.Ranges.{IsHost}

-- an address below the number of hosts is a host's
pub host-there : (n : Network) (h : ℕ) → h < length n.hosts → IsHost n h
host-there n h low = grind (arith, nat_tests)

-- turns
all-turns : (ts : List ℤ) → list_all is_turn ts ≡ true → AllByRecursion IsTurn ts
all-turns [] e = tt
all-turns (t ∷ ts) e = let two = both (is_turn t) (list_all is_turn ts) e in (two.0, all-turns ts two.1)

-- a walk has at most 64 turns
pub walk-turns : (ts : List ℤ) → walk_refusal ts ≡ None → (nat_le (length ts) 64 ≡ true) × AllByRecursion IsTurn ts
walk-turns ts e = by (nat_lt 64 (length ts)) (list_all is_turn ts) refl refl e
  where
    by : (long all : Bool) → nat_lt 64 (length ts) ≡ long → list_all is_turn ts ≡ all → (if long then Some TooLong else if all then None else Some TurnRange) ≡ None
        → (nat_le (length ts) 64 ≡ true) × AllByRecursion IsTurn ts
    by true all p q e = cc
    by false true p q e = (grind (arith, nat_tests), all-turns ts q)
    by false false p q e = cc
