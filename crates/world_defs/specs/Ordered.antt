-- Limbo as an ordered map keeps it: by the order of serials, with a new serial last.
use Rattle.std.specs.Prelude.{◌≡◌, ℕ, ◌<◌, ◌≤◌, List, [], ◌∷◌, ◌++◌, nat_eq, Some, None, IsSome}
use Rattle.std.specs.Ordering.{nat_cmp}
use Rattle.std.specs.List.{AllByRecursion}
use Rattle.std.specs.Map.{lookup, remove_entry}
use Rattle.std.specs.BTreeMap.{insert_entry, is_at}
use Rattle.world_defs.specs.Links.{Caught, LinkState}
use Rattle.world_defs.specs.Fault.{caught_as, next_limbo}
use Rattle.world_defs.specs.Shape.{Rise}

-- the next serial from a number on is one of limbo's that isn't below it, and none between is
abbrev pub NextIsLeast : Type 0
NextIsLeast =
    (s : LinkState) (from serial : ℕ) → Rise s.limbo → next_limbo s from ≡ Some serial
    → (from ≤ serial) × IsSome (caught_as s serial) × AllByRecursion (λ e. from ≤ e.0 → serial ≤ e.0) s.limbo

-- and where there is none, all are below it
abbrev pub NoNextIsLeft : Type 0
NoNextIsLeft = (s : LinkState) (from : ℕ) → next_limbo s from ≡ None → AllByRecursion (λ e. e.0 < from) s.limbo

-- a serial above all others comes last
abbrev pub NewSerialIsLast : Type 0
NewSerialIsLast =
    (limbo : List (ℕ × Caught)) (serial : ℕ) (caught : Caught) → AllByRecursion (λ e. e.0 < serial) limbo
    → insert_entry nat_cmp limbo serial caught ≡ limbo ++ (serial, caught) ∷ []

-- what the order finds is what equality finds
abbrev pub FoundByOrder : Type 0
FoundByOrder = (limbo : List (ℕ × Caught)) (serial : ℕ)
    → lookup (is_at (nat_cmp serial)) limbo ≡ lookup (nat_eq serial) limbo

-- and so with what it takes out
abbrev pub TakenByOrder : Type 0
TakenByOrder = (limbo : List (ℕ × Caught)) (serial : ℕ)
    → remove_entry (is_at (nat_cmp serial)) limbo ≡ remove_entry (nat_eq serial) limbo
