-- What is read item by item: the items that came, and what is said of the rest.
use Rattle.std.specs.Prelude.{ℕ, ℤ, List, ◌++◌, take, Result, Ok, Err}
use Rattle.fab_text.specs.declared.fault.FaultKind.{FaultKind}
use Rattle.fab_text.specs.Fault.{and_then}

-- what was read, after others
abbrev pub behind : {X E : Type 0} → List X → Result (List X) E → Result (List X) E
behind done r = and_then r (λ more. Ok (done ++ more))

-- the turns in front of others, where so many were read
abbrev pub in_front : List ℤ → Result ℕ FaultKind → Result (List ℤ) FaultKind
in_front turns (Ok count) = Ok (take count turns)
in_front turns (Err kind) = Err kind
