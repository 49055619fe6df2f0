-- When a call that may refuse answers what.
use Rattle.std.specs.Prelude.{◌≡◌, ◌⊎◌, Option, Some, None, Result, Ok, Err}

-- The call refuses exactly where there is a refusal, and with that one. Only where there is none may memory run out.
abbrev pub Refuses : {T E : Type 0} → Option E → E → Result T E → Type 0
Refuses refusal no_memory (Ok x) = refusal ≡ None
Refuses refusal no_memory (Err e) = (refusal ≡ Some e) ⊎ ((refusal ≡ None) × (e ≡ no_memory))
