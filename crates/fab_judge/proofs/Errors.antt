-- What holds on an error.
use Rattle.std.proofs.Common.{Result, Ok, Err, OnErr}

-- what holds in any case does
pub on-any : {T E : Type 0} (r : Result T E) (P : Type 0) → P → OnErr r P
on-any (Ok x) P p = tt
on-any (Err e) P p = p
