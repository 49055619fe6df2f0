-- What follows from what an answer says.
use Rattle.std.specs.Prelude.{Result, Ok, Err, IfErr, OnErr}

-- one fact of what holds where memory ran out makes another
pub on-err : {A E : Type 0} {P Q : Type 0} (r : Result A E) → (P → Q) → OnErr r P → OnErr r Q
on-err (Ok x) f p = tt
on-err (Err e) f p = f p

-- one fact of what ran out makes another, or one that doesn't speak of it
pub if-err : {A E : Type 0} (r : Result A E) (P Q : E → Type 0) → ((e : E) → P e → Q e) → IfErr r P → IfErr r Q
if-err (Ok x) P Q f p = tt
if-err (Err e) P Q f p = f e p

pub if-err-on : {A E : Type 0} (r : Result A E) (P : E → Type 0) (Q : Type 0) → ((e : E) → P e → Q) → IfErr r P → OnErr r Q
if-err-on (Ok x) P Q f p = tt
if-err-on (Err e) P Q f p = f e p
