-- What follows from what an answer says.
use Rattle.std.specs.Prelude.{Result, Ok, Err, OnOk}

-- two facts that hold where there is an answer make another
pub on-ok-both : {A E P Q S : Type 0} (r : Result A E) → (P → Q → S) → OnOk r P → OnOk r Q → OnOk r S
on-ok-both (Ok x) f p q = f p q
on-ok-both (Err e) f p q = tt
