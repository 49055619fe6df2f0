-- What follows of an answer, where it is one, or memory ran out.
use Rattle.std.specs.Prelude.{Result, Ok, Err, OnErr, IfOk}

pub if-ok : {A E : Type 0} {P Q : A → Type 0} (r : Result A E) → ((a : A) → P a → Q a) → IfOk r P → IfOk r Q
if-ok (Ok a) f h = f a h
if-ok (Err e) f h = tt

pub if-ok-both : {A E : Type 0} {P Q S : A → Type 0} (r : Result A E) → ((a : A) → P a → Q a → S a) → IfOk r P → IfOk r Q → IfOk r S
if-ok-both (Ok a) f g h = f a g h
if-ok-both (Err e) f g h = tt

pub on-err : {A E : Type 0} {P Q : Type 0} (r : Result A E) → (P → Q) → OnErr r P → OnErr r Q
on-err (Ok a) f h = tt
on-err (Err e) f h = f h

pub on-any-err : {A E : Type 0} {P : Type 0} (r : Result A E) → P → OnErr r P
on-any-err (Ok a) h = tt
on-any-err (Err e) h = h
