-- What is read or written in turns, as a whole.
use Rattle.std.proofs.Common.{◌≡◌, ◌≢◌, ◌≤◌, ◌+◌, ℕ, List, ◌++◌, length, take, drop, Option, Result, Ok, Err, OnErr, IfErr, append_assoc, length-append, arith, ◌∙◌, sym}
use Rattle.std.proofs.lemmas.List.{take-append-drop}
use Rattle.std.specs.Io.KnownBytes.{Appends, Consumes, Keeps}
use Rattle.std.proofs.KnownBytes.{Appends-kept, Appends-trans, Consumes-trans}
use Rattle.fab_outer.specs.Whole.{GoesOn, HasGone, TakesPrefix}

-- what goes in two turns goes
pub goes_on-trans : (a b c : Option (List ℕ)) (went : List ℕ) (more most : ℕ) → Consumes a b went → GoesOn b c more → length went + more ≤ most → GoesOn a c most
goes_on-trans a b c went more most first then few =
    let few_more : length then.0 ≤ more = then.2 in
    let all : length (went ++ then.0) ≡ length went + length then.0 = length-append went then.0 in
    (went ++ then.0, Consumes-trans a b c went then.0 first then.1, grind arith)

-- a part of the bytes was taken, and then the first n of the rest
pub taken-more : (a b c : Option (List ℕ)) (bytes rest more : List ℕ) (n : ℕ) → ((part : List ℕ) × (bytes ≡ part ++ rest) × Appends a b part) → Appends b c (take n rest) → more ≡ drop n rest → (part : List ℕ) × (bytes ≡ part ++ more) × Appends a c part
taken-more a b c bytes rest more n t next e =
    (t.0 ++ take n rest, t.1 ∙ rw (e, append_assoc, take-append-drop), Appends-trans a b c t.0 (take n rest) t.2 next)

-- what goes in two turns of so many bytes each
pub gone-trans : (a b c : Option (List ℕ)) (went : List ℕ) (more all : ℕ) → Consumes a b went → HasGone b c more → length went + more ≡ all → HasGone a c all
gone-trans a b c went more all first then many =
    let long : length then.0 ≡ more = then.2 in
    let sum : length (went ++ then.0) ≡ length went + length then.0 = length-append went then.0 in
    (went ++ then.0, Consumes-trans a b c went then.0 first then.1, omega (arith, long, sum, many))

-- a writer took the first bytes, and kept them
pub takes-first : (a b c : Option (List ℕ)) (bytes : List ℕ) (n : ℕ) → Appends a b (take n bytes) → Keeps b c → TakesPrefix a c bytes
takes-first a b c bytes n took kept = (take n bytes, drop n bytes, sym (take-append-drop n bytes), Appends-kept a b c (take n bytes) took kept)

-- what holds anyway holds at an `Err`
pub on-err : {T E : Type 0} (r : Result T E) (P : Type 0) → P → OnErr r P
on-err (Ok x) P p = tt
on-err (Err e) P p = p

-- where no more bytes came, no more than before went, but at one error
pub none-more : {T E : Type 0} (r : Result T E) (x : E) (a b c : Option (List ℕ)) (went : List ℕ) (most : ℕ) → Consumes a b went → length went ≤ most
    → IfErr r (λ e. e ≢ x → HasGone b c 0) → IfErr r (λ e. e ≢ x → GoesOn a c most)
none-more (Ok v) x a b c went most first few then = tt
none-more (Err e) x a b c went most first few then = λ other.
    let gone : HasGone b c 0 = then other in
    let none : length gone.0 ≡ 0 = gone.2 in
    goes_on-trans a b c went 0 most first (gone.0, gone.1, omega (arith, none)) (omega (arith, few))
