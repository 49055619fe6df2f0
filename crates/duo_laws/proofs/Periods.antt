-- The periods of an end: how they are looked up, and how they grow.
use Rattle.std.proofs.Common.{◌≡◌, ◌<◌, ◌≤◌, ◌⊎◌, inl, inr, ℕ, Bool, true, false, ◌&&◌, nat_eq, List, [], ◌∷◌, ◌++◌, refl, sym, ap, ◌∙◌, subst, arith, if◌then◌else◌}
use Rattle.std.specs.List.{AllByRecursion}
use Rattle.std.proofs.lemmas.Bool.Decides.{nat_tests}
use Rattle.std.proofs.lemmas.List.{append-nil}
use Rattle.gm_defs.proofs.Choices.{both}
use Rattle.gm_defs.specs.declared.message.Message.{Message}
use Rattle.world_defs.specs.Lane.{LaneState}
use Rattle.duo_defs.specs.Duo.{Period, new_period, is_of, period_in}

-- a period ends before these incarnations
abbrev pub IsBefore : ℕ → ℕ → Period → Type 0
IsBefore inc known p = (p.inc < inc) ⊎ ((p.inc ≡ inc) × (p.known < known))

pub before-later : (inc known later more : ℕ) (p : Period) → (inc < later) ⊎ ((inc ≡ later) × (known ≤ more)) → IsBefore inc known p → IsBefore later more p
before-later inc known later more p (inl a) (inl b) = inl (omega (arith, a, b))
before-later inc known later more p (inl a) (inr b) = inl (let e = b.0 in omega (arith, a, e))
before-later inc known later more p (inr a) (inl b) = inl (let e = a.0 in omega (arith, e, b))
before-later inc known later more p (inr a) (inr b) = inr (b.0 ∙ a.0, let e = a.1 in let f = b.1 in omega (arith, e, f))

pub all-later : (inc known later more : ℕ) (ps : List Period) → (inc < later) ⊎ ((inc ≡ later) × (known ≤ more)) → AllByRecursion (IsBefore inc known) ps → AllByRecursion (IsBefore later more) ps
all-later inc known later more [] h all = tt
all-later inc known later more (p ∷ ps) h all = (before-later inc known later more p h all.0, all-later inc known later more ps h all.1)

-- a period that ends before isn't of these incarnations
other-period : (inc known : ℕ) (p : Period) → IsBefore inc known p → is_of inc known p ≡ false
other-period inc known p (inl a) = let e : nat_eq p.inc inc ≡ false = grind (arith, nat_tests) in rw e refl
other-period inc known p (inr a) =
    let lower : p.known < known = a.1 in
    let e : nat_eq p.known known ≡ false = grind (arith, nat_tests) in
    ap (λ (b : Bool). nat_eq p.inc inc && b) e ∙ and-false (nat_eq p.inc inc)
  where
    and-false : (b : Bool) → (b && false) ≡ false
    and-false true = refl
    and-false false = refl

pub absent : (ps : List Period) (inc known : ℕ) → AllByRecursion (IsBefore inc known) ps → period_in ps inc known ≡ new_period inc known
absent [] inc known all = refl
absent (p ∷ ps) inc known all = rw (other-period inc known p all.0) (absent ps inc known all.1)

pub at-present : (p : Period) (ps : List Period) → period_in (p ∷ ps) p.inc p.known ≡ p
at-present p ps =
    let a : nat_eq p.inc p.inc ≡ true = grind (arith, nat_tests) in
    let b : nat_eq p.known p.known ≡ true = grind (arith, nat_tests) in
    rw a (rw b refl)

-- what holds of each period, and of one in which nothing happened, holds of the one that is looked up
pub looked-up : (P : Period → Type 0) (ps : List Period) (inc known : ℕ) → P (new_period inc known) → AllByRecursion P ps → P (period_in ps inc known)
looked-up P [] inc known none all = none
looked-up P (p ∷ ps) inc known none all = by (is_of inc known p) (looked-up P ps inc known none all.1)
  where
    by : (b : Bool) → P (period_in ps inc known) → P (if b then p else period_in ps inc known)
    by true rest = all.0
    by false rest = rest

-- what a test says
pub of-inc : (inc known : ℕ) (p : Period) → is_of inc known p ≡ true → p.inc ≡ inc
of-inc inc known p e = let t = (both (nat_eq p.inc inc) (nat_eq p.known known) e).0 in grind (arith, nat_tests)

pub of-known : (inc known : ℕ) (p : Period) → is_of inc known p ≡ true → p.known ≡ known
of-known inc known p e = let t = (both (nat_eq p.inc inc) (nat_eq p.known known) e).1 in grind (arith, nat_tests)

-- A period later.
pub record PeriodGrows (p q : Period) : Type 0 where
  pub sent_more : List Message
  pub sent : q.lane.sent ≡ p.lane.sent ++ sent_more
  pub got_more : List Message
  pub got : q.lane.got ≡ p.lane.got ++ got_more

pub grown-same : (p : Period) → PeriodGrows p p
grown-same p = record { sent_more = []; sent = sym (append-nil p.lane.sent); got_more = []; got = sym (append-nil p.lane.got) }

-- Periods later: each that knows an incarnation has grown.
pub record Grow (ps qs : List Period) : Type 0 where
  pub each : (i j : ℕ) → 0 < j → PeriodGrows (period_in ps i j) (period_in qs i j)

pub grow-same : (ps : List Period) → Grow ps ps
grow-same ps = record { each = λ i j h. grown-same (period_in ps i j) }

-- the present period grows
pub grow-present : (p : Period) (ps : List Period) (l : LaneState) (sent got : List Message) → l.sent ≡ p.lane.sent ++ sent → l.got ≡ p.lane.got ++ got → Grow (p ∷ ps) (record p { lane = l } ∷ ps)
grow-present p ps l sent got e f = record { each = λ i j h. by (is_of i j p) i j }
  where
    by : (b : Bool) (i j : ℕ) → PeriodGrows (if b then p else period_in ps i j) (if b then record p { lane = l } else period_in ps i j)
    by true i j = record { sent_more = sent; sent = e; got_more = got; got = f }
    by false i j = grown-same (period_in ps i j)

-- the period of these incarnations is this one
is-new : (i j inc known : ℕ) (ps : List Period) → AllByRecursion (IsBefore inc known) ps → is_of i j (new_period inc known) ≡ true → period_in ps i j ≡ new_period i j
is-new i j inc known ps all e =
    let a : inc ≡ i = of-inc i j (new_period inc known) e in
    let b : known ≡ j = of-known i j (new_period inc known) e in
    absent ps i j (subst (λ m. AllByRecursion (IsBefore m j) ps) a (subst (λ m. AllByRecursion (IsBefore inc m) ps) b all))

-- a new period begins
pub grow-new : (inc known : ℕ) (ps : List Period) → AllByRecursion (IsBefore inc known) ps → Grow ps (new_period inc known ∷ ps)
grow-new inc known ps all = record { each = λ i j h. by i j (is_of i j (new_period inc known)) refl }
  where
    by : (i j : ℕ) (b : Bool) → is_of i j (new_period inc known) ≡ b → PeriodGrows (period_in ps i j) (if b then new_period inc known else period_in ps i j)
    by i j true e = subst (λ p. PeriodGrows p (new_period inc known)) (sym (is-new i j inc known ps all e)) (record { sent_more = []; sent = refl; got_more = []; got = refl })
    by i j false e = grown-same (period_in ps i j)

-- the first incarnation of the peer is learnt
pub grow-introduced : (p : Period) (ps : List Period) (m : ℕ) → p.known ≡ 0 → AllByRecursion (IsBefore p.inc m) ps → Grow (p ∷ ps) (record p { known = m } ∷ ps)
grow-introduced p ps m none all = record { each = λ i j h. by i j h (is_of i j p) (is_of i j (record p { known = m })) refl refl }
  where
    by : (i j : ℕ) → 0 < j → (a b : Bool) → is_of i j p ≡ a → is_of i j (record p { known = m }) ≡ b
        → PeriodGrows (if a then p else period_in ps i j) (if b then record p { known = m } else period_in ps i j)
    by i j h true b e f = absurd (let k = of-known i j p e in omega (arith, h, k, none))
    by i j h false true e f =
        let same : period_in ps i j ≡ new_period i j = is-new i j p.inc m ps all f in
        subst (λ q. PeriodGrows q (record p { known = m })) (sym same) (record { sent_more = p.lane.sent; sent = refl; got_more = p.lane.got; got = refl })
    by i j h false false e f = grown-same (period_in ps i j)

-- what was got stays as it is
pub record SameGot (ps qs : List Period) : Type 0 where
  pub each : (i j : ℕ) → (period_in qs i j).lane.got ≡ (period_in ps i j).lane.got

pub same-all : (ps : List Period) → SameGot ps ps
same-all ps = record { each = λ i j. refl }

pub same-present : (p : Period) (ps : List Period) (l : LaneState) → l.got ≡ p.lane.got → SameGot (p ∷ ps) (record p { lane = l } ∷ ps)
same-present p ps l e = record { each = λ i j. by i j (is_of i j p) }
  where
    by : (i j : ℕ) (b : Bool) → (if b then record p { lane = l } else period_in ps i j).lane.got ≡ (if b then p else period_in ps i j).lane.got
    by i j true = e
    by i j false = refl

pub same-new : (inc known : ℕ) (ps : List Period) → AllByRecursion (IsBefore inc known) ps → SameGot ps (new_period inc known ∷ ps)
same-new inc known ps all = record { each = λ i j. by i j (is_of i j (new_period inc known)) refl }
  where
    by : (i j : ℕ) (b : Bool) → is_of i j (new_period inc known) ≡ b → (if b then new_period inc known else period_in ps i j).lane.got ≡ (period_in ps i j).lane.got
    by i j true e = ap (λ p. p.lane.got) (sym (is-new i j inc known ps all e))
    by i j false e = refl

pub same-introduced : (p : Period) (ps : List Period) (m : ℕ) → p.known ≡ 0 → p.lane.got ≡ [] → AllByRecursion (IsBefore p.inc 0) ps → AllByRecursion (IsBefore p.inc m) ps → SameGot (p ∷ ps) (record p { known = m } ∷ ps)
same-introduced p ps m none nothing now later = record { each = λ i j. by i j (is_of i j p) (is_of i j (record p { known = m })) refl refl }
  where
    by : (i j : ℕ) (a b : Bool) → is_of i j p ≡ a → is_of i j (record p { known = m }) ≡ b
        → (if b then record p { known = m } else period_in ps i j).lane.got ≡ (if a then p else period_in ps i j).lane.got
    by i j true true e f = refl
    by i j true false e f =
        let a : p.inc ≡ i = of-inc i j p e in
        let b : p.known ≡ j = of-known i j p e in
        let all : AllByRecursion (IsBefore i j) ps = subst (λ m. AllByRecursion (IsBefore m j) ps) a (subst (λ m. AllByRecursion (IsBefore p.inc m) ps) (sym none ∙ b) now) in
        ap (λ q. q.lane.got) (absent ps i j all) ∙ sym nothing
    by i j false true e f = nothing ∙ ap (λ q. q.lane.got) (sym (is-new i j p.inc m ps later f))
    by i j false false e f = refl
