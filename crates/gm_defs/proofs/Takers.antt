-- Which token takes a fragment, and what a port is once one did.
use Rattle.std.proofs.Common.{◌≡◌, ◌<◌, ℕ, zero, suc, Bool, true, false, ◌&&◌, not, List, [], ◌∷◌, find, nat_eq, Option, Some, None, is_some, is_none, ◌⊎◌, inl, inr, refl, sym, ap, ◌∙◌, subst, arith, true≢false, if◌then◌else◌}
use Rattle.std.specs.Prelude.{slice_get}
use Rattle.std.proofs.lemmas.Bool.Decides.{nat_tests}
use Rattle.std.proofs.lemmas.Option.{same_Some}
use Rattle.gm_defs.specs.declared.frame.FrameHead.{FrameHead}
use Rattle.gm_defs.specs.Body.{is_last}
use Rattle.gm_defs.specs.declared.token.Filling.{Filling}
use Rattle.gm_defs.specs.Token.{Provided, PortState, fits, has_begun, is_free_for, fitting, holds_before, takes, takes_at, taker, can_take}
use Rattle.gm_defs.specs.Port.{ended_with, going_on_with, taken_by, delivered}
use Rattle.gm_defs.specs.Laws.{BeginsThere, GoesOnThere, TakenInTwoCases}
use Rattle.gm_defs.proofs.Choices.{both}

-- an element that is found is one of the list and passes the test
pub record IsFound {A : Type 0} (test : A → Bool) (xs : List A) (x : A) : Type 0 where
  pub place : ℕ
  pub there : slice_get xs place ≡ Some x
  pub passes : test x ≡ true

pub found : {A : Type 0} (test : A → Bool) (xs : List A) (x : A) → find test xs ≡ Some x → IsFound test xs x
found test [] x e = cc
found test (y ∷ xs) x e = by (test y) refl e (found test xs x)
  where
    by : (b : Bool) → test y ≡ b → (if b then Some y else find test xs) ≡ Some x → (find test xs ≡ Some x → IsFound test xs x) → IsFound test (y ∷ xs) x
    by true t d rest = let same : y ≡ x = same_Some y x d in record { place = 0; there = ap Some same; passes = subst (λ z. test z ≡ true) same t }
    by false t d rest = let r = rest d in record { place = suc r.place; there = r.there; passes = r.passes }

-- one of a list that passes a test is found, or one before it is
pub finds : {A : Type 0} (test : A → Bool) (xs : List A) (place : ℕ) (x : A) → slice_get xs place ≡ Some x → test x ≡ true → is_some (find test xs) ≡ true
finds test [] place x e t = cc
finds test (y ∷ xs) place x e t = by (test y) refl place e (finds test xs)
  where
    by : (b : Bool) → test y ≡ b → (k : ℕ) → slice_get (y ∷ xs) k ≡ Some x → ((j : ℕ) (z : _) → slice_get xs j ≡ Some z → test z ≡ true → is_some (find test xs) ≡ true) → is_some (if b then Some y else find test xs) ≡ true
    by true u k d rest = refl
    by false u zero d rest = let same : y ≡ x = same_Some y x d in absurd (true≢false (sym t ∙ sym (ap test same) ∙ u))
    by false u (suc k) d rest = rest k x d t

some-found : {A : Type 0} (o : Option A) → is_some o ≡ true → (x : A) × (o ≡ Some x)
some-found (Some x) e = (x, refl)
some-found None e = cc

equal : (a b : ℕ) → nat_eq a b ≡ true → a ≡ b
equal a b e = grind (arith, nat_tests)

differ : (a : ℕ) → nat_eq a 0 ≡ false → 0 < a
differ a e = grind (arith, nat_tests)

above : (a : ℕ) → 0 < a → nat_eq a 0 ≡ false
above a e = grind (arith, nat_tests)

same : (a b : ℕ) → a ≡ b → nat_eq a b ≡ true
same a b e = grind (arith, nat_tests)

-- the test of a token, by where the fragment begins
takes-first : (h : FrameHead) (begun : Bool) (r : Provided) → nat_eq h.offset 0 ≡ true → takes h begun r ≡ (not begun && is_free_for h.total h.prio r)
takes-first h begun r e = ap (λ b. if b then not begun && is_free_for h.total h.prio r else holds_before h r.filling && nat_eq r.prio h.prio) e

takes-later : (h : FrameHead) (begun : Bool) (r : Provided) → nat_eq h.offset 0 ≡ false → takes h begun r ≡ (holds_before h r.filling && nat_eq r.prio h.prio)
takes-later h begun r e = ap (λ b. if b then not begun && is_free_for h.total h.prio r else holds_before h r.filling && nat_eq r.prio h.prio) e

-- What is known of the token that takes a fragment: it is free for the whole message, or holds what comes before.
pub data IsTaker (p : PortState) (h : FrameHead) (r : Provided) : Type 0 where
  opens : h.offset ≡ 0 → has_begun p h.src h.prio ≡ false → r.filling ≡ None → fits r.size r.prio h.total h.prio ≡ true → IsTaker p h r
  goes_on : (f : Filling) → 0 < h.offset → r.filling ≡ Some f → f.src ≡ h.src → f.total ≡ h.total → f.held ≡ h.offset → r.prio ≡ h.prio → IsTaker p h r

not-false : (b : Bool) → not b ≡ true → b ≡ false
not-false true e = cc
not-false false e = refl

none-is : {A : Type 0} (o : Option A) → is_none o ≡ true → o ≡ None
none-is None e = refl
none-is (Some x) e = cc

holds-is : (h : FrameHead) (o : Option Filling) → holds_before h o ≡ true → (f : Filling) × ((o ≡ Some f) × ((f.src ≡ h.src) × ((f.total ≡ h.total) × (f.held ≡ h.offset))))
holds-is h None e = cc
holds-is h (Some f) e =
    let last = both (nat_eq f.src h.src && nat_eq f.total h.total) (nat_eq f.held h.offset) e in
    let first = both (nat_eq f.src h.src) (nat_eq f.total h.total) last.0 in
    (f, (refl, (equal f.src h.src first.0, (equal f.total h.total first.1, equal f.held h.offset last.1))))

pub passes-taker : (p : PortState) (h : FrameHead) (r : Provided) → takes_at p h r ≡ true → IsTaker p h r
passes-taker p h r e = by (nat_eq h.offset 0) refl
  where
    by : (b : Bool) → nat_eq h.offset 0 ≡ b → IsTaker p h r
    by true t =
        let parts = both (not (has_begun p h.src h.prio)) (is_free_for h.total h.prio r) (sym (takes-first h (has_begun p h.src h.prio) r t) ∙ e) in
        let free = both (is_none r.filling) (fits r.size r.prio h.total h.prio) parts.1 in
        IsTaker.opens (equal h.offset 0 t) (not-false (has_begun p h.src h.prio) parts.0) (none-is r.filling free.0) free.1
    by false t =
        let parts = both (holds_before h r.filling) (nat_eq r.prio h.prio) (sym (takes-later h (has_begun p h.src h.prio) r t) ∙ e) in
        let k = holds-is h r.filling parts.0 in
        IsTaker.goes_on k.0 (differ h.offset t) k.1.0 k.1.1.0 k.1.1.1.0 k.1.1.1.1 (equal r.prio h.prio parts.1)

-- a fragment is taken in two cases
begins-there : (p : PortState) (h : FrameHead) (r : Provided) → find (takes_at p h) p.provided ≡ Some r → h.offset ≡ 0 → BeginsThere p h
begins-there p h r e first = by (IsFound.passes (found (takes_at p h) p.provided r e)) (found (takes_at p h) p.provided r e)
  where
    by : takes_at p h r ≡ true → IsFound (takes_at p h) p.provided r → BeginsThere p h
    by t at =
        let parts = both (not (has_begun p h.src h.prio)) (is_free_for h.total h.prio r) (sym (takes-first h (has_begun p h.src h.prio) r (same h.offset 0 first)) ∙ t) in
        record { first = first; not_begun = not-false (has_begun p h.src h.prio) parts.0; free = finds (is_free_for h.total h.prio) p.provided at.place r at.there parts.1 }

pub taken-two_ways : (p : PortState) (h : FrameHead) → can_take p h ≡ true → BeginsThere p h ⊎ GoesOnThere p h
taken-two_ways p h e =
    let o = some-found (taker p h) e in
    let at = found (takes_at p h) p.provided o.0 o.1 in
    by o.0 o.1 at (passes-taker p h o.0 at.passes)
  where
    by : (r : Provided) → taker p h ≡ Some r → IsFound (takes_at p h) p.provided r → IsTaker p h r → BeginsThere p h ⊎ GoesOnThere p h
    by r d at (IsTaker.opens a b c f) = inl (begins-there p h r d a)
    by r d at (IsTaker.goes_on f a b c t k m) = inr (record { later = a; place = at.place; token = r; message = f; there = at.there; filling = b; src = c; prio = m; total = t; held = k })

begins-taken : (p : PortState) (h : FrameHead) → BeginsThere p h → can_take p h ≡ true
begins-taken p h b =
    let o = some-found (fitting p h.total h.prio) b.free in
    let at = found (is_free_for h.total h.prio) p.provided o.0 o.1 in
    finds (takes_at p h) p.provided at.place o.0 at.there
    (takes-first h (has_begun p h.src h.prio) o.0 (same h.offset 0 b.first) ∙ (λ i. not (b.not_begun i) && at.passes i))

goes_on-passes : (p : PortState) (h : FrameHead) (r : Provided) (f : Filling) → 0 < h.offset → r.filling ≡ Some f → f.src ≡ h.src → f.total ≡ h.total → f.held ≡ h.offset → r.prio ≡ h.prio → takes_at p h r ≡ true
goes_on-passes p h r f a b c t k m =
    takes-later h (has_begun p h.src h.prio) r (above h.offset a)
    ∙ (λ i. holds_before h (b i) && same r.prio h.prio m i)
    ∙ (λ i. (same f.src h.src c i && same f.total h.total t i && same f.held h.offset k i) && true)

pub goes_on-taken : (p : PortState) (h : FrameHead) → GoesOnThere p h → can_take p h ≡ true
goes_on-taken p h g = finds (takes_at p h) p.provided g.place g.token g.there (goes_on-passes p h g.token g.message g.later g.filling g.src g.total g.held g.prio)

pub two-cases : TakenInTwoCases
two-cases p h = (taken-two_ways p h, λ s. back s)
  where
    back : BeginsThere p h ⊎ GoesOnThere p h → can_take p h ≡ true
    back (inl b) = begins-taken p h b
    back (inr g) = goes_on-taken p h g

-- What a fragment makes of a port.
pub data Delivery (p : PortState) (h : FrameHead) (part : List ℕ) : PortState → Type 0 where
  missed : taker p h ≡ None → Delivery p h part p
  ends : (r : Provided) → taker p h ≡ Some r → is_last h.total h.offset ≡ true → Delivery p h part (ended_with p h part r)
  goes_on : (r : Provided) → taker p h ≡ Some r → is_last h.total h.offset ≡ false → Delivery p h part (going_on_with p h part r)

pub delivery : (p : PortState) (h : FrameHead) (part : List ℕ) → Delivery p h part (delivered p h part)
delivery p h part = by (taker p h) refl
  where
    last-or : (r : Provided) (b : Bool) → taker p h ≡ Some r → is_last h.total h.offset ≡ b → Delivery p h part (if b then ended_with p h part r else going_on_with p h part r)
    last-or r true e t = Delivery.ends r e t
    last-or r false e t = Delivery.goes_on r e t

    by : (o : Option Provided) → taker p h ≡ o → Delivery p h part (taken_by p h part o)
    by None e = Delivery.missed e
    by (Some r) e = last-or r (is_last h.total h.offset) e refl
