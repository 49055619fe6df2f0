-- What becomes of both ends where one of them emits, calls or hears.
use Rattle.std.proofs.Common.{◌≡◌, ◌<◌, ℕ, zero, suc, true, false, List, Option, Some, None, Result, Ok, Err, IfOk, refl, sym, ap, ◌∙◌, subst, arith, true≢false}
use Rattle.std.specs.Prelude.{OnErr, is_some}
use Rattle.duo_defs.specs.declared.packet.Packet.{Packet}
use Rattle.duo_defs.specs.declared.packet.Packet.TheVariants.{Hello, Data}
use Rattle.duo_defs.specs.declared.effect.DuoEffect.{DuoEffect}
use Rattle.duo_defs.specs.Duo.{EndState, DuoState, end_at, other}
use Rattle.duo_defs.specs.Emitting.{emission, put, emit}
use Rattle.duo_defs.specs.Hearing.{heard_hello, heard_data}
use Rattle.duo_defs.specs.Step.{at_end, arrive}
use Rattle.gm_restart.specs.Calls.{is_quiet}
use Rattle.gm_restart.specs.Whole.{emitted}

abbrev pub second_after : DuoState → DuoEffect × (List Packet × EndState) → DuoEffect × DuoState
second_after d r = (r.0, record d { second = r.1.1; medium = r.1.0 })

put-second : (d : DuoState) (o : Option (Packet × EndState)) → put d 1 o ≡ second_after d (emitted d.medium d.second o)
put-second d None = refl
put-second d (Some o) = refl

pub emits-second : {X : Type 0} (d later : DuoState) (ps : List Packet) (e : EndState) (host x : ℕ) (r : Result DuoEffect X) → host ≡ 1 → x ≡ 1
    → IfOk r (λ k. emitted d.medium d.second (emission host d.second) ≡ (k, (ps, e))) → later ≡ record d { second = e; medium = ps } → IfOk r (λ k. emit d x ≡ (k, later))
emits-second d later ps e host x (Ok k) at side ok so =
    let here : emitted d.medium d.second (emission 1 d.second) ≡ (k, (ps, e)) = subst (λ h. emitted d.medium d.second (emission h d.second) ≡ (k, (ps, e))) at ok in
    let made : emit d 1 ≡ (k, record d { second = e; medium = ps }) = put-second d (emission 1 d.second) ∙ ap (second_after d) here in
    subst (λ y. emit d y ≡ (k, later)) (sym side) (made ∙ ap (λ l. (k, l)) (sym so))
emits-second d later ps e host x (Err w) at side ok so = tt

-- what is emitted isn't quiet
loud : (d : DuoState) (x : ℕ) (o : Option (Packet × EndState)) → is_some o ≡ true → is_quiet (put d x o).0 ≡ false
loud d x None e = absurd (true≢false (sym e))
loud d x (Some o) e = refl

pub second-side : (x : ℕ) → x < 2 → (x ≡ 0 → ⊥) → x ≡ 1
second-side zero low other = absurd (other refl)
second-side (suc zero) low other = refl
second-side (suc (suc k)) low other = absurd (omega (arith, low))

-- ---- what the first end makes of what it hears

abbrev pub both : EndState → EndState → List Packet → DuoState
both first second ps = record { first = first; second = second; medium = ps }

first-hears : {X : Type 0} (f : EndState → DuoEffect × EndState) (first second later : EndState) (src : ℕ) (r : Result DuoEffect X) → (src ≡ 0 → ⊥) → IfOk r (λ k. f first ≡ (k, later))
    → IfOk r (λ k. (ps : List Packet) → at_end (both first second ps) (other src) (f (end_at (both first second ps) (other src))) ≡ (k, both later second ps))
first-hears f first second later zero r far ok = absurd (far refl)
first-hears f first second later (suc n) (Ok k) far ok = λ ps. ap (λ (o : DuoEffect × EndState). at_end (both first second ps) 0 o) ok
first-hears f first second later (suc n) (Err w) far ok = tt

first-loud : {X : Type 0} (f : EndState → DuoEffect × EndState) (first second : EndState) (src : ℕ) (r : Result DuoEffect X) → (src ≡ 0 → ⊥) → OnErr r (is_quiet (f first).0 ≡ false)
    → OnErr r ((ps : List Packet) → is_quiet (at_end (both first second ps) (other src) (f (end_at (both first second ps) (other src)))).0 ≡ false)
first-loud f first second zero r far loud = absurd (far refl)
first-loud f first second (suc n) (Ok k) far loud = tt
first-loud f first second (suc n) (Err w) far loud = λ ps. loud

pub hello-heard : {X : Type 0} (first second later : EndState) (p : Packet) (src inc knows : ℕ) (r : Result DuoEffect X) → p ≡ Hello src inc knows → (src ≡ 0 → ⊥)
    → IfOk r (λ k. heard_hello inc knows first ≡ (k, later)) → IfOk r (λ k. (ps : List Packet) → arrive (both first second ps) (Some p) ≡ (k, both later second ps))
hello-heard first second later p src inc knows r is far ok =
    subst (λ (q : Packet). IfOk r (λ k. (ps : List Packet) → arrive (both first second ps) (Some q) ≡ (k, both later second ps))) (sym is)
    (first-hears (heard_hello inc knows) first second later src r far ok)

pub data-heard : {X : Type 0} (first second later : EndState) (p : Packet) (src i j : ℕ) (body bytes : List ℕ) (r : Result DuoEffect X) → p ≡ Data src i j body → bytes ≡ body → (src ≡ 0 → ⊥)
    → IfOk r (λ k. heard_data i j bytes first ≡ (k, later)) → IfOk r (λ k. (ps : List Packet) → arrive (both first second ps) (Some p) ≡ (k, both later second ps))
data-heard first second later p src i j body bytes r is same far ok =
    subst (λ (q : Packet). IfOk r (λ k. (ps : List Packet) → arrive (both first second ps) (Some q) ≡ (k, both later second ps))) (sym is)
    (first-hears (heard_data i j body) first second later src r far (subst (λ (l : List ℕ). IfOk r (λ k. heard_data i j l first ≡ (k, later))) same ok))

pub data-loud : {X : Type 0} (first second : EndState) (p : Packet) (src i j : ℕ) (body bytes : List ℕ) (r : Result DuoEffect X) → p ≡ Data src i j body → bytes ≡ body → (src ≡ 0 → ⊥)
    → OnErr r (is_quiet (heard_data i j bytes first).0 ≡ false) → OnErr r ((ps : List Packet) → is_quiet (arrive (both first second ps) (Some p)).0 ≡ false)
data-loud first second p src i j body bytes r is same far loud =
    subst (λ (q : Packet). OnErr r ((ps : List Packet) → is_quiet (arrive (both first second ps) (Some q)).0 ≡ false)) (sym is)
    (first-loud (heard_data i j body) first second src r far (subst (λ (l : List ℕ). OnErr r (is_quiet (heard_data i j l first).0 ≡ false)) same loud))
