-- All acts, from a fabric's new world on.
use Rattle.std.proofs.Common.{◌≡◌, ◌+◌, ℕ, zero, suc, Bool, cond, min, List, [], ◌∷◌, ◌++◌, replicate, count_by, is_some, Option, None, refl, ap, ◌∙◌, arith, length-append}
use Rattle.std.proofs.lemmas.List.Sums.{sum_by-append}
use Rattle.world_defs.specs.History.{first_history}
use Rattle.world_defs.specs.Crossed.{life_channels}
use Rattle.world_defs.specs.Links.{Held}
use Rattle.world_defs.proofs.Shapes.{empty-links}
use Rattle.world_defs.specs.declared.effect.Effect.{Effect}
use Rattle.world_defs.specs.declared.fault.Fault.{Fault}
use Rattle.world_defs.specs.World.{WorldState, new_world, last_count}
use Rattle.world_defs.specs.Step.{is_harm}
use Rattle.world_defs.specs.Acts.{Act, acted, acted_all}
use Rattle.counter_laws.specs.Counts.{effect_of, effects_of, strike_of, strikes_of, taken_of, taken_in, is_injection, is_copy, is_arrival, is_drop, is_loss, is_reset, is_copying, is_losing, drops}
use Rattle.counter_laws.specs.Conserved.{PacketsAreConserved, CountersAreTrue}
use Rattle.counter_laws.proofs.Acting.{came, went, Tells, acted-tells}

count-append : {A : Type 0} (p : A → Bool) (xs ys : List A) → count_by p (xs ++ ys) ≡ count_by p xs + count_by p ys
count-append p xs ys = sum_by-append (λ x. cond (p x) 1 0) xs ys

came-append : (es ys : List Effect) (fs gs : List Fault) → came (es ++ ys) (fs ++ gs) ≡ came es fs + came ys gs
came-append es ys fs gs =
    let a = count-append is_injection es ys in
    let b = count-append is_copy es ys in
    let c = count-append is_copying fs gs in
    omega (arith, a, b, c)

went-append : (es ys : List Effect) (fs gs : List Fault) → went (es ++ ys) (fs ++ gs) ≡ went es fs + went ys gs
went-append es ys fs gs =
    let a = count-append is_arrival es ys in
    let b = count-append is_drop es ys in
    let c = count-append is_loss es ys in
    let d = count-append is_losing fs gs in
    let e = count-append is_reset es ys in
    omega (arith, a, b, c, d, e)

-- one stretch of acts after another
then-tells : (w v u : WorldState) (es ys : List Effect) (fs gs : List Fault) (j k : ℕ) → Tells w v es fs j → Tells v u ys gs k → Tells w u (es ++ ys) (fs ++ gs) (j + k)
then-tells w v u es ys fs gs j k t s = record {
  links = λ is. s.links (t.links is);
  balance = λ is.
      let a = t.balance is in
      let b = s.balance (t.links is) in
      let c = came-append es ys fs gs in
      let d = went-append es ys fs gs in
      omega (arith, a, b, c, d);
  injected = let a = t.injected in let b = s.injected in let c = count-append is_injection es ys in omega (arith, a, b, c);
  dropped = λ m e. let more : m + drops es + drops ys ≡ m + drops (es ++ ys) = (let c = count-append is_drop es ys in omega (arith, c)) in s.dropped (m + drops es) (t.dropped m e) ∙ ap (λ k. min k last_count) more;
  struck = let a = t.struck in let b = s.struck in let c = length-append fs gs in omega (arith, a, b, c);
  harmed = let a = t.harmed in let b = s.harmed in let c = count-append is_harm fs gs in omega (arith, a, b, c);
}

none-tells : (w : WorldState) → Tells w w [] [] 0
none-tells w = record { links = λ is. is; balance = λ is. refl; injected = omega arith; dropped = λ m e. e ∙ ap (λ k. min k last_count) (omega arith); struck = omega arith; harmed = omega arith }

all-tell : (w : WorldState) (acts : List Act) → Tells w (acted_all w acts) (effects_of w acts) (strikes_of w acts) (taken_in w acts)
all-tell w [] = none-tells w
all-tell w (a ∷ acts) = then-tells w (acted w a) (acted_all (acted w a) acts) (effect_of w a) (effects_of (acted w a) acts) (strike_of w a) (strikes_of (acted w a) acts) (taken_of w a) (taken_in (acted w a) acts) (acted-tells w a) (all-tell (acted w a) acts)

-- a new world has no packets
no_packets : (k : ℕ) → count_by is_some (replicate {A = Option Held} k None) ≡ 0
no_packets zero = refl
no_packets (suc k) = no_packets k

pub packets-conserved : PacketsAreConserved
packets-conserved n acts =
    let t : Tells (new_world n) (acted_all (new_world n) acts) (effects_of (new_world n) acts) (strikes_of (new_world n) acts) (taken_in (new_world n) acts) = all-tell (new_world n) acts in
    let none = no_packets (life_channels (first_history n)) in
    let balance = t.balance (empty-links n) in
    omega (arith, none, balance)

pub counters-true : CountersAreTrue
counters-true n acts =
    let t : Tells (new_world n) (acted_all (new_world n) acts) (effects_of (new_world n) acts) (strikes_of (new_world n) acts) (taken_in (new_world n) acts) = all-tell (new_world n) acts in
    record {
      injected = let a = t.injected in omega (arith, a);
      dropped = t.dropped 0 (omega arith) ∙ ap (λ k. min k last_count) (omega arith);
      struck = let a = t.struck in omega (arith, a);
      harmed = let a = t.harmed in omega (arith, a);
    }
