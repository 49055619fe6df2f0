-- Tries in a row, under way.
use Rattle.std.proofs.Common.{◌≡◌, ◌<◌, ◌-◌, ℕ, ℤ, zero, suc, List, ◌∷◌, Bool, true, false, ◌&&◌, refl, sym, ◌∙◌, ap, arith, if◌then◌else◌}
use Rattle.world_defs.specs.World.{WorldState, host_count}
use Rattle.world_defs.specs.declared.event.Event.TheVariants.{Ask}
use Rattle.world_defs.specs.Step.{step, after_all}
use Rattle.world_defs.specs.Logs as log
use Rattle.world_defs.specs.Log.{Log, told, and_do}
use Rattle.world_defs.specs.Logs.{Tried, tries}
use Rattle.world_defs.specs.Row.{IsPartWay}
use Rattle.log_laws.proofs.PartWay.{way-front}
use Rattle.log_laws.proofs.UpTo.{up_to-on, up_to-within}
use Rattle.log_laws.proofs.UnderWay.{UnderWay, under_way-none, under_way-on, under_way-cut, behind}

-- a fault met all that were made, or not, and those after them
abbrev pub also : {A : Type 0} → Bool → Tried A → Tried A
also harmed t = record t { harmed = harmed && t.harmed }

abbrev both_tried : {A : Type 0} → Tried A → Tried A → Tried A
both_tried t u = also t.harmed u

-- Tries under way: so many are left, and a fault met all that were made, or not.
pub record Trying {A : Type 0} (is_found : A → Bool) (nothing : A) (one : WorldState → Log (Tried A)) (k : ℕ) (first now : WorldState) (left : ℕ) (harmed : Bool) : Type 0 where
  pub way : UnderWay (also harmed) (tries is_found nothing one k first) first now (tries is_found nothing one left now)
  pub hosts : host_count now ≡ host_count first

pub trying-none : {A : Type 0} (is_found : A → Bool) (nothing : A) (one : WorldState → Log (Tried A)) (k : ℕ) (w : WorldState) → Trying is_found nothing one k w w k true
trying-none is_found nothing one k w = record { way = under_way-none w (tries is_found nothing one k w); hosts = refl }

-- the last found something
pub trying-found : {A : Type 0} (is_found : A → Bool) (nothing : A) (one : WorldState → Log (Tried A)) (k : ℕ) (first now : WorldState) (left : ℕ) (harmed : Bool)
    → Trying is_found nothing one k first now left harmed → 0 < left → is_found (one now).value.found ≡ true
    → ((tries is_found nothing one k first).value ≡ also harmed (one now).value) × ((tries is_found nothing one k first).world ≡ (one now).world)
trying-found is_found nothing one k first now zero harmed t some e = absurd (omega (arith, some))
trying-found {A = A} is_found nothing one k first now (suc n) harmed t some e =
    let opened : tries is_found nothing one (suc n) now ≡ one now = ap (λ b. if b then one now else and_do (one now) (λ a v. told (both_tried a) (tries is_found nothing one n v))) e in
    let whole : tries is_found nothing one k first ≡ behind (also harmed) t.way.done (one now) = t.way.all ∙ ap (behind (also harmed) t.way.done) opened in
    (ap (λ l. l.value) whole, ap (λ l. l.world) whole)

and-assoc : (a b c : Bool) → (a && (b && c)) ≡ ((a && b) && c)
and-assoc true b c = refl
and-assoc false b c = refl

-- it found nothing
pub trying-on : {A : Type 0} (is_found : A → Bool) (nothing : A) (one : WorldState → Log (Tried A)) (k : ℕ) (first now next : WorldState) (left after : ℕ) (harmed both : Bool)
    → Trying is_found nothing one k first now left harmed → 0 < left → after ≡ left - 1 → is_found (one now).value.found ≡ false → next ≡ (one now).world → (one now).world ≡ after_all now (one now).events
    → host_count next ≡ host_count now → both ≡ (harmed && (one now).value.harmed)
    → Trying is_found nothing one k first next after both
trying-on is_found nothing one k first now next zero after harmed both t some less e is led hosts made = absurd (omega (arith, some))
trying-on {A = A} is_found nothing one k first now next (suc n) after harmed both t some less e is led hosts made =
    let fewer : after ≡ n = omega (arith, less) in
    let left : Log (Tried A) = tries is_found nothing one after next in
    let opened : tries is_found nothing one (suc n) now ≡ behind (also (one now).value.harmed) (one now).events left =
    up_to-on {A = Tried A} both_tried (record { found = nothing; harmed = true }) (λ before u. is_found u.value.found) one n now e
    ∙ (λ i. behind (also (one now).value.harmed) (one now).events (tries is_found nothing one (sym fewer i) (sym is i))) in
    record {
      way = under_way-on (also (one now).value.harmed) (also both) next (one now).events left t.way (is ∙ led) opened
          (λ u. ap (λ b. record u { harmed = b }) (and-assoc harmed (one now).value.harmed u.harmed ∙ ap (λ b. b && u.harmed) (sym made)));
      hosts = hosts ∙ t.hosts;
    }

-- memory ran out within a try
pub trying-cut : {A : Type 0} (is_found : A → Bool) (nothing : A) (one : WorldState → Log (Tried A)) (k : ℕ) (first now v : WorldState) (left : ℕ) (harmed : Bool)
    → Trying is_found nothing one k first now left harmed → 0 < left → IsPartWay now (one now).events v → IsPartWay first (tries is_found nothing one k first).events v
trying-cut {A = A} is_found nothing one k first now v left harmed t some p =
    under_way-cut v t.way (up_to-within {A = Tried A} both_tried (record { found = nothing; harmed = true }) (λ before u. is_found u.value.found) one left now v some p)

and-true : (b : Bool) → (b && true) ≡ b
and-true true = refl
and-true false = refl

-- none is left
pub trying-all : {A : Type 0} (is_found : A → Bool) (nothing : A) (one : WorldState → Log (Tried A)) (k : ℕ) (first now : WorldState) (left : ℕ) (harmed : Bool)
    → Trying is_found nothing one k first now left harmed → left ≡ 0
    → (nothing ≡ (tries is_found nothing one k first).value.found) × (harmed ≡ (tries is_found nothing one k first).value.harmed) × (now ≡ (tries is_found nothing one k first).world)
trying-all is_found nothing one k first now left harmed t none =
    let whole = sym (t.way.all ∙ ap (λ n. behind (also harmed) t.way.done (tries is_found nothing one n now)) none) in
    (ap (λ l. l.value.found) whole, sym (and-true harmed) ∙ ap (λ l. l.value.harmed) whole, ap (λ l. l.world) whole)

-- ---- along the probe of one try
pub host_try-sent : (mapper : ℕ) (walk : List ℤ) (w v : WorldState) → IsPartWay w (Ask mapper walk false ∷ (log.sends mapper (step w (Ask mapper walk false)).1).events) v → IsPartWay w (log.host_try mapper walk w).events v
unfolding log.host_try
host_try-sent mapper walk w v p = way-front w v (Ask mapper walk false ∷ (log.sends mapper (step w (Ask mapper walk false)).1).events) _ p

pub loop_try-sent : (mapper : ℕ) (walk : List ℤ) (w v : WorldState) → IsPartWay w (Ask mapper walk true ∷ (log.sends mapper (step w (Ask mapper walk true)).1).events) v → IsPartWay w (log.loop_try mapper walk w).events v
unfolding log.loop_try
loop_try-sent mapper walk w v p = way-front w v (Ask mapper walk true ∷ (log.sends mapper (step w (Ask mapper walk true)).1).events) _ p
