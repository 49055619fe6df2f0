-- One thing up to its last: once a bound is enough, a greater one is as good; and what is part of the way along it.
use Rattle.std.proofs.Common.{◌≡◌, ◌<◌, ◌++◌, ℕ, zero, suc, Bool, true, false, refl, ap, arith, if◌then◌else◌}
use Rattle.world_defs.specs.World.{WorldState}
use Rattle.world_defs.specs.Log.{Log, told, and_do, up_to}
use Rattle.world_defs.specs.Row.{IsPartWay}
use Rattle.log_laws.proofs.PartWay.{way-front}

-- one, and what follows it
abbrev pub onto : {A : Type 0} → (A → A → A) → Log A → Log A → Log A
onto join l m = record { value = join l.value m.value; events = l.events ++ m.events; world = m.world }

-- the first isn't the last
pub up_to-on : {A : Type 0} (join : A → A → A) (none : A) (is_last : WorldState → Log A → Bool) (one : WorldState → Log A) (k : ℕ) (w : WorldState) → is_last w (one w) ≡ false
    → up_to join none is_last one (suc k) w ≡ onto join (one w) (up_to join none is_last one k (one w).world)
up_to-on join none is_last one k w e = ap (λ b. if b then one w else and_do (one w) (λ a v. told (join a) (up_to join none is_last one k v))) e

-- the first is the last
pub up_to-last : {A : Type 0} (join : A → A → A) (none : A) (is_last : WorldState → Log A → Bool) (one : WorldState → Log A) (k : ℕ) (w : WorldState) → is_last w (one w) ≡ true
    → up_to join none is_last one (suc k) w ≡ one w
up_to-last join none is_last one k w e = ap (λ b. if b then one w else and_do (one w) (λ a v. told (join a) (up_to join none is_last one k v))) e

-- each that isn't the last lowers a measure, and keeps what that takes
pub record Lowers {A : Type 0} (is_last : WorldState → Log A → Bool) (one : WorldState → Log A) (Kept : WorldState → Type 0) (measure : WorldState → ℕ) : Type 0 where
  pub keeps : (w : WorldState) → Kept w → is_last w (one w) ≡ false → Kept (one w).world
  pub less : (w : WorldState) → Kept w → is_last w (one w) ≡ false → measure (one w).world < measure w

pub up_to-enough : {A : Type 0} (join : A → A → A) (none : A) (is_last : WorldState → Log A → Bool) (one : WorldState → Log A) (Kept : WorldState → Type 0) (measure : WorldState → ℕ) → Lowers is_last one Kept measure
    → (k j : ℕ) (w : WorldState) → Kept w → measure w < k → measure w < j → up_to join none is_last one k w ≡ up_to join none is_last one j w
up_to-enough join none is_last one Kept measure l zero j w q low high = absurd (omega (arith, low))
up_to-enough join none is_last one Kept measure l (suc k) zero w q low high = absurd (omega (arith, high))
up_to-enough {A = A} join none is_last one Kept measure l (suc k) (suc j) w q low high = by (is_last w (one w)) refl (up_to-enough join none is_last one Kept measure l k j next)
  where
    next : WorldState
    next = (one w).world

    on : ℕ → Log A
    on n = and_do (one w) (λ a v. told (join a) (up_to join none is_last one n v))

    by : (b : Bool) → is_last w (one w) ≡ b → (Kept next → measure next < k → measure next < j → up_to join none is_last one k next ≡ up_to join none is_last one j next)
        → (if b then one w else on k) ≡ (if b then one w else on j)
    by true is rest = refl
    by false is rest =
        let less = l.less w q is in
        ap (onto join (one w)) (rest (l.keeps w q is) (omega (arith, less, low)) (omega (arith, less, high)))

-- within the first
pub up_to-within : {A : Type 0} (join : A → A → A) (none : A) (is_last : WorldState → Log A → Bool) (one : WorldState → Log A) (k : ℕ) (w v : WorldState) → 0 < k → IsPartWay w (one w).events v → IsPartWay w (up_to join none is_last one k w).events v
up_to-within join none is_last one zero w v some p = absurd (omega (arith, some))
up_to-within {A = A} join none is_last one (suc k) w v some p = by (is_last w (one w))
  where
    by : (b : Bool) → IsPartWay w (if b then one w else and_do (one w) (λ a v. told (join a) (up_to join none is_last one k v))).events v
    by true = p
    by false = way-front w v (one w).events (up_to join none is_last one k (one w).world).events p
