-- What is repeated: what holds of each holds of all, and a bound that each lowers is enough.
use Rattle.std.proofs.Common.{◌≡◌, ◌<◌, ℕ, zero, suc, Bool, true, false, List, [], ◌∷◌, refl, sym, ◌∙◌, ap, subst, arith, true≢false, if◌then◌else◌}
use Rattle.world_defs.specs.World.{WorldState}
use Rattle.world_defs.specs.Log.{Log, told, still, and_do, for_each, up_to}
use Rattle.world_defs.specs.Logs.{Rounds}
use Rattle.world_laws.specs.Repeats.{Repeats}

-- no round was done
abbrev pub no_rounds : Rounds
no_rounds = record { rounds = 0; resets = 0 }

-- a relation from worlds to logs that holds of one after the other
pub record Chains {A : Type 0} (join : A → A → A) (none : A) (R : WorldState → Log A → Type 0) : Type 0 where
  pub same : (w : WorldState) → R w (still none w)
  pub both : (w : WorldState) (l m : Log A) → R w l → R l.world m → R w (and_do l (λ a v. told (join a) m))

pub either : {A : Type 0} (R : WorldState → Log A → Type 0) (w : WorldState) (l m : Log A) (b : Bool) → R w l → R w m → R w (if b then l else m)
either R w l m true p q = p
either R w l m false p q = q

pub each-chain : {A X : Type 0} (join : A → A → A) (none : A) (R : WorldState → Log A → Type 0) → Chains join none R → (one : X → WorldState → Log A) → ((x : X) (v : WorldState) → R v (one x v)) → (xs : List X) (w : WorldState) → R w (for_each join none one xs w)
each-chain join none R c one all [] w = c.same w
each-chain join none R c one all (x ∷ xs) w =
    let next : WorldState = (one x w).world in
    c.both w (one x w) (for_each join none one xs next) (all x w) (each-chain join none R c one all xs next)

pub up_to-chain : {A : Type 0} (join : A → A → A) (none : A) (R : WorldState → Log A → Type 0) → Chains join none R → (is_last : WorldState → Log A → Bool) (one : WorldState → Log A) → ((v : WorldState) → R v (one v)) → (k : ℕ) (w : WorldState) → R w (up_to join none is_last one k w)
up_to-chain join none R c is_last one all zero w = c.same w
up_to-chain join none R c is_last one all (suc k) w =
    let next : WorldState = (one w).world in
    either R w (one w) (and_do (one w) (λ a v. told (join a) (up_to join none is_last one k v))) (is_last w (one w)) (all w) (c.both w (one w) (up_to join none is_last one k next) (all w) (up_to-chain join none R c is_last one all k next))

-- a bound on a measure that all but the last lower is enough
pub up_to-repeats : {A : Type 0} (join : A → A → A) (none : A) (is_last : WorldState → Log A → Bool) (one : WorldState → Log A) (I : WorldState → Type 0) (measure : WorldState → ℕ)
    → ((v : WorldState) → I v → is_last v (one v) ≡ false → I (one v).world × (measure (one v).world < measure v)) → (k : ℕ) (w : WorldState) → I w → measure w < k → Repeats join is_last one w (up_to join none is_last one k w)
up_to-repeats join none is_last one I measure less zero w i low = absurd (omega (arith, low))
up_to-repeats {A = A} join none is_last one I measure less (suc k) w i low = by (is_last w (one w)) refl (up_to-repeats join none is_last one I measure less k (one w).world)
  where
    rest : A → WorldState → Log A
    rest = λ a v. told (join a) (up_to join none is_last one k v)

    by : (t : Bool) → is_last w (one w) ≡ t → (I (one w).world → measure (one w).world < k → Repeats join is_last one (one w).world (up_to join none is_last one k (one w).world)) → Repeats join is_last one w (if t then one w else and_do (one w) rest)
    by true e ih = Repeats.last e
    by false e ih = let next = less w i e in let lower = next.1 in Repeats.another e (ih next.0 (omega (arith, lower, low))) refl

pub repeats-one : {A : Type 0} (join : A → A → A) (is_last : WorldState → Log A → Bool) (one : WorldState → Log A) (w : WorldState) (l m : Log A) → Repeats join is_last one w l → Repeats join is_last one w m → l ≡ m
repeats-one join is_last one w l m (Repeats.last e) (Repeats.last f) = refl
repeats-one join is_last one w l m (Repeats.last e) (Repeats.another f q h) = absurd (true≢false (sym e ∙ f))
repeats-one join is_last one w l m (Repeats.another e p d) (Repeats.last f) = absurd (true≢false (sym f ∙ e))
repeats-one join is_last one w l m (Repeats.another {l = x} e p d) (Repeats.another {l = y} f q h) =
    d ∙ (ap (λ z. and_do (one w) (λ a v. told (join a) z)) (repeats-one join is_last one (one w).world x y p q) ∙ sym h)

-- what holds after each that is the last
pub repeats-end : {A : Type 0} (join : A → A → A) (is_last : WorldState → Log A → Bool) (one : WorldState → Log A) (P : WorldState → Type 0) → ((v : WorldState) → is_last v (one v) ≡ true → P (one v).world) → (w : WorldState) (l : Log A) → Repeats join is_last one w l → P l.world
repeats-end join is_last one P all w l (Repeats.last e) = all w e
repeats-end join is_last one P all w l (Repeats.another {l = x} e p d) = subst (λ z. P z.world) (sym d) (repeats-end join is_last one P all (one w).world x p)
