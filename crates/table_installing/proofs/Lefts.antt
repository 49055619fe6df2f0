-- What is left of an installation by its works, as a log, and what one try makes of it.
use Rattle.std.proofs.Common.{◌≡◌, ◌<◌, ◌≤◌, ◌+◌, ◌-◌, ℕ, zero, suc, Bool, true, false, not, ◌&&◌, ◌||◌, nat_le, List, [], ◌∷◌, ◌++◌, Some, refl, sym, ◌∙◌, ap, subst, arith, if◌then◌else◌}
use Rattle.std.specs.Prelude.{find}
use Rattle.std.specs.List.{range_with_len, list_all}
use Rattle.std.proofs.lemmas.Bool.{and_parts}
use Rattle.std.proofs.lemmas.Bool.Decides.{nat_tests}
use Rattle.std.proofs.lemmas.List.{append_assoc}
use Rattle.world_defs.specs.declared.event.Event.{Event}
use Rattle.world_defs.specs.World.{WorldState}
use Rattle.world_defs.specs.Log.{Log, still, told as tell, and_do, for_each}
use Rattle.world_defs.specs.Logs as log
use Rattle.route_install.specs.declared.installer.Work.{Work}
use Rattle.route_install.specs.Installing.{is_acked, is_done, one_acked, one_silent, changed}

-- tries of a part, up to the first that is acknowledged
abbrev tried : ℕ → ℕ → ℕ → ℕ → WorldState → Log (log.Tried Bool)
tried mapper dst part n = log.tries (λ b. b) false (log.part_try mapper dst part) n

-- so many parts of a host after tries of the one before them
abbrev parts_behind : (mapper tries dst part n : ℕ) → Log (log.Tried Bool) → Log Bool
parts_behind mapper tries dst part n l = and_do l (λ t v. if t.found then log.parts mapper dst tries (range_with_len (part + 1) n) v else still false v)

-- so many parts of a host from one on, which met silence so often
abbrev from_part : (mapper tries dst part silences : ℕ) → ℕ → WorldState → Log Bool
from_part mapper tries dst part silences zero w = still true w
from_part mapper tries dst part silences (suc n) w = parts_behind mapper tries dst part n (tried mapper dst part (tries - silences) w)

-- what is left of a work
abbrev pub left_of : ℕ → ℕ → Work → WorldState → Log Bool
left_of mapper tries k w = from_part mapper tries k.host k.acked k.silences (k.parts - k.acked) w

-- what is left of works in order: how many will have all parts acknowledged
abbrev pub all_left : ℕ → ℕ → List Work → WorldState → Log ℕ
all_left mapper tries = for_each (λ m n. m + n) 0 (λ k w. tell (λ b. if b then 1 else 0) (left_of mapper tries k w))

-- events, and then what a log is
abbrev pub behind : {A : Type 0} → List Event → Log A → Log A
behind es l = record { value = l.value; events = es ++ l.events; world = l.world }

-- a part that met no silence
fresh-left : (mapper tries dst part n : ℕ) (w : WorldState) → from_part mapper tries dst part 0 n w ≡ log.parts mapper dst tries (range_with_len part n) w
fresh-left mapper tries dst part zero w = refl
fresh-left mapper tries dst part (suc n) w =
    let all : tries - 0 ≡ tries = omega arith in
    ap (λ m. parts_behind mapper tries dst part n (tried mapper dst part m w)) all

-- a work that begins is all parts of its host
pub new-left : (mapper tries dst parts : ℕ) (w : WorldState) → from_part mapper tries dst 0 0 (parts - 0) w ≡ log.parts mapper dst tries (range_with_len 0 parts) w
new-left mapper tries dst parts w =
    let all : parts - 0 ≡ parts = omega arith in
    ap (λ n. from_part mapper tries dst 0 0 n w) all ∙ fresh-left mapper tries dst 0 parts w

-- ---- a work that is done
-- What is known of one: all its parts are acknowledged, or one is and all its tries met silence.
data Ended (tries : ℕ) (k : Work) : Type 0 where
  whole : is_acked k ≡ true → k.parts - k.acked ≡ 0 → Ended tries k
  silent : is_acked k ≡ false → k.parts - k.acked ≡ suc (k.parts - k.acked - 1) → tries - k.silences ≡ 0 → Ended tries k

ended : (tries : ℕ) (k : Work) → is_done tries k ≡ true → Ended tries k
ended tries k e = by (nat_le k.parts k.acked) refl
  where
    by : (b : Bool) → nat_le k.parts k.acked ≡ b → Ended tries k
    by true t =
        let le : k.parts ≤ k.acked = grind (arith, nat_tests) in
        whole t (omega (arith, le))
    by false f =
        let up : nat_le tries k.silences ≡ true = sym (ap (λ b. b || nat_le tries k.silences) f) ∙ e in
        let le : tries ≤ k.silences = grind (arith, nat_tests) in
        let lt : k.acked < k.parts = grind (arith, nat_tests) in
        silent f (omega (arith, lt)) (omega (arith, le))

done-left : (mapper tries : ℕ) (k : Work) (w : WorldState) → is_done tries k ≡ true → left_of mapper tries k w ≡ still (is_acked k) w
done-left mapper tries k w e = by (ended tries k e)
  where
    by : Ended tries k → left_of mapper tries k w ≡ still (is_acked k) w
    by (whole t none) = ap (λ n. from_part mapper tries k.host k.acked k.silences n w) none ∙ ap (λ (b : Bool). still b w) (sym t)
    by (silent f some none) =
        ap (λ n. from_part mapper tries k.host k.acked k.silences n w) some
        ∙ ap (λ m. parts_behind mapper tries k.host k.acked (k.parts - k.acked - 1) (tried mapper k.host k.acked m w)) none
        ∙ ap (λ (b : Bool). still b w) (sym f)

-- ---- a try of an open work
-- a work after a try
abbrev pub told : Bool → Work → Work
told true = one_acked
told false = one_silent

-- How many parts and tries are left of an open work, but one.
record IsOpen (tries : ℕ) (k : Work) : Type 0 where
  rest : ℕ
  again : ℕ
  parts : k.parts - k.acked ≡ suc rest
  behind : k.parts - (k.acked + 1) ≡ rest
  tries_left : tries - k.silences ≡ suc again
  tries_behind : tries - (k.silences + 1) ≡ again

opened : (tries : ℕ) (k : Work) → is_done tries k ≡ false → IsOpen tries k
opened tries k e =
    let lt : k.acked < k.parts = grind (arith, nat_tests) in
    let st : k.silences < tries = grind (arith, nat_tests) in
    record {
      rest = k.parts - k.acked - 1;
      again = tries - k.silences - 1;
      parts = omega (arith, lt);
      behind = omega (arith, lt);
      tries_left = omega (arith, st);
      tries_behind = omega (arith, st);
    }

-- a try leaves of its work what was left before it, but for its own events
pub try-left : (mapper tries : ℕ) (k : Work) (w : WorldState) (found : Bool) → is_done tries k ≡ false → (log.part_try mapper k.host k.acked w).value.found ≡ found
    → left_of mapper tries k w ≡ behind (log.part_try mapper k.host k.acked w).events (left_of mapper tries (told found k) (log.part_try mapper k.host k.acked w).world)
try-left mapper tries k w found e f = begins ∙ by found f
  where
    o : IsOpen tries k
    o = opened tries k e

    one : Log (log.Tried Bool)
    one = log.part_try mapper k.host k.acked w

    more : WorldState → Log Bool
    more = log.parts mapper k.host tries (range_with_len (k.acked + 1) o.rest)

    again : Log (log.Tried Bool)
    again = tried mapper k.host k.acked o.again one.world

    rest : Log Bool
    rest = if again.value.found then more again.world else still false again.world

    both : log.Tried Bool → log.Tried Bool → log.Tried Bool
    both a u = record u { harmed = a.harmed && u.harmed }

    first : Bool → Log (log.Tried Bool)
    first b = if b then one else and_do one (λ a v. tell (both a) (tried mapper k.host k.acked o.again v))

    begins : left_of mapper tries k w ≡ parts_behind mapper tries k.host k.acked o.rest (first one.value.found)
    begins =
        ap (λ n. from_part mapper tries k.host k.acked k.silences n w) o.parts
        ∙ ap (λ m. parts_behind mapper tries k.host k.acked o.rest (tried mapper k.host k.acked m w)) o.tries_left

    by : (b : Bool) → one.value.found ≡ b → parts_behind mapper tries k.host k.acked o.rest (first one.value.found) ≡ behind one.events (left_of mapper tries (told b k) one.world)
    by true is =
        ap (λ b. parts_behind mapper tries k.host k.acked o.rest (first b)) is
        ∙ ap (λ b. behind one.events (if b then more one.world else still false one.world)) is
        ∙ ap (behind one.events) (sym (ap (λ n. from_part mapper tries k.host (k.acked + 1) 0 n one.world) o.behind ∙ fresh-left mapper tries k.host (k.acked + 1) o.rest one.world))
    by false is =
        ap (λ b. parts_behind mapper tries k.host k.acked o.rest (first b)) is
        ∙ ap (λ es. record { value = rest.value; events = es; world = rest.world }) (append_assoc one.events again.events rest.events)
        ∙ ap (behind one.events)
        (sym (ap (λ n. from_part mapper tries k.host k.acked (k.silences + 1) n one.world) o.parts ∙ ap (λ m. parts_behind mapper tries k.host k.acked o.rest (tried mapper k.host k.acked m one.world)) o.tries_behind))

-- ---- all works
-- a work, and what is left of others in the world that it leaves
abbrev pub counted : Log Bool → (WorldState → Log ℕ) → Log ℕ
counted l rest = and_do (tell (λ b. if b then 1 else 0) l) (λ m v. tell (λ n. m + n) (rest v))

-- what is left of all works is a try of the first open one, and what is left then
pub all-on : (mapper tries : ℕ) (f : Work → Work) (k : Work) (ks : List Work) (w next : WorldState) (es : List Event) → find (λ x. not (is_done tries x)) ks ≡ Some k
    → left_of mapper tries k w ≡ behind es (left_of mapper tries (f k) next) → all_left mapper tries ks w ≡ behind es (all_left mapper tries (changed (is_done tries) f ks) next)
all-on mapper tries f k [] w next es e same = cc
all-on mapper tries f k (x ∷ xs) w next es e same = by (is_done tries x) refl e (all-on mapper tries f k xs w next es)
  where
    after : List Work
    after = changed (is_done tries) f xs

    here : all_left mapper tries (k ∷ xs) w ≡ behind es (all_left mapper tries (f k ∷ xs) next)
    here =
        let l : Log Bool = left_of mapper tries (f k) next in
        let m : Log ℕ = all_left mapper tries xs l.world in
        ap (λ r. counted r (all_left mapper tries xs)) same
        ∙ ap (λ ds. record { value = (if l.value then 1 else 0) + m.value; events = ds; world = m.world }) (append_assoc es l.events m.events)

    by : (b : Bool) → is_done tries x ≡ b → (if not b then Some x else find (λ y. not (is_done tries y)) xs) ≡ Some k
        → (find (λ y. not (is_done tries y)) xs ≡ Some k → left_of mapper tries k w ≡ behind es (left_of mapper tries (f k) next) → all_left mapper tries xs w ≡ behind es (all_left mapper tries after next))
        → all_left mapper tries (x ∷ xs) w ≡ behind es (all_left mapper tries (if b then x ∷ after else f x ∷ xs) next)
    by true d e ih =
        ap (λ r. counted r (all_left mapper tries xs)) (done-left mapper tries x w d)
        ∙ ap (tell (λ n. (if is_acked x then 1 else 0) + n)) (ih e same)
        ∙ ap (λ r. behind es (counted r (all_left mapper tries after))) (sym (done-left mapper tries x next d))
    by false d e ih =
        let one : k ≡ x = cc in
        subst (λ (y : Work). all_left mapper tries (y ∷ xs) w ≡ behind es (all_left mapper tries (f y ∷ xs) next)) one here

-- how many works have all parts acknowledged
abbrev pub acked_works : List Work → ℕ
acked_works [] = 0
acked_works (k ∷ ks) = (if is_acked k then 1 else 0) + acked_works ks

-- where all are done, nothing is left but to count them
pub all-done : (mapper tries : ℕ) (ks : List Work) (w : WorldState) → list_all (is_done tries) ks ≡ true → all_left mapper tries ks w ≡ still (acked_works ks) w
all-done mapper tries [] w e = refl
all-done mapper tries (k ∷ ks) w e =
    let both = and_parts (is_done tries k) (list_all (is_done tries) ks) e in
    ap (λ r. counted r (all_left mapper tries ks)) (done-left mapper tries k w both.0) ∙ ap (tell (λ n. (if is_acked k then 1 else 0) + n)) (all-done mapper tries ks w both.1)
