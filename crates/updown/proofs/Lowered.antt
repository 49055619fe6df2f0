-- What lowering levels along cables does: it stays above the distances, and ends where neighbours are one apart.
use Rattle.std.proofs.Common.{◌≡◌, ◌<◌, ◌≤◌, ◌+◌, ℕ, zero, suc, List, [], ◌∷◌, length, get_or, set, Bool, true, false, ◌||◌, refl, ap, sym, ◌∙◌, subst, true≢false, arith, nat_lt, if◌then◌else◌, get_or-set_other, get_or-set_same, ◌⊎◌, inl, inr}
use Rattle.std.specs.List.{AllByRecursion}
use Rattle.std.proofs.Math.ListN.{length-set}
use Rattle.std.proofs.lemmas.Bool.{false≢true, cases_order}
use Rattle.std.proofs.lemmas.Bool.Decides.{nat_tests}
use Rattle.journal_defs.specs.Counting.{total}
use Rattle.map_defs.specs.declared.vertex.MapCable.{MapCable}
use Rattle.updown.specs.Lowering.{lowers, lowered, lowered_by, lowered_along, lowers_along}

-- no level is below the distance
pub record IsAbove (distance : ℕ → ℕ) (levels : List ℕ) : Type 0 where
  pub above : (u : ℕ) → u < length levels → distance u ≤ get_or levels u 0

less : (a b : ℕ) → nat_lt a b ≡ true → a < b
less a b e = grind (arith, nat_tests)

no_less : (a b : ℕ) → nat_lt a b ≡ false → b ≤ a
no_less a b e = grind (arith, nat_tests)

-- a write of something smaller
set-below : (ls : List ℕ) (w x u : ℕ) → x < get_or ls w 0 → get_or (set ls w x) u 0 ≤ get_or ls u 0
set-below [] w x u l = omega arith
set-below (y ∷ ys) zero x zero l = omega arith
set-below (y ∷ ys) zero x (suc u) l = omega arith
set-below (y ∷ ys) (suc w) x zero l = omega arith
set-below (y ∷ ys) (suc w) x (suc u) l = set-below ys w x u l

total-set : (ls : List ℕ) (w x : ℕ) → x < get_or ls w 0 → total (set ls w x) < total ls
total-set [] w x l = absurd (omega arith)
total-set (y ∷ ys) zero x l = omega arith
total-set (y ∷ ys) (suc w) x l = let k = total-set ys w x l in omega arith

-- one step
pub lowered-long : (ls : List ℕ) (v w : ℕ) → length (lowered ls v w) ≡ length ls
lowered-long ls v w = by (lowers ls v w)
  where
    by : (b : Bool) → length (if b then set ls w (get_or ls v 0 + 1) else ls) ≡ length ls
    by true = length-set ls w (get_or ls v 0 + 1)
    by false = refl

lowered-below : (ls : List ℕ) (v w u : ℕ) → get_or (lowered ls v w) u 0 ≤ get_or ls u 0
lowered-below ls v w u = by (lowers ls v w) refl
  where
    by : (b : Bool) → lowers ls v w ≡ b → get_or (if b then set ls w (get_or ls v 0 + 1) else ls) u 0 ≤ get_or ls u 0
    by true e = set-below ls w (get_or ls v 0 + 1) u (less (get_or ls v 0 + 1) (get_or ls w 0) e)
    by false e = omega arith

lowered-falls : (ls : List ℕ) (v w : ℕ) → lowers ls v w ≡ true → total (lowered ls v w) < total ls
lowered-falls ls v w e = rw e (total-set ls w (get_or ls v 0 + 1) (less (get_or ls v 0 + 1) (get_or ls w 0) e))

lowered-most : (ls : List ℕ) (v w : ℕ) → total (lowered ls v w) ≤ total ls
lowered-most ls v w = by (lowers ls v w) refl
  where
    by : (b : Bool) → lowers ls v w ≡ b → total (if b then set ls w (get_or ls v 0 + 1) else ls) ≤ total ls
    by true e = let l = total-set ls w (get_or ls v 0 + 1) (less (get_or ls v 0 + 1) (get_or ls w 0) e) in omega arith
    by false e = omega arith

lowered-same : (ls : List ℕ) (v w : ℕ) → lowers ls v w ≡ false → lowered ls v w ≡ ls
lowered-same ls v w e = rw e refl

lowered-above : (distance : ℕ → ℕ) (ls : List ℕ) (v w : ℕ) → IsAbove distance ls → v < length ls → distance w ≤ distance v + 1 → IsAbove distance (lowered ls v w)
lowered-above distance ls v w is l near = by (lowers ls v w)
  where
    at : (u : ℕ) → u < length ls → (u ≡ w) ⊎ ((u < w) ⊎ (w < u)) → distance u ≤ get_or (set ls w (get_or ls v 0 + 1)) u 0
    at u k (inl e) =
        let have = is.above v l in
        let new : get_or (set ls w (get_or ls v 0 + 1)) w 0 ≡ get_or ls v 0 + 1 = get_or-set_same ls w (get_or ls v 0 + 1) 0 (subst (λ j. j < length ls) e k) in
        let here : distance w ≤ get_or (set ls w (get_or ls v 0 + 1)) w 0 = omega arith in
        subst (λ j. distance j ≤ get_or (set ls w (get_or ls v 0 + 1)) j 0) (sym e) here
    at u k (inr (inl a)) =
        let old = is.above u k in
        let same = get_or-set_other ls w u (get_or ls v 0 + 1) 0 (λ e. absurd (omega arith)) in
        omega arith
    at u k (inr (inr a)) =
        let old = is.above u k in
        let same = get_or-set_other ls w u (get_or ls v 0 + 1) 0 (λ e. absurd (omega arith)) in
        omega arith

    by : (b : Bool) → IsAbove distance (if b then set ls w (get_or ls v 0 + 1) else ls)
    by true = record { above = λ u k. (let long = length-set ls w (get_or ls v 0 + 1) in let inside : u < length ls = omega arith in at u inside (cases_order u w)) }
    by false = is

-- all cables
pub along-long : (cs : List MapCable) (ls : List ℕ) → length (lowered_along cs ls) ≡ length ls
along-long [] ls = refl
along-long (c ∷ cs) ls = along-long cs (lowered_by ls c) ∙ lowered-long (lowered ls c.v c.w) c.w c.v ∙ lowered-long ls c.v c.w

pub along-below : (cs : List MapCable) (ls : List ℕ) (u : ℕ) → get_or (lowered_along cs ls) u 0 ≤ get_or ls u 0
along-below [] ls u = omega arith
along-below (c ∷ cs) ls u =
    let a = along-below cs (lowered_by ls c) u in
    let b = lowered-below (lowered ls c.v c.w) c.w c.v u in
    let d = lowered-below ls c.v c.w u in
    omega arith

along-most : (cs : List MapCable) (ls : List ℕ) → total (lowered_along cs ls) ≤ total ls
along-most [] ls = omega arith
along-most (c ∷ cs) ls =
    let a = along-most cs (lowered_by ls c) in
    let b = lowered-most (lowered ls c.v c.w) c.w c.v in
    let d = lowered-most ls c.v c.w in
    omega arith

pub along-falls : (cs : List MapCable) (ls : List ℕ) → lowers_along cs ls ≡ true → total (lowered_along cs ls) < total ls
along-falls [] ls e = absurd (false≢true e)
along-falls (c ∷ cs) ls e = by (lowers ls c.v c.w) (lowers (lowered ls c.v c.w) c.w c.v) refl refl e (along-falls cs (lowered_by ls c))
  where
    by : (s t : Bool) → lowers ls c.v c.w ≡ s → lowers (lowered ls c.v c.w) c.w c.v ≡ t → ((s || t) || lowers_along cs (lowered_by ls c)) ≡ true → (lowers_along cs (lowered_by ls c) ≡ true → total (lowered_along cs (lowered_by ls c)) < total (lowered_by ls c)) → total (lowered_along cs (lowered_by ls c)) < total ls
    by true t p q f rest =
        let a = along-most cs (lowered_by ls c) in
        let b = lowered-most (lowered ls c.v c.w) c.w c.v in
        let d = lowered-falls ls c.v c.w p in
        omega arith
    by false true p q f rest =
        let a = along-most cs (lowered_by ls c) in
        let b = lowered-falls (lowered ls c.v c.w) c.w c.v q in
        let d = lowered-most ls c.v c.w in
        omega arith
    by false false p q f rest =
        let a = rest f in
        let b = lowered-most (lowered ls c.v c.w) c.w c.v in
        let d = lowered-most ls c.v c.w in
        omega arith

-- where nothing is lowered, neighbours are at most one apart
pub along-settled : (cs : List MapCable) (ls : List ℕ) → lowers_along cs ls ≡ false → (lowered_along cs ls ≡ ls) × AllByRecursion (λ c. (get_or ls c.w 0 ≤ get_or ls c.v 0 + 1) × (get_or ls c.v 0 ≤ get_or ls c.w 0 + 1)) cs
along-settled [] ls e = (refl, tt)
along-settled (c ∷ cs) ls e = by (lowers ls c.v c.w) (lowers (lowered ls c.v c.w) c.w c.v) refl refl e (along-settled cs (lowered_by ls c))
  where
    by : (s t : Bool) → lowers ls c.v c.w ≡ s → lowers (lowered ls c.v c.w) c.w c.v ≡ t → ((s || t) || lowers_along cs (lowered_by ls c)) ≡ false
        → (lowers_along cs (lowered_by ls c) ≡ false → (lowered_along cs (lowered_by ls c) ≡ lowered_by ls c) × AllByRecursion (λ k. (get_or (lowered_by ls c) k.w 0 ≤ get_or (lowered_by ls c) k.v 0 + 1) × (get_or (lowered_by ls c) k.v 0 ≤ get_or (lowered_by ls c) k.w 0 + 1)) cs)
        → (lowered_along cs (lowered_by ls c) ≡ ls) × AllByRecursion (λ k. (get_or ls k.w 0 ≤ get_or ls k.v 0 + 1) × (get_or ls k.v 0 ≤ get_or ls k.w 0 + 1)) (c ∷ cs)
    by true t p q f rest = absurd (true≢false f)
    by false true p q f rest = absurd (true≢false f)
    by false false p q f rest =
        let one : lowered ls c.v c.w ≡ ls = lowered-same ls c.v c.w p in
        let two : lowered_by ls c ≡ ls = lowered-same (lowered ls c.v c.w) c.w c.v q ∙ one in
        let back : lowers ls c.w c.v ≡ false = ap (λ l. lowers l c.w c.v) (sym one) ∙ q in
        let more = rest f in (
          more.0 ∙ two,
          (
            (no_less (get_or ls c.v 0 + 1) (get_or ls c.w 0) p, no_less (get_or ls c.w 0 + 1) (get_or ls c.v 0) back),
            subst (λ l. AllByRecursion (λ k. (get_or l k.w 0 ≤ get_or l k.v 0 + 1) × (get_or l k.v 0 ≤ get_or l k.w 0 + 1)) cs) two more.1,
          ),
        )

pub along-above : (distance : ℕ → ℕ) (cs : List MapCable) (ls : List ℕ) → IsAbove distance ls → AllByRecursion (λ c. (c.v < length ls) × (c.w < length ls)) cs → AllByRecursion (λ c. (distance c.w ≤ distance c.v + 1) × (distance c.v ≤ distance c.w + 1)) cs → IsAbove distance (lowered_along cs ls)
along-above distance [] ls is low near = is
along-above distance (c ∷ cs) ls is low near =
    let one = lowered-above distance ls c.v c.w is low.0.0 near.0.0 in
    let long_one = lowered-long ls c.v c.w in
    let two = lowered-above distance (lowered ls c.v c.w) c.w c.v one (subst (λ n. c.w < n) (sym long_one) low.0.1) near.0.1 in
    let long : length (lowered_by ls c) ≡ length ls = lowered-long (lowered ls c.v c.w) c.w c.v ∙ long_one in
    along-above distance cs (lowered_by ls c) two (subst (λ n. AllByRecursion (λ k. (k.v < n) × (k.w < n)) cs) (sym long) low.1) near.1
