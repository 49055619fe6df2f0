-- A path that meets no vertex twice, so that it is shorter than the number of vertices; and the least number that passes a test.
use Rattle.std.proofs.Common.{◌≡◌, ◌<◌, ◌≤◌, ◌+◌, ℕ, zero, suc, List, [], ◌∷◌, length, Bool, true, false, ◌||◌, sym, ◌∙◌, subst, ap, true≢false, refl, arith, ◌⊎◌, inl, inr, if◌then◌else◌}
use Rattle.std.specs.Bool.{Decides}
use Rattle.std.specs.List.{AllByRecursion, IsDistinct}
use Rattle.std.specs.Cmp.{IsEquivalence}
use Rattle.std.proofs.lemmas.Bool.{false≢true, cases_order}
use Rattle.std.proofs.lemmas.Map.Made.{length-le_from_is_member}
use Rattle.journal_defs.specs.Counting.{count_failing}
use Rattle.journal_defs.specs.Edges.{IsEdge, Steps, is_among, within, edges_between}
use Rattle.journal_defs.specs.Edges.Steps.{start, step}
use Rattle.journal_defs.proofs.Reach.{among-parts, steps-within, within-steps}

-- a path with the vertices that it meets, the last one first
data Trail {V : Type 0} (es : List (V × V)) (x : V) : List V → Type 0 where
  begin : Trail es x (x ∷ [])
  on : {v w : V} {vs : List V} → Trail es x (v ∷ vs) → IsEdge es v w → Trail es x (w ∷ v ∷ vs)

trail-tail : {V : Type 0} (es : List (V × V)) (x v w : V) (vs : List V) → Trail es x (w ∷ v ∷ vs) → Trail es x (v ∷ vs)
trail-tail es x v w vs (on t e) = t

trail-steps : {V : Type 0} (es : List (V × V)) (x y : V) (vs : List V) → Trail es x (y ∷ vs) → Steps es x (length vs) y
trail-steps es x y [] (begin) = start
trail-steps es x y (v ∷ vs) (on t e) = step (trail-steps es x v vs t) e

-- a list that holds a vertex and every vertex at an edge
pub record Holds {V : Type 0} (same : V → V → Bool) (es : List (V × V)) (all : List V) (x : V) : Type 0 where
  pub first : is_among same all x ≡ true
  pub others : (v w : V) → IsEdge es v w → is_among same all w ≡ true

-- a path that is shorter than the number of vertices
pub record ShortSteps {V : Type 0} (es : List (V × V)) (x y : V) (bound : ℕ) : Type 0 where
  pub count : ℕ
  pub path : Steps es x count y
  pub few : count < bound

-- a test that stays true, and the number below a bound at which it first passes
abbrev pub Stays : (ℕ → Bool) → Type 0
Stays test = (m k : ℕ) → m ≤ k → test m ≡ true → test k ≡ true

abbrev NoneBelow : (ℕ → Bool) → ℕ → Type 0
NoneBelow test c = (m : ℕ) → m < c → test m ≡ false

pub record Found (bound : ℕ) (test : ℕ → Bool) (c : ℕ) : Type 0 where
  pub below : c < bound
  pub passes : test c ≡ true
  pub first : NoneBelow test c

count-cases : (bound : ℕ) (test : ℕ → Bool) → Stays test → ((count_failing bound test ≡ bound) × NoneBelow test bound) ⊎ Found bound test (count_failing bound test)
count-cases zero test stays = inl (refl, (λ m l. absurd (omega arith)))
count-cases (suc k) test stays = by (test k) refl (count-cases k test stays)
  where
    by : (b : Bool) → test k ≡ b → ((count_failing k test ≡ k) × NoneBelow test k) ⊎ Found k test (count_failing k test) → ((count_failing k test + (if b then 0 else 1) ≡ suc k) × NoneBelow test (suc k)) ⊎ Found (suc k) test (count_failing k test + (if b then 0 else 1))
    by true p (inl h) =
        let e : count_failing k test + 0 ≡ k = (let g = h.0 in omega arith) in
        inr (subst (Found (suc k) test) (sym e) (record { below = omega arith; passes = p; first = h.1 }))
    by true p (inr h) =
        let e : count_failing k test + 0 ≡ count_failing k test = omega arith in
        inr (subst (Found (suc k) test) (sym e) (record { below = (let g = h.below in omega arith); passes = h.passes; first = h.first }))
    by false p (inl h) = inl ((let g = h.0 in omega arith), (λ m l. last m (cases_order m k) l))
      where
        last : (m : ℕ) → (m ≡ k) ⊎ ((m < k) ⊎ (k < m)) → m < suc k → test m ≡ false
        last m (inl e) l = ap test e ∙ p
        last m (inr (inl b)) l = h.1 m b
        last m (inr (inr b)) l = absurd (omega arith)
    by false p (inr h) = absurd (false≢true (sym p ∙ stays (count_failing k test) k (let g = h.below in omega arith) h.passes))

-- where some number below the bound passes, the count is the least that does
pub count-found : (bound : ℕ) (test : ℕ → Bool) (m : ℕ) → Stays test → m < bound → test m ≡ true → Found bound test (count_failing bound test)
count-found bound test m stays l e = by (count-cases bound test stays)
  where
    by : ((count_failing bound test ≡ bound) × NoneBelow test bound) ⊎ Found bound test (count_failing bound test) → Found bound test (count_failing bound test)
    by (inl h) = absurd (false≢true (sym (h.1 m l) ∙ e))
    by (inr h) = h

pub found-least : (bound : ℕ) (test : ℕ → Bool) (c m : ℕ) → Found bound test c → test m ≡ true → c ≤ m
found-least bound test c m h e = by (cases_order c m)
  where
    by : (c ≡ m) ⊎ ((c < m) ⊎ (m < c)) → c ≤ m
    by (inl p) = omega arith
    by (inr (inl p)) = omega arith
    by (inr (inr p)) = absurd (false≢true (sym (h.first m p) ∙ e))

-- a path with no vertex twice
record Clean {V : Type 0} (same : V → V → Bool) (es : List (V × V)) (all : List V) (x y : V) : Type 0 where
  pub met : List V
  pub trail : Trail es x (y ∷ met)
  pub apart : IsDistinct same (y ∷ met)
  pub there : AllByRecursion (λ v. is_among same all v ≡ true) (y ∷ met)

module _ {V : Type 0} (same : V → V → Bool) (decides : (v w : V) → Decides (same v w) (v ≡ w)) where
  one_way : (v w : V) → same v w ≡ true → same w v ≡ true
  one_way v w e = (decides w v).1 (sym ((decides v w).0 e))

  same_both : (v w : V) → same v w ≡ same w v
  same_both v w = by (same v w) (same w v) refl refl
    where
      by : (s t : Bool) → same v w ≡ s → same w v ≡ t → s ≡ t
      by true t p q = sym (one_way v w p) ∙ q
      by false true p q = sym p ∙ one_way w v q
      by false false p q = refl

  same-equiv : IsEquivalence same
  same-equiv = record { refl = λ v. (decides v v).1 refl; symm = same_both; congr = λ v w z e. ap (λ u. same u z) ((decides v w).0 e) }

  not_among : (vs : List V) (w : V) → is_among same vs w ≡ false → AllByRecursion (λ v. same w v ≡ false) vs
  not_among [] w e = tt
  not_among (v ∷ vs) w e = by (same w v) refl e (not_among vs w)
    where
      by : (b : Bool) → same w v ≡ b → (b || is_among same vs w) ≡ false → (is_among same vs w ≡ false → AllByRecursion (λ u. same w u ≡ false) vs) → AllByRecursion (λ u. same w u ≡ false) (v ∷ vs)
      by true p f rest = absurd (true≢false f)
      by false p f rest = (p, rest f)

  -- a trail that has met a vertex holds one that ends there
  cut : (es : List (V × V)) (all : List V) (x w v : V) (vs : List V) → Trail es x (v ∷ vs) → IsDistinct same (v ∷ vs) → AllByRecursion (λ u. is_among same all u ≡ true) (v ∷ vs) → is_among same (v ∷ vs) w ≡ true → Clean same es all x w
  unfolding IsDistinct
  cut es all x w v [] t a h m = by (among-parts same decides w v [] m)
    where
      by : (w ≡ v) ⊎ (false ≡ true) → Clean same es all x w
      by (inl p) = subst (Clean same es all x) (sym p) (record { met = []; trail = t; apart = a; there = h })
      by (inr p) = absurd (false≢true p)
  cut es all x w v (u ∷ vs) t a h m = by (among-parts same decides w v (u ∷ vs) m) (cut es all x w u vs (trail-tail es x u v vs t) a.1 h.1)
    where
      by : (w ≡ v) ⊎ (is_among same (u ∷ vs) w ≡ true) → (is_among same (u ∷ vs) w ≡ true → Clean same es all x w) → Clean same es all x w
      by (inl p) rest = subst (Clean same es all x) (sym p) (record { met = u ∷ vs; trail = t; apart = a; there = h })
      by (inr p) rest = rest p

  clean : (es : List (V × V)) (all : List V) (x y : V) (k : ℕ) → Holds same es all x → Steps es x k y → Clean same es all x y
  unfolding IsDistinct
  clean es all x y k h (start) = record { met = []; trail = begin; apart = (tt, tt); there = (h.first, tt) }
  clean es all x y k h (step {m = j} {v = v} {w = w} p e) = let before = clean es all x v j h p in by before (is_among same (v ∷ before.met) w) refl
    where
      by : (before : Clean same es all x v) (t : Bool) → is_among same (v ∷ before.met) w ≡ t → Clean same es all x w
      by before true f = cut es all x w v before.met before.trail before.apart before.there f
      by before false f = record { met = v ∷ before.met; trail = on before.trail e; apart = (not_among (v ∷ before.met) w f, before.apart); there = (h.others v w e, before.there) }

  all-listed : (all vs : List V) (v : V) → AllByRecursion (λ u. is_among same all u ≡ true) vs → is_among same vs v ≡ true → is_among same all v ≡ true
  all-listed all [] v h e = absurd (false≢true e)
  all-listed all (u ∷ us) v h e = by (among-parts same decides v u us e) (all-listed all us v h.1)
    where
      by : (v ≡ u) ⊎ (is_among same us v ≡ true) → (is_among same us v ≡ true → is_among same all v ≡ true) → is_among same all v ≡ true
      by (inl p) rest = ap (is_among same all) p ∙ h.0
      by (inr p) rest = rest p

  -- where a path leads, one leads that is shorter than the number of vertices
  pub short-steps : (es : List (V × V)) (all : List V) (x y : V) (k : ℕ) → Holds same es all x → Steps es x k y → ShortSteps es x y (length all)
  short-steps es all x y k h p =
      let c = clean es all x y k h p in
      record { count = length c.met; path = trail-steps es x y c.met c.trail; few = length-le_from_is_member same-equiv (y ∷ c.met) all c.apart (λ v e. all-listed all (y ∷ c.met) v c.there e) }

  pub within-stays : (es : List (V × V)) (x y : V) → Stays (λ m. is_among same (within same es x m) y)
  within-stays es x y m k l e = let p = within-steps same decides es x y m e in steps-within same decides es x y p.count k p.path (let g = p.few in omega arith)

  -- the number of edges between two vertices is that of a shortest path
  pub shortest : (es : List (V × V)) (all : List V) (x y : V) (k : ℕ) → Holds same es all x → Steps es x k y → Steps es x (edges_between same es (length all) x y) y
  shortest es all x y k h p =
      let s = short-steps es all x y k h p in
      let found = count-found (length all) (λ i. is_among same (within same es x i) y) s.count (within-stays es x y) s.few (steps-within same decides es x y s.count s.count s.path (omega arith)) in
      let best = within-steps same decides es x y (edges_between same es (length all) x y) found.passes in
      let whole : edges_between same es (length all) x y ≤ best.count = found-least (length all) (λ i. is_among same (within same es x i) y) (edges_between same es (length all) x y) best.count found (steps-within same decides es x y best.count best.count best.path (omega arith)) in
      let exact : best.count ≡ edges_between same es (length all) x y = (let g = best.few in omega arith) in
      subst (λ i. Steps es x i y) exact best.path

  pub none-shorter : (es : List (V × V)) (all : List V) (x y : V) (k : ℕ) → Holds same es all x → Steps es x k y → edges_between same es (length all) x y ≤ k
  none-shorter es all x y k h p =
      let s = short-steps es all x y k h p in
      let found = count-found (length all) (λ i. is_among same (within same es x i) y) s.count (within-stays es x y) s.few (steps-within same decides es x y s.count s.count s.path (omega arith)) in
      found-least (length all) (λ i. is_among same (within same es x i) y) (edges_between same es (length all) x y) k found (steps-within same decides es x y k k p (omega arith))
