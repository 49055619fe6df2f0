-- What spreading marks along cables does: only what a path reaches is marked, and in the end all that it reaches.
use Rattle.std.proofs.Common.{◌≡◌, ◌<◌, ◌≤◌, ℕ, zero, suc, List, [], ◌∷◌, length, take, drop, get_or, set, Bool, true, false, not, ◌||◌, refl, ap, sym, ◌∙◌, subst, true≢false, arith, if◌then◌else◌, ◌⊎◌, inl, inr}
use Rattle.std.specs.List.{AllByRecursion}
use Rattle.std.proofs.Math.ListN.{length-set}
use Rattle.std.proofs.lemmas.Bool.{false≢true, and_parts}
use Rattle.journal_defs.specs.Edges.{IsEdge, Steps}
use Rattle.journal_defs.specs.Edges.Steps.{start, step}
use Rattle.map_defs.specs.declared.vertex.MapCable.{MapCable}
use Rattle.map_defs.specs.NetMap.{map_edges}
use Rattle.map_defs.specs.Core.{without}
use Rattle.core_map.specs.Marks.{spreads, spread, spreads_by, spread_by, spreads_along, spread_along}

-- a path leads to the vertex
pub record IsReached (edges : List (ℕ × ℕ)) (x u : ℕ) : Type 0 where
  pub count : ℕ
  pub path : Steps edges x count u

-- only what is reached is marked
pub record AreReached (edges : List (ℕ × ℕ)) (x : ℕ) (marks : List Bool) : Type 0 where
  pub each : (u : ℕ) → get_or marks u false ≡ true → IsReached edges x u

-- how many vertices have no mark
abbrev pub unmarked : List Bool → ℕ
unmarked [] = 0
unmarked (true ∷ bs) = unmarked bs
unmarked (false ∷ bs) = suc (unmarked bs)

set-less : (bs : List Bool) (w : ℕ) → w < length bs → get_or bs w false ≡ false → unmarked (set bs w true) < unmarked bs
set-less [] w l e = absurd (omega arith)
set-less (true ∷ bs) zero l e = absurd (true≢false e)
set-less (false ∷ bs) zero l e = omega arith
set-less (true ∷ bs) (suc w) l e = set-less bs w (omega arith) e
set-less (false ∷ bs) (suc w) l e = let k = set-less bs w (omega arith) e in omega arith

set-keeps : (bs : List Bool) (w u : ℕ) → get_or bs u false ≡ true → get_or (set bs w true) u false ≡ true
set-keeps [] w u e = absurd (false≢true e)
set-keeps (b ∷ bs) zero zero e = refl
set-keeps (b ∷ bs) zero (suc u) e = e
set-keeps (b ∷ bs) (suc w) zero e = e
set-keeps (b ∷ bs) (suc w) (suc u) e = set-keeps bs w u e

not-true : (b : Bool) → not b ≡ true → b ≡ false
not-true true e = absurd (false≢true e)
not-true false e = refl

-- one step
pub spread-long : (bs : List Bool) (v w : ℕ) → length (spread bs v w) ≡ length bs
spread-long bs v w = by (spreads bs v w)
  where
    by : (b : Bool) → length (if b then set bs w true else bs) ≡ length bs
    by true = length-set bs w true
    by false = refl

spread-falls : (bs : List Bool) (v w : ℕ) → w < length bs → spreads bs v w ≡ true → unmarked (spread bs v w) < unmarked bs
spread-falls bs v w l e = rw e (set-less bs w l (not-true (get_or bs w false) (and_parts (get_or bs v false) (not (get_or bs w false)) e).1))

spread-most : (bs : List Bool) (v w : ℕ) → w < length bs → unmarked (spread bs v w) ≤ unmarked bs
spread-most bs v w l = by (spreads bs v w) refl
  where
    by : (b : Bool) → spreads bs v w ≡ b → unmarked (if b then set bs w true else bs) ≤ unmarked bs
    by true e = let k = set-less bs w l (not-true (get_or bs w false) (and_parts (get_or bs v false) (not (get_or bs w false)) e).1) in omega arith
    by false e = omega arith

spread-keeps : (bs : List Bool) (v w u : ℕ) → get_or bs u false ≡ true → get_or (spread bs v w) u false ≡ true
spread-keeps bs v w u e = by (spreads bs v w)
  where
    by : (b : Bool) → get_or (if b then set bs w true else bs) u false ≡ true
    by true = set-keeps bs w u e
    by false = e

pub set-at : (bs : List Bool) (w u : ℕ) → get_or (set bs w true) u false ≡ true → (u ≡ w) ⊎ (get_or bs u false ≡ true)
set-at [] w u e = absurd (false≢true e)
set-at (b ∷ bs) zero zero e = inl refl
set-at (b ∷ bs) zero (suc u) e = inr e
set-at (b ∷ bs) (suc w) zero e = inr e
set-at (b ∷ bs) (suc w) (suc u) e = by (set-at bs w u e)
  where
    by : (u ≡ w) ⊎ (get_or bs u false ≡ true) → (suc u ≡ suc w) ⊎ (get_or bs u false ≡ true)
    by (inl p) = inl (ap suc p)
    by (inr p) = inr p

pub set-reached : (es : List (ℕ × ℕ)) (x : ℕ) (bs : List Bool) (w : ℕ) → AreReached es x bs → IsReached es x w → AreReached es x (set bs w true)
set-reached es x bs w are here = record { each = λ u e. by u (set-at bs w u e) }
  where
    by : (u : ℕ) → (u ≡ w) ⊎ (get_or bs u false ≡ true) → IsReached es x u
    by u (inl p) = subst (IsReached es x) (sym p) here
    by u (inr p) = are.each u p

spread-reached : (es : List (ℕ × ℕ)) (x : ℕ) (bs : List Bool) (v w : ℕ) → AreReached es x bs → IsEdge es v w → AreReached es x (spread bs v w)
spread-reached es x bs v w are edge = by (spreads bs v w) refl
  where
    by : (b : Bool) → spreads bs v w ≡ b → AreReached es x (if b then set bs w true else bs)
    by true e =
        let from = are.each v (and_parts (get_or bs v false) (not (get_or bs w false)) e).0 in
        set-reached es x bs w are (record { count = suc from.count; path = step from.path edge })
    by false e = are

-- all cables
pub along-long : (cs : List MapCable) (bs : List Bool) → length (spread_along cs bs) ≡ length bs
along-long [] bs = refl
along-long (c ∷ cs) bs = along-long cs (spread_by bs c) ∙ spread-long (spread bs c.v c.w) c.w c.v ∙ spread-long bs c.v c.w

pub along-keeps : (cs : List MapCable) (bs : List Bool) (u : ℕ) → get_or bs u false ≡ true → get_or (spread_along cs bs) u false ≡ true
along-keeps [] bs u e = e
along-keeps (c ∷ cs) bs u e = along-keeps cs (spread_by bs c) u (spread-keeps (spread bs c.v c.w) c.w c.v u (spread-keeps bs c.v c.w u e))

along-most : (cs : List MapCable) (bs : List Bool) → AllByRecursion (λ c. (c.v < length bs) × (c.w < length bs)) cs → unmarked (spread_along cs bs) ≤ unmarked bs
along-most [] bs low = omega arith
along-most (c ∷ cs) bs low =
    let one = spread-long bs c.v c.w in
    let two = spread-long (spread bs c.v c.w) c.w c.v in
    let a = along-most cs (spread_by bs c) (subst (λ n. AllByRecursion (λ k. (k.v < n) × (k.w < n)) cs) (sym (two ∙ one)) low.1) in
    let b = spread-most (spread bs c.v c.w) c.w c.v (subst (λ n. c.v < n) (sym one) low.0.0) in
    let d = spread-most bs c.v c.w low.0.1 in
    omega arith

pub along-falls : (cs : List MapCable) (bs : List Bool) → AllByRecursion (λ c. (c.v < length bs) × (c.w < length bs)) cs → spreads_along cs bs ≡ true → unmarked (spread_along cs bs) < unmarked bs
along-falls [] bs low e = absurd (false≢true e)
along-falls (c ∷ cs) bs low e = by (spreads bs c.v c.w) (spreads (spread bs c.v c.w) c.w c.v) refl refl e (along-falls cs (spread_by bs c) rest_low)
  where
    one : length (spread bs c.v c.w) ≡ length bs
    one = spread-long bs c.v c.w

    two : length (spread_by bs c) ≡ length (spread bs c.v c.w)
    two = spread-long (spread bs c.v c.w) c.w c.v

    rest_low : AllByRecursion (λ k. (k.v < length (spread_by bs c)) × (k.w < length (spread_by bs c))) cs
    rest_low = subst (λ n. AllByRecursion (λ k. (k.v < n) × (k.w < n)) cs) (sym (two ∙ one)) low.1

    back_low : c.v < length (spread bs c.v c.w)
    back_low = subst (λ n. c.v < n) (sym one) low.0.0

    by : (s t : Bool) → spreads bs c.v c.w ≡ s → spreads (spread bs c.v c.w) c.w c.v ≡ t → ((s || t) || spreads_along cs (spread_by bs c)) ≡ true → (spreads_along cs (spread_by bs c) ≡ true → unmarked (spread_along cs (spread_by bs c)) < unmarked (spread_by bs c)) → unmarked (spread_along cs (spread_by bs c)) < unmarked bs
    by true t p q f rest =
        let a = along-most cs (spread_by bs c) rest_low in
        let b = spread-most (spread bs c.v c.w) c.w c.v back_low in
        let d = spread-falls bs c.v c.w low.0.1 p in
        omega arith
    by false true p q f rest =
        let a = along-most cs (spread_by bs c) rest_low in
        let b = spread-falls (spread bs c.v c.w) c.w c.v back_low q in
        let d = spread-most bs c.v c.w low.0.1 in
        omega arith
    by false false p q f rest =
        let a = rest f in
        let b = spread-most (spread bs c.v c.w) c.w c.v back_low in
        let d = spread-most bs c.v c.w low.0.1 in
        omega arith

pub along-reached : (es : List (ℕ × ℕ)) (x : ℕ) (cs : List MapCable) (bs : List Bool) → ((v w : ℕ) → IsEdge (map_edges cs) v w → IsEdge es v w) → AreReached es x bs → AreReached es x (spread_along cs bs)
along-reached es x [] bs on are = are
along-reached es x (c ∷ cs) bs on are =
    let one = spread-reached es x bs c.v c.w are (on c.v c.w (inl (refl, refl))) in
    let two = spread-reached es x (spread bs c.v c.w) c.w c.v one (on c.w c.v (inr (inl (refl, refl)))) in
    along-reached es x cs (spread_by bs c) (λ v w e. on v w (inr (inr e))) two

-- where nothing spreads, the two vertices of each cable are marked alike
no-spread : (bs : List Bool) (v w : ℕ) → spreads bs v w ≡ false → get_or bs v false ≡ true → get_or bs w false ≡ true
no-spread bs v w e marked = by (get_or bs w false) refl
  where
    by : (b : Bool) → get_or bs w false ≡ b → get_or bs w false ≡ true
    by true p = p
    by false p = let t : spreads bs v w ≡ true = rw (marked, p) refl in absurd (true≢false (sym t ∙ e))

pub along-settled : (cs : List MapCable) (bs : List Bool) → spreads_along cs bs ≡ false → (spread_along cs bs ≡ bs) × AllByRecursion (λ c. (get_or bs c.v false ≡ true → get_or bs c.w false ≡ true) × (get_or bs c.w false ≡ true → get_or bs c.v false ≡ true)) cs
along-settled [] bs e = (refl, tt)
along-settled (c ∷ cs) bs e = by (spreads bs c.v c.w) (spreads (spread bs c.v c.w) c.w c.v) refl refl e (along-settled cs (spread_by bs c))
  where
    by : (s t : Bool) → spreads bs c.v c.w ≡ s → spreads (spread bs c.v c.w) c.w c.v ≡ t → ((s || t) || spreads_along cs (spread_by bs c)) ≡ false
        → (spreads_along cs (spread_by bs c) ≡ false → (spread_along cs (spread_by bs c) ≡ spread_by bs c) × AllByRecursion (λ k. (get_or (spread_by bs c) k.v false ≡ true → get_or (spread_by bs c) k.w false ≡ true) × (get_or (spread_by bs c) k.w false ≡ true → get_or (spread_by bs c) k.v false ≡ true)) cs)
        → (spread_along cs (spread_by bs c) ≡ bs) × AllByRecursion (λ k. (get_or bs k.v false ≡ true → get_or bs k.w false ≡ true) × (get_or bs k.w false ≡ true → get_or bs k.v false ≡ true)) (c ∷ cs)
    by true t p q f rest = absurd (true≢false f)
    by false true p q f rest = absurd (true≢false f)
    by false false p q f rest =
        let one : spread bs c.v c.w ≡ bs = rw p refl in
        let two : spread_by bs c ≡ bs = ap (λ b. if b then set (spread bs c.v c.w) c.v true else spread bs c.v c.w) q ∙ one in
        let back : spreads bs c.w c.v ≡ false = ap (λ l. spreads l c.w c.v) (sym one) ∙ q in
        let more = rest f in (
          more.0 ∙ two,
          (
            (no-spread bs c.v c.w p, no-spread bs c.w c.v back),
            subst (λ l. AllByRecursion (λ k. (get_or l k.v false ≡ true → get_or l k.w false ≡ true) × (get_or l k.w false ≡ true → get_or l k.v false ≡ true)) cs) two more.1,
          ),
        )

-- marks that are settled hold all that a path reaches
pub settled-steps : (cs : List MapCable) (bs : List Bool) (x u k : ℕ) → AllByRecursion (λ c. (get_or bs c.v false ≡ true → get_or bs c.w false ≡ true) × (get_or bs c.w false ≡ true → get_or bs c.v false ≡ true)) cs → get_or bs x false ≡ true → Steps (map_edges cs) x k u → get_or bs u false ≡ true
settled-steps cs bs x u k settled marked (start) = marked
settled-steps cs bs x u k settled marked (step {m = j} {v = v} {w = w} p e) = edge cs settled e (settled-steps cs bs x v j settled marked p)
  where
    edge : (ks : List MapCable) → AllByRecursion (λ c. (get_or bs c.v false ≡ true → get_or bs c.w false ≡ true) × (get_or bs c.w false ≡ true → get_or bs c.v false ≡ true)) ks → IsEdge (map_edges ks) v w → get_or bs v false ≡ true → get_or bs w false ≡ true
    edge [] all e m = absurd e
    edge (c ∷ ks) all (inl q) m = subst (λ i. get_or bs i false ≡ true) q.1 (all.0.0 (subst (λ i. get_or bs i false ≡ true) (sym q.0) m))
    edge (c ∷ ks) all (inr (inl q)) m = subst (λ i. get_or bs i false ≡ true) q.1 (all.0.1 (subst (λ i. get_or bs i false ≡ true) (sym q.0) m))
    edge (c ∷ ks) all (inr (inr q)) m = edge ks all.1 q m

-- all cables but one are those before it and those after it
pub around-value : (cs : List MapCable) (k : ℕ) (bs : List Bool) → k < length cs → spread_along (without cs k) bs ≡ spread_along (drop (suc k) cs) (spread_along (take k cs) bs)
around-value [] k bs l = absurd (omega arith)
around-value (c ∷ cs) zero bs l = refl
around-value (c ∷ cs) (suc k) bs l = around-value cs k (spread_by bs c) (omega arith)

or_assoc : (a b c : Bool) → (a || (b || c)) ≡ ((a || b) || c)
or_assoc true b c = refl
or_assoc false b c = refl

pub around-told : (cs : List MapCable) (k : ℕ) (bs : List Bool) → k < length cs → spreads_along (without cs k) bs ≡ (spreads_along (take k cs) bs || spreads_along (drop (suc k) cs) (spread_along (take k cs) bs))
around-told [] k bs l = absurd (omega arith)
around-told (c ∷ cs) zero bs l = refl
around-told (c ∷ cs) (suc k) bs l = ap (λ b. spreads_by bs c || b) (around-told cs k (spread_by bs c) (omega arith)) ∙ or_assoc (spreads_by bs c) (spreads_along (take k cs) (spread_by bs c)) (spreads_along (drop (suc k) cs) (spread_along (take k cs) (spread_by bs c)))

pub all-without : (P : MapCable → Type 0) (cs : List MapCable) (k : ℕ) → AllByRecursion P cs → AllByRecursion P (without cs k)
all-without P [] k all = tt
all-without P (c ∷ cs) zero all = all.1
all-without P (c ∷ cs) (suc k) all = (all.0, all-without P cs k all.1)
