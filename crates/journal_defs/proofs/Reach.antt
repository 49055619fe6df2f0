-- Paths over edges, and the vertices within a number of them.
use Rattle.std.proofs.Common.{◌≡◌, ◌≤◌, ◌+◌, ℕ, zero, suc, List, [], ◌∷◌, ◌++◌, Bool, true, false, ◌||◌, sym, ◌∙◌, subst, ap, refl, arith, ◌⊎◌, inl, inr, if◌then◌else◌}
use Rattle.std.specs.Bool.{Decides}
use Rattle.std.proofs.lemmas.Bool.{false≢true, or_cases}
use Rattle.journal_defs.specs.Edges.{IsEdge, Steps, is_among, other_side, beside, within}
use Rattle.journal_defs.specs.Edges.Steps.{start, step}
use Rattle.journal_defs.proofs.Order.{or-left, or-right}

-- an edge read the other way, and paths joined or read backwards
pub edge-back : {V : Type 0} (es : List (V × V)) (v w : V) → IsEdge es v w → IsEdge es w v
edge-back [] v w e = absurd e
edge-back (x ∷ es) v w (inl p) = inr (inl (p.1, p.0))
edge-back (x ∷ es) v w (inr (inl p)) = inl (p.1, p.0)
edge-back (x ∷ es) v w (inr (inr e)) = inr (inr (edge-back es v w e))

pub steps-join : {V : Type 0} (es : List (V × V)) (x y z : V) (k m : ℕ) → Steps es x k y → Steps es y m z → Steps es x (m + k) z
steps-join es x y z k m p (start) = subst (λ j. Steps es x j y) (let e : k ≡ zero + k = omega arith in e) p
steps-join es x y z k m p (step {m = j} {v = v} {w = w} q e) = subst (λ i. Steps es x i w) (let s : suc (j + k) ≡ suc j + k = omega arith in s) (step (steps-join es x y v k j p q) e)

pub steps-back : {V : Type 0} (es : List (V × V)) (x y : V) (k : ℕ) → Steps es x k y → Steps es y k x
steps-back es x y k (start) = start
steps-back es x y k (step {m = j} {v = v} {w = w} p e) = subst (λ i. Steps es w i x) (let s : j + suc zero ≡ suc j = omega arith in s) (steps-join es w v x (suc zero) j (step start (edge-back es v w e)) (steps-back es x v j p))

-- what lies within so many edges has a path of at most so many
pub record StepsWithin {V : Type 0} (es : List (V × V)) (x : V) (m : ℕ) (y : V) : Type 0 where
  pub count : ℕ
  pub path : Steps es x count y
  pub few : count ≤ m

-- an edge from one of these vertices
pub record EdgeFrom {V : Type 0} (same : V → V → Bool) (es : List (V × V)) (vs : List V) (w : V) : Type 0 where
  pub from : V
  pub among : is_among same vs from ≡ true
  pub edge : IsEdge es from w

module _ {V : Type 0} (same : V → V → Bool) (decides : (v w : V) → Decides (same v w) (v ≡ w)) where
  pub among-append : (xs ys : List V) (v : V) → is_among same (xs ++ ys) v ≡ true → (is_among same xs v ≡ true) ⊎ (is_among same ys v ≡ true)
  among-append [] ys v e = inr e
  among-append (x ∷ xs) ys v e = by (same v x) refl (among-append xs ys v) e
    where
      more : (is_among same xs v ≡ true) ⊎ (is_among same ys v ≡ true) → (is_among same (x ∷ xs) v ≡ true) ⊎ (is_among same ys v ≡ true)
      more (inl q) = inl (or-right (same v x) (is_among same xs v) q)
      more (inr q) = inr q

      by : (b : Bool) → same v x ≡ b → (is_among same (xs ++ ys) v ≡ true → (is_among same xs v ≡ true) ⊎ (is_among same ys v ≡ true)) → (b || is_among same (xs ++ ys) v) ≡ true → (is_among same (x ∷ xs) v ≡ true) ⊎ (is_among same ys v ≡ true)
      by true p rest f = inl (or-left (same v x) (is_among same xs v) p)
      by false p rest f = more (rest f)

  pub among-left : (xs ys : List V) (v : V) → is_among same xs v ≡ true → is_among same (xs ++ ys) v ≡ true
  among-left [] ys v e = absurd (false≢true e)
  among-left (x ∷ xs) ys v e = by (same v x) e (among-left xs ys v)
    where
      by : (b : Bool) → (b || is_among same xs v) ≡ true → (is_among same xs v ≡ true → is_among same (xs ++ ys) v ≡ true) → (b || is_among same (xs ++ ys) v) ≡ true
      by true f rest = refl
      by false f rest = rest f

  pub among-right : (xs ys : List V) (v : V) → is_among same ys v ≡ true → is_among same (xs ++ ys) v ≡ true
  among-right [] ys v e = e
  among-right (x ∷ xs) ys v e = or-right (same v x) (is_among same (xs ++ ys) v) (among-right xs ys v e)

  -- a member is the first or one of the others
  pub among-parts : (v x : V) (xs : List V) → is_among same (x ∷ xs) v ≡ true → (v ≡ x) ⊎ (is_among same xs v ≡ true)
  among-parts v x xs e = by (or_cases (same v x) (is_among same xs v) e)
    where
      by : (same v x ≡ true) ⊎ (is_among same xs v ≡ true) → (v ≡ x) ⊎ (is_among same xs v ≡ true)
      by (inl p) = inl ((decides v x).0 p)
      by (inr p) = inr p

  pub among-one : (v w : V) → is_among same (w ∷ []) v ≡ true → v ≡ w
  among-one v w e = by (among-parts v w [] e)
    where
      by : (v ≡ w) ⊎ (false ≡ true) → v ≡ w
      by (inl p) = p
      by (inr p) = absurd (false≢true p)

  pub among-self : (v : V) (vs : List V) → is_among same (v ∷ vs) v ≡ true
  among-self v vs = or-left (same v v) (is_among same vs v) ((decides v v).1 refl)

  -- what the other side of an edge holds
  other-among : (vs : List V) (v w : V) → is_among same vs v ≡ true → is_among same (other_side same vs v w) w ≡ true
  other-among vs v w e = rw e (among-self w [])

  other-held : (vs : List V) (v w x : V) → is_among same (other_side same vs v w) x ≡ true → (is_among same vs v ≡ true) × (x ≡ w)
  other-held vs v w x e = by (is_among same vs v) refl e
    where
      by : (b : Bool) → is_among same vs v ≡ b → is_among same (if b then w ∷ [] else []) x ≡ true → (is_among same vs v ≡ true) × (x ≡ w)
      by true p f = (p, among-one x w f)
      by false p f = absurd (false≢true f)

  pub edge-beside : (es : List (V × V)) (vs : List V) (v w : V) → IsEdge es v w → is_among same vs v ≡ true → is_among same (beside same es vs) w ≡ true
  edge-beside [] vs v w e m = absurd e
  edge-beside (x ∷ es) vs v w (inl p) m =
      let here : is_among same (other_side same vs x.0 x.1) w ≡ true = subst (λ z. is_among same (other_side same vs x.0 x.1) z ≡ true) p.1 (other-among vs x.0 x.1 (ap (is_among same vs) p.0 ∙ m)) in
      among-left (other_side same vs x.0 x.1) (other_side same vs x.1 x.0 ++ beside same es vs) w here
  edge-beside (x ∷ es) vs v w (inr (inl p)) m =
      let here : is_among same (other_side same vs x.1 x.0) w ≡ true = subst (λ z. is_among same (other_side same vs x.1 x.0) z ≡ true) p.1 (other-among vs x.1 x.0 (ap (is_among same vs) p.0 ∙ m)) in
      among-right (other_side same vs x.0 x.1) (other_side same vs x.1 x.0 ++ beside same es vs) w (among-left (other_side same vs x.1 x.0) (beside same es vs) w here)
  edge-beside (x ∷ es) vs v w (inr (inr e)) m =
      among-right (other_side same vs x.0 x.1) (other_side same vs x.1 x.0 ++ beside same es vs) w (among-right (other_side same vs x.1 x.0) (beside same es vs) w (edge-beside es vs v w e m))

  pub beside-edge : (es : List (V × V)) (vs : List V) (w : V) → is_among same (beside same es vs) w ≡ true → EdgeFrom same es vs w
  beside-edge [] vs w e = absurd (false≢true e)
  beside-edge (x ∷ es) vs w e =
      by (among-append (other_side same vs x.0 x.1) (other_side same vs x.1 x.0 ++ beside same es vs) w e) (beside-edge es vs w)
    where
      rest : (is_among same (other_side same vs x.1 x.0) w ≡ true) ⊎ (is_among same (beside same es vs) w ≡ true) → (is_among same (beside same es vs) w ≡ true → EdgeFrom same es vs w) → EdgeFrom same (x ∷ es) vs w
      rest (inl m) more = let held = other-held vs x.1 x.0 w m in record { from = x.1; among = held.0; edge = inr (inl (refl, sym held.1)) }
      rest (inr m) more = let h = more m in record { from = h.from; among = h.among; edge = inr (inr h.edge) }

      by : (is_among same (other_side same vs x.0 x.1) w ≡ true) ⊎ (is_among same (other_side same vs x.1 x.0 ++ beside same es vs) w ≡ true) → (is_among same (beside same es vs) w ≡ true → EdgeFrom same es vs w) → EdgeFrom same (x ∷ es) vs w
      by (inl m) more = let held = other-held vs x.0 x.1 w m in record { from = x.0; among = held.0; edge = inl (refl, sym held.1) }
      by (inr m) more = rest (among-append (other_side same vs x.1 x.0) (beside same es vs) w m) more

  -- a path of so many edges stays within them
  pub steps-within : (es : List (V × V)) (x y : V) (k m : ℕ) → Steps es x k y → k ≤ m → is_among same (within same es x m) y ≡ true
  steps-within es x y k zero (start) l = among-self x []
  steps-within es x y k (suc m) (start) l = among-self x (beside same es (within same es x m))
  steps-within es x y k zero (step p e) l = absurd (omega arith)
  steps-within es x y k (suc m) (step {m = j} {v = v} {w = w} p e) l =
      or-right (same w x) (is_among same (beside same es (within same es x m)) w) (edge-beside es (within same es x m) v w e (steps-within es x v j m p (omega arith)))

  none-longer : (es : List (V × V)) (x y : V) (m : ℕ) → y ≡ x → StepsWithin es x m y
  none-longer es x y m e = record { count = zero; path = subst (Steps es x zero) (sym e) start; few = omega arith }

  one-longer : (es : List (V × V)) (x y : V) (m : ℕ) (h : EdgeFrom same es (within same es x m) y) → StepsWithin es x m h.from → StepsWithin es x (suc m) y
  one-longer es x y m h p = record { count = suc p.count; path = step p.path h.edge; few = (let f = p.few in omega arith) }

  pub within-steps : (es : List (V × V)) (x y : V) (m : ℕ) → is_among same (within same es x m) y ≡ true → StepsWithin es x m y
  within-steps es x y zero e = none-longer es x y zero (among-one y x e)
  within-steps es x y (suc m) e = by (among-parts y x (beside same es (within same es x m)) e) (λ v. within-steps es x v m)
    where
      by : (y ≡ x) ⊎ (is_among same (beside same es (within same es x m)) y ≡ true) → ((v : V) → is_among same (within same es x m) v ≡ true → StepsWithin es x m v) → StepsWithin es x (suc m) y
      by (inl p) rest = none-longer es x y (suc m) p
      by (inr p) rest = let h = beside-edge es (within same es x m) y p in one-longer es x y m h (rest h.from h.among)
