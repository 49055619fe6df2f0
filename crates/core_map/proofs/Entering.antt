-- A step to a vertex that wasn't met keeps the walk.
use Rattle.std.proofs.Common.{◌≡◌, ◌≢◌, ◌<◌, ◌≤◌, ◌+◌, ℕ, suc, List, [], ◌∷◌, ◌++◌, length, length-append, Bool, true, false, Some, refl, ap, sym, ◌∙◌, subst, arith, nat_eq, get_or-set_same, ◌⊎◌, inl, inr}
use Rattle.std.specs.Prelude.{slice_get, slice_set}
use Rattle.std.proofs.Math.ListN.{length-set}
use Rattle.std.proofs.lemmas.List.{get_or-set_other}
use Rattle.std.proofs.lemmas.Bool.{false≢true}
use Rattle.std.proofs.lemmas.Bool.Decides.{Decides-eqb}
use Rattle.map_defs.specs.NetMap.{NetMap}
use Rattle.core_map.specs.declared.walk.Step.{Step}
use Rattle.core_map.specs.Lasting.{IsJoinedBy, Lasts}
use Rattle.core_map.specs.Walking.{WalkState, IsWalk, IsStep, AreSteps, IsDone, IsOnPath, IsFrom, IsLastAt, AreOrdered, AreRoots, unmet, weight, entered}
use Rattle.core_map.specs.Walking.Around.{here}
use Rattle.core_map.proofs.Stepping.{joined-number}
use Rattle.core_map.proofs.Walks.{num, Extends, extended-steps, extended-done, number-below, get-split, get-left, get-last, unmet-set}

module _ (m : NetMap) (t : WalkState) (i v w next : ℕ) (walk : IsWalk m t) (from : IsFrom t.path v) (met : 1 ≤ num t.numbers v) (unmet_w : num t.numbers w ≡ 0) (joined : IsJoinedBy m i w v) (last : IsLastAt m w (length m.cables) next) (low : w < length m.vertices) where
  abbrev ns : List ℕ
  ns = t.numbers

  abbrev us : List ℕ
  us = slice_set t.numbers w (length t.order + 2)

  abbrev ps : List ℕ
  ps = t.parents

  abbrev qs : List ℕ
  qs = slice_set t.parents w v

  mine : num us w ≡ length t.order + 2
  mine = get_or-set_same t.numbers w (length t.order + 2) 0 (let l = walk.long in omega arith)

  my-parent : num qs w ≡ v
  my-parent = get_or-set_same t.parents w v 0 (let l = walk.long_parents in omega arith)

  others : (u : ℕ) → u ≢ w → num us u ≡ num ns u
  others u d = get_or-set_other t.numbers w u (length t.order + 2) 0 d

  apart : (u : ℕ) → 1 ≤ num ns u → u ≢ w
  apart u l e = let z : num ns u ≡ 0 = ap (num ns) e ∙ unmet_w in absurd (omega arith)

  extends : Extends ns ps us qs
  extends = record {
    numbers = λ u l. others u (apart u l);
    parents = λ u l. get_or-set_other t.parents w u v 0 (apart u l);
  }

  -- a vertex with a number is this one, or had it before
  new-or : (u : ℕ) → 1 ≤ num us u → (u ≡ w) ⊎ (1 ≤ num ns u)
  new-or u l = by (nat_eq u w) refl
    where
      by : (b : Bool) → nat_eq u w ≡ b → (u ≡ w) ⊎ (1 ≤ num ns u)
      by true e = inl ((Decides-eqb u w).0 e)
      by false e = let same = others u (λ f. false≢true (sym e ∙ (Decides-eqb u w).1 f)) in inr (omega arith)

  old : (u : ℕ) → num us u < length t.order + 2 → 1 ≤ num us u → 1 ≤ num ns u
  old u l h = by (new-or u h)
    where
      by : (u ≡ w) ⊎ (1 ≤ num ns u) → 1 ≤ num ns u
      by (inl e) = let f : num us u ≡ length t.order + 2 = ap (num us) e ∙ mine in absurd (omega arith)
      by (inr k) = k

  v-same : num us v ≡ num ns v
  v-same = extends.numbers v met

  v-below : num ns v < length t.order + 2
  v-below = number-below m ns t.order v walk.ordered

  abbrev the_step : Step
  the_step = record { vertex = w; entry = i; low = length t.order + 2; next = next }

  new-step : IsStep m us qs (length (t.order ++ w ∷ []) + 2) the_step t.path
  new-step = record {
    vertex = low;
    walked = (omega (arith, mine));
    below = (let l = length-append t.order (w ∷ []) in omega (arith, mine, l));
    from = subst (IsFrom t.path) (sym my-parent) from;
    joined = subst (λ x. IsJoinedBy m i w x) (sym my-parent) joined;
    met = (let e : num us (num qs w) ≡ num ns v = ap (num us) my-parent ∙ v-same in omega (arith, e, met));
    lower = (let e : num us (num qs w) ≡ num ns v = ap (num us) my-parent ∙ v-same in omega (arith, e, v-below, mine));
    few = last.below;
    ends = last.ends;
    some_low = (omega arith);
    most = (omega (arith, mine));
    leads = record { end = w; numbered = mine; path = here };
    seen = λ j x l d k. absurd (last.none j l (joined-number m j w x k) (record { other = x; joined = k }));
    beyond = λ j x y l h k. absurd (let e = length-append t.order (w ∷ []) in omega (arith, l, h, mine, e));
  }

  ordered : AreOrdered m us (t.order ++ w ∷ [])
  ordered = record { at = at; back = back }
    where
      at : (u : ℕ) → 2 ≤ num us u → (j : ℕ) × (num us u ≡ j + 2) × (slice_get (t.order ++ w ∷ []) j ≡ Some u)
      at u l = by (new-or u (omega arith))
        where
          by : (u ≡ w) ⊎ (1 ≤ num ns u) → (j : ℕ) × (num us u ≡ j + 2) × (slice_get (t.order ++ w ∷ []) j ≡ Some u)
          by (inl e) = (length t.order, ap (num us) e ∙ mine, get-last t.order w ∙ ap Some (sym e))
          by (inr h) =
              let same : num us u ≡ num ns u = extends.numbers u h in
              let a = walk.ordered.at u (omega arith) in
              (a.0, same ∙ a.1, get-left t.order w a.0 u a.2)

      back : (j u : ℕ) → slice_get (t.order ++ w ∷ []) j ≡ Some u → (num us u ≡ j + 2) × (u < length m.vertices)
      back j u e = by (get-split t.order w j u e)
        where
          by : (slice_get t.order j ≡ Some u) ⊎ ((j ≡ length t.order) × (u ≡ w)) → (num us u ≡ j + 2) × (u < length m.vertices)
          by (inl f) = let b = walk.ordered.back j u f in let n : num ns u ≡ j + 2 = b.0 in (extends.numbers u (omega arith) ∙ n, b.1)
          by (inr f) = (ap (num us) f.1 ∙ mine ∙ ap (λ k. k + 2) (sym f.0), subst (λ x. x < length m.vertices) (sym f.1) low)

  roots : AreRoots m us
  roots = record {
    hosts = λ u h. (let e = walk.roots.hosts u h in extends.numbers u (omega (arith, e)) ∙ e);
    beside = λ j u x k h. (let e = walk.roots.beside j u x k h in extends.numbers u (omega (arith, e)) ∙ e);
    lasts = λ u e. by u e (new-or u (omega (arith, e)));
  }
    where
      by : (u : ℕ) → num us u ≡ 1 → (u ≡ w) ⊎ (1 ≤ num ns u) → Lasts m u
      by u e (inl f) = let g : num us u ≡ length t.order + 2 = ap (num us) f ∙ mine in absurd (omega arith)
      by u e (inr h) = walk.roots.lasts u (sym (extends.numbers u h) ∙ e)

  pub entered-walk : IsWalk m (entered t i v w next)
  entered-walk = record {
    is_map = walk.is_map;
    long = length-set t.numbers w (length t.order + 2) ∙ walk.long;
    long_parents = length-set t.parents w v ∙ walk.long_parents;
    long_cut = walk.long_cut;
    roots = roots;
    ordered = ordered;
    each = λ u l. each u l (new-or u (omega (arith, l)));
    steps = (new-step, subst (λ b. AreSteps m us qs b t.path) (sym mine) (extended-steps m ns ps us qs extends (length t.order + 2) t.path old walk.steps));
  }
    where
      each : (u : ℕ) → 2 ≤ num us u → (u ≡ w) ⊎ (1 ≤ num ns u) → ((u ≡ w) ⊎ IsOnPath t.path u) ⊎ IsDone m us qs t.cut u
      each u l (inl e) = inl (inl e)
      each u l (inr h) = by (walk.each u (let same = extends.numbers u h in omega (arith, same, l)))
        where
          by : IsOnPath t.path u ⊎ IsDone m ns ps t.cut u → ((u ≡ w) ⊎ IsOnPath t.path u) ⊎ IsDone m us qs t.cut u
          by (inl p) = inl (inr p)
          by (inr d) = inr (extended-done m ns ps us qs extends t.cut t.cut u h refl d)

  pub entered-smaller : weight m (entered t i v w next) < weight m t
  entered-smaller =
      let k : length t.order + 2 ≡ suc (length t.order + 1) = omega arith in
      let less = unmet-set (length m.cables + 2) t.numbers w (length t.order + 1) (let l = walk.long in omega arith) unmet_w in
      let few = last.below in
      let same : unmet (length m.cables + 2) us ≡ unmet (length m.cables + 2) (slice_set t.numbers w (suc (length t.order + 1))) = ap (λ n. unmet (length m.cables + 2) (slice_set t.numbers w n)) k in
      omega (arith, less, few, same)
