-- The walk: what each of its moves keeps.
use Rattle.std.proofs.Common.{◌≡◌, ◌<◌, ◌≤◌, ◌+◌, ℕ, zero, suc, List, [], ◌∷◌, ◌++◌, length, Bool, false, Some, refl, ap, sym, ◌∙◌, subst, arith, ◌⊎◌, inl, inr}
use Rattle.std.specs.Prelude.{slice_get, slice_index_or, slice_set}
use Rattle.std.proofs.lemmas.Bool.{cases_order}
use Rattle.std.proofs.lemmas.Option.{slice_get_within}
use Rattle.map_defs.specs.NetMap.{NetMap}
use Rattle.core_map.specs.declared.walk.Step.{Step}
use Rattle.core_map.specs.Lasting.{IsJoinedBy}
use Rattle.core_map.specs.Walking.{IsStep, AreSteps, IsDone, IsHeld, IsFrom, AreOrdered, unmet}

-- the number of a vertex
abbrev pub num : List ℕ → ℕ → ℕ
num ns v = slice_index_or ns v 0

-- ---- what is kept where numbers and parents stay
pub record Extends (ns ps us qs : List ℕ) : Type 0 where
  pub numbers : (v : ℕ) → 1 ≤ num ns v → num us v ≡ num ns v
  pub parents : (v : ℕ) → 1 ≤ num ns v → num qs v ≡ num ps v

module _ (m : NetMap) (ns ps us qs : List ℕ) (ext : Extends ns ps us qs) where
  extended-step : (b : ℕ) (s : Step) (ss : List Step) → ((v : ℕ) → num us v < b → 1 ≤ num us v → 1 ≤ num ns v) → IsStep m ns ps b s ss → IsStep m us qs b s ss
  extended-step b s ss old st = record {
    vertex = st.vertex;
    walked = (let l = st.walked in omega arith);
    below = (let l = st.below in omega arith);
    from = subst (IsFrom ss) (sym same-parent) st.from;
    joined = subst (λ x. IsJoinedBy m s.entry s.vertex x) (sym same-parent) st.joined;
    met = (let l = st.met in omega (arith, l, parent));
    lower = (let l = st.lower in omega (arith, l, parent, same));
    few = st.few;
    ends = st.ends;
    some_low = st.some_low;
    most = (let l = st.most in omega arith);
    leads = record { end = st.leads.end; numbered = ext.numbers st.leads.end (let e = st.leads.numbered in let l = st.some_low in omega arith) ∙ st.leads.numbered; path = st.leads.path };
    seen = λ i w l d j. far w (st.seen i w l d j);
    beyond = λ i v w l h j. further i v w l h j;
  }
    where
      one : 1 ≤ num ns s.vertex
      one = let l = st.walked in omega arith

      same : num us s.vertex ≡ num ns s.vertex
      same = ext.numbers s.vertex one

      same-parent : num qs s.vertex ≡ num ps s.vertex
      same-parent = ext.parents s.vertex one

      parent : num us (num qs s.vertex) ≡ num ns (num ps s.vertex)
      parent = ap (num us) same-parent ∙ ext.numbers (num ps s.vertex) st.met

      far : (w : ℕ) → s.low ≤ num ns w → s.low ≤ num us w
      far w l = let low = st.some_low in let e = ext.numbers w (omega arith) in omega arith

      further : (i v w : ℕ) → num us s.vertex < num us v → num us v < b → IsJoinedBy m i v w → s.low ≤ num us w
      further i v w l h j =
          let met : 1 ≤ num ns v = old v h (omega arith) in
          let e : num us v ≡ num ns v = ext.numbers v met in
          far w (st.beyond i v w (omega arith) (omega arith) j)

  pub extended-steps : (b : ℕ) (ss : List Step) → ((v : ℕ) → num us v < b → 1 ≤ num us v → 1 ≤ num ns v) → AreSteps m ns ps b ss → AreSteps m us qs b ss
  extended-steps b [] old st = tt
  extended-steps b (s ∷ ss) old st = (extended-step b s ss old st.0, subst (λ c. AreSteps m us qs c ss) (sym same) (extended-steps (num ns s.vertex) ss (λ v l h. old v (omega (arith, l, below)) h) st.1))
    where
      one : 1 ≤ num ns s.vertex
      one = let l = st.0.walked in omega arith

      same : num us s.vertex ≡ num ns s.vertex
      same = ext.numbers s.vertex one

      below : num ns s.vertex < b
      below = st.0.below

  pub extended-done : (cut new : List Bool) (v : ℕ) → 1 ≤ num ns v → slice_index_or new v false ≡ slice_index_or cut v false → IsDone m ns ps cut v → IsDone m us qs new v
  extended-done cut new v one same d = record {
    entry = d.entry;
    joined = subst (λ x. IsJoinedBy m d.entry v x) (sym same-parent) d.joined;
    met = (let l = d.met in omega (arith, l, parent));
    lower = (let l = d.lower in omega (arith, l, parent, mine));
    seen = λ i w j. (let l = d.seen i w j in let e = ext.numbers w l in omega arith);
    cut_off = λ e. d.cut_off (sym same ∙ e);
    held = λ e. held (d.held (sym same ∙ e));
  }
    where
      mine : num us v ≡ num ns v
      mine = ext.numbers v one

      same-parent : num qs v ≡ num ps v
      same-parent = ext.parents v one

      parent : num us (num qs v) ≡ num ns (num ps v)
      parent = ap (num us) same-parent ∙ ext.numbers (num ps v) d.met

      held : IsHeld m ns d.entry v → IsHeld m us d.entry v
      held h = record {
        other = h.other;
        met = (let l = h.met in let e = ext.numbers h.other l in omega arith);
        lower = (let l = h.met in let k = h.lower in let e = ext.numbers h.other l in omega arith);
        joined = h.joined;
      }

-- ---- numbers in their order
pub number-below : (m : NetMap) (ns order : List ℕ) (v : ℕ) → AreOrdered m ns order → num ns v < length order + 2
number-below m ns order v o = by (cases_order (num ns v) 1)
  where
    large : 2 ≤ num ns v → num ns v < length order + 2
    large l = let a = o.at v l in let e : num ns v ≡ a.0 + 2 = a.1 in let h : a.0 < length order = slice_get_within order a.0 v a.2 in omega arith

    by : (num ns v ≡ 1) ⊎ ((num ns v < 1) ⊎ (1 < num ns v)) → num ns v < length order + 2
    by (inl e) = omega arith
    by (inr (inl l)) = omega arith
    by (inr (inr l)) = large (omega arith)

pub get-split : (xs : List ℕ) (x j v : ℕ) → slice_get (xs ++ x ∷ []) j ≡ Some v → (slice_get xs j ≡ Some v) ⊎ ((j ≡ length xs) × (v ≡ x))
get-split [] x zero v e = inr (refl, (let f : v ≡ x = cc in f))
get-split [] x (suc j) v e = cc
get-split (y ∷ ys) x zero v e = inl e
get-split (y ∷ ys) x (suc j) v e = by (get-split ys x j v e)
  where
    by : (slice_get ys j ≡ Some v) ⊎ ((j ≡ length ys) × (v ≡ x)) → (slice_get ys j ≡ Some v) ⊎ ((suc j ≡ suc (length ys)) × (v ≡ x))
    by (inl p) = inl p
    by (inr p) = inr (ap suc p.0, p.1)

pub get-left : (xs : List ℕ) (x j v : ℕ) → slice_get xs j ≡ Some v → slice_get (xs ++ x ∷ []) j ≡ Some v
get-left [] x j v e = cc
get-left (y ∷ ys) x zero v e = e
get-left (y ∷ ys) x (suc j) v e = get-left ys x j v e

pub get-last : (xs : List ℕ) (x : ℕ) → slice_get (xs ++ x ∷ []) (length xs) ≡ Some x
get-last [] x = refl
get-last (y ∷ ys) x = get-last ys x

-- two vertices of one number
pub same-number : (m : NetMap) (ns order : List ℕ) (v w : ℕ) → AreOrdered m ns order → 2 ≤ num ns v → num ns v ≡ num ns w → v ≡ w
same-number m ns order v w o l e =
    let a = o.at v l in
    let b = o.at w (omega (arith, l, e)) in
    let here : a.0 ≡ b.0 = omega (arith, a.1, b.1, e) in
    let both : Some v ≡ Some w = sym a.2 ∙ ap (slice_get order) here ∙ b.2 in
    cc

-- what is left to do
pub unmet-set : (each : ℕ) (ns : List ℕ) (w k : ℕ) → w < length ns → num ns w ≡ 0 → each + unmet each (slice_set ns w (suc k)) ≡ unmet each ns
unmet-set each [] w k l e = absurd (omega arith)
unmet-set each (zero ∷ ns) zero k l e = refl
unmet-set each (suc n ∷ ns) zero k l e = absurd (omega arith)
unmet-set each (zero ∷ ns) (suc w) k l e = let h = unmet-set each ns w k (omega arith) e in omega arith
unmet-set each (suc n ∷ ns) (suc w) k l e = unmet-set each ns w k (omega arith) e
