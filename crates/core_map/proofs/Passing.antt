-- A look at a cable to a vertex that was met, and a step that is taken back, keep the walk.
use Rattle.std.proofs.Common.{◌≡◌, ◌≢◌, ◌<◌, ◌≤◌, ◌+◌, ℕ, suc, List, [], ◌∷◌, length, Bool, true, false, refl, ap, sym, ◌∙◌, subst, arith, nat_lt, if◌then◌else◌, ◌⊎◌, inl, inr}
use Rattle.std.specs.List.{AllByRecursion}
use Rattle.std.proofs.lemmas.Bool.{false≢true, cases_order}
use Rattle.std.proofs.lemmas.Bool.Decides.{Decides-ltb}
use Rattle.map_defs.specs.NetMap.{NetMap}
use Rattle.core_map.specs.declared.walk.Step.{Step}
use Rattle.core_map.specs.Lasting.{IsJoinedBy}
use Rattle.core_map.specs.Walking.{WalkState, IsWalk, IsStep, AreSteps, IsDone, LeadsTo, IsOnPath, EndsAt, IsLastAt, entries, lowered, with_path}
use Rattle.core_map.specs.Walking.Around.{here, on}
use Rattle.core_map.proofs.Stepping.{same-ends, same-other}
use Rattle.core_map.proofs.Walks.{num}

-- entries of steps are of vertices with lower numbers than a bound: no cable at a vertex as high as that is one
pub free-of : (m : NetMap) (ns ps : List ℕ) (b i v w : ℕ) (ss : List Step) → AreSteps m ns ps b ss → b ≤ num ns v → IsJoinedBy m i v w → AllByRecursion (λ k. k ≢ i) (entries ss)
free-of m ns ps b i v w [] steps l j = tt
free-of m ns ps b i v w (s ∷ ss) steps l j = (other, free-of m ns ps (num ns s.vertex) i v w ss steps.1 (omega (arith, l, below)) j)
  where
    below : num ns s.vertex < b
    below = steps.0.below

    lower : num ns (num ps s.vertex) < num ns s.vertex
    lower = steps.0.lower

    other : s.entry ≢ i
    other e = by (same-ends m i v w s.vertex (num ps s.vertex) j (subst (λ k. IsJoinedBy m k s.vertex (num ps s.vertex)) e steps.0.joined))
      where
        by : ((s.vertex ≡ v) × (num ps s.vertex ≡ w)) ⊎ ((s.vertex ≡ w) × (num ps s.vertex ≡ v)) → ⊥
        by (inl p) = let f : num ns s.vertex ≡ num ns v = ap (num ns) p.0 in absurd (omega (arith, f, l, below))
        by (inr p) = let f : num ns (num ps s.vertex) ≡ num ns v = ap (num ns) p.1 in absurd (omega (arith, f, l, below, lower))

-- a step with another least number and another cable to look at next
pub restepped : (m : NetMap) (ns ps : List ℕ) (b : ℕ) (s : Step) (ss : List Step) (low next : ℕ) → IsStep m ns ps b s ss → 1 ≤ low → low ≤ s.low → LeadsTo m ns (entries (s ∷ ss)) s.vertex low
    → next ≤ length m.cables → ((i : ℕ) → next ≡ suc i → EndsAt m i s.vertex) → ((i w : ℕ) → next ≤ i → i ≢ s.entry → IsJoinedBy m i s.vertex w → low ≤ num ns w)
    → IsStep m ns ps b (record { vertex = s.vertex; entry = s.entry; low = low; next = next }) ss
restepped m ns ps b s ss low next st some most leads few ends seen = record {
  vertex = st.vertex;
  walked = st.walked;
  below = st.below;
  from = st.from;
  joined = st.joined;
  met = st.met;
  lower = st.lower;
  few = few;
  ends = ends;
  some_low = some;
  most = (let l = st.most in omega (arith, most, l));
  leads = leads;
  seen = seen;
  beyond = λ i v w l h j. (let k = st.beyond i v w l h j in omega (arith, most, k));
}

-- ---- a look at a cable to a vertex that was met
module _ (m : NetMap) (ns ps : List ℕ) (b : ℕ) (s : Step) (ss : List Step) (i next w low : ℕ) (st : IsStep m ns ps b s ss) (steps : AreSteps m ns ps (num ns s.vertex) ss)
    (at : s.next ≡ suc i) (last : IsLastAt m s.vertex i next) (joined : IsJoinedBy m i s.vertex w) (read : ((i ≡ s.entry) × (low ≡ s.low)) ⊎ ((i ≢ s.entry) × ((low ≡ num ns w) × (1 ≤ num ns w)))) where
  few : next ≤ length m.cables
  few = let a = last.below in let c = st.few in omega (arith, a, c, at)

  -- what was seen, with this cable
  seen-with : (l : ℕ) → l ≤ s.low → (i ≢ s.entry → l ≤ num ns w) → (j x : ℕ) → next ≤ j → j ≢ s.entry → IsJoinedBy m j s.vertex x → l ≤ num ns x
  seen-with l most this j x h d k = by (cases_order j i)
    where
      by : (j ≡ i) ⊎ ((j < i) ⊎ (i < j)) → l ≤ num ns x
      by (inl e) =
          let same : x ≡ w = same-other m i s.vertex w x joined (subst (λ n. IsJoinedBy m n s.vertex x) e k) in
          subst (λ y. l ≤ num ns y) (sym same) (this (λ f. d (e ∙ f)))
      by (inr (inl q)) = absurd (last.none j h q (record { other = x; joined = k }))
      by (inr (inr q)) = let r = st.seen j x (omega (arith, q, at)) d k in omega (arith, r, most)

  passed-step : IsStep m ns ps b (lowered low (record { vertex = s.vertex; entry = s.entry; low = s.low; next = next })) ss
  passed-step = by (nat_lt low s.low) refl read
    where
      by : (t : Bool) → nat_lt low s.low ≡ t → ((i ≡ s.entry) × (low ≡ s.low)) ⊎ ((i ≢ s.entry) × ((low ≡ num ns w) × (1 ≤ num ns w)))
          → IsStep m ns ps b (if t then record { vertex = s.vertex; entry = s.entry; low = low; next = next } else record { vertex = s.vertex; entry = s.entry; low = s.low; next = next }) ss
      by true e (inl r) = let l : low < s.low = (Decides-ltb low s.low).0 e in let q = r.1 in absurd (omega (arith, l, q))
      by true e (inr r) =
          let l : low < s.low = (Decides-ltb low s.low).0 e in
          let low-is : low ≡ num ns w = r.1.0 in
          let met : 1 ≤ num ns w = r.1.1 in
          restepped m ns ps b s ss low next st (omega (arith, low-is, met)) (omega (arith, l))
          (record { end = w; numbered = sym low-is; path = on i here joined ((λ f. r.0 (sym f)), free-of m ns ps (num ns s.vertex) i s.vertex w ss steps (omega arith) joined) })
          few last.ends (seen-with low (omega (arith, l)) (λ d. omega (arith, low-is)))
      by false e r =
          let l : s.low ≤ low = not-less e in
          restepped m ns ps b s ss s.low next st st.some_low (omega arith) st.leads few last.ends (seen-with s.low (omega arith) (λ d. here-low d l r))
        where
          not-less : nat_lt low s.low ≡ false → s.low ≤ low
          not-less f = two (cases_order low s.low)
            where
              two : (low ≡ s.low) ⊎ ((low < s.low) ⊎ (s.low < low)) → s.low ≤ low
              two (inl p) = omega (arith, p)
              two (inr (inl p)) = absurd (false≢true (sym f ∙ (Decides-ltb low s.low).1 p))
              two (inr (inr p)) = omega (arith, p)

          here-low : i ≢ s.entry → s.low ≤ low → ((i ≡ s.entry) × (low ≡ s.low)) ⊎ ((i ≢ s.entry) × ((low ≡ num ns w) × (1 ≤ num ns w))) → s.low ≤ num ns w
          here-low d l (inl q) = absurd (d q.0)
          here-low d l (inr q) = let z = q.1.0 in omega (arith, l, z)

pub lowered-vertex : (low : ℕ) (s : Step) → (lowered low s).vertex ≡ s.vertex
lowered-vertex low s = by (nat_lt low s.low)
  where
    by : (t : Bool) → (if t then record { vertex = s.vertex; entry = s.entry; low = low; next = s.next } else s).vertex ≡ s.vertex
    by true = refl
    by false = refl

-- the walk after the look
module _ (m : NetMap) (t : WalkState) (s : Step) (i next w low : ℕ) (walk : IsWalk m (with_path t (s ∷ t.path)))
    (at : s.next ≡ suc i) (last : IsLastAt m s.vertex i next) (joined : IsJoinedBy m i s.vertex w) (read : ((i ≡ s.entry) × (low ≡ s.low)) ⊎ ((i ≢ s.entry) × ((low ≡ num t.numbers w) × (1 ≤ num t.numbers w)))) where
  abbrev passed : Step
  passed = lowered low (record { vertex = s.vertex; entry = s.entry; low = s.low; next = next })

  same-vertex : passed.vertex ≡ s.vertex
  same-vertex = lowered-vertex low (record { vertex = s.vertex; entry = s.entry; low = s.low; next = next })

  pub passed-walk : IsWalk m (with_path t (passed ∷ t.path))
  passed-walk = record {
    is_map = walk.is_map;
    long = walk.long;
    long_parents = walk.long_parents;
    long_cut = walk.long_cut;
    roots = walk.roots;
    ordered = walk.ordered;
    each = λ v l. each v (walk.each v l);
    steps = (
      passed-step m t.numbers t.parents (length t.order + 2) s t.path i next w low walk.steps.0 walk.steps.1 at last joined read,
      subst (λ v. AreSteps m t.numbers t.parents (num t.numbers v) t.path) (sym same-vertex) walk.steps.1,
    );
  }
    where
      each : (v : ℕ) → ((v ≡ s.vertex) ⊎ IsOnPath t.path v) ⊎ IsDone m t.numbers t.parents t.cut v → ((v ≡ passed.vertex) ⊎ IsOnPath t.path v) ⊎ IsDone m t.numbers t.parents t.cut v
      each v (inl (inl e)) = inl (inl (e ∙ sym same-vertex))
      each v (inl (inr p)) = inl (inr p)
      each v (inr d) = inr d
