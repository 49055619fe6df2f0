-- A step that is taken back keeps the walk.
use Rattle.std.proofs.Common.{◌≡◌, ◌≢◌, ◌<◌, ◌≤◌, ◌+◌, ℕ, List, [], ◌∷◌, length, Bool, true, false, is_some, refl, ap, sym, ◌∙◌, subst, arith, nat_eq, nat_lt, if◌then◌else◌, get_or-set_same, ◌⊎◌, inl, inr}
use Rattle.std.specs.Prelude.{slice_index_or, slice_set}
use Rattle.std.proofs.Math.ListN.{length-set}
use Rattle.std.proofs.lemmas.List.{get_or-set_other}
use Rattle.std.proofs.lemmas.Bool.{false≢true, cases_order}
use Rattle.std.proofs.lemmas.Bool.Decides.{Decides-eqb, Decides-ltb}
use Rattle.journal_defs.specs.Edges.{Steps}
use Rattle.journal_defs.specs.Edges.Steps.{start, step}
use Rattle.map_defs.specs.NetMap.{NetMap, map_edges, host_of_vertex}
use Rattle.map_defs.specs.Core.{without}
use Rattle.core_map.specs.declared.walk.Step.{Step}
use Rattle.core_map.specs.Laws.{IsJoinedWithout}
use Rattle.core_map.specs.Lasting.{IsJoinedBy}
use Rattle.core_map.specs.Walking.{WalkState, IsWalk, IsStep, AreSteps, IsDone, IsHeld, LeadsTo, IsOnPath, IsFrom, entries, lowered_first, with_path, marked}
use Rattle.core_map.proofs.Stepping.{joined-back, same-ends, same-other, around-without, around-fewer, around-from, without-edge}
use Rattle.core_map.proofs.Walks.{num, extended-done, number-below, same-number}
use Rattle.core_map.proofs.Passing.{free-of, lowered-vertex}

-- the walk without the step
abbrev pub left_walk : WalkState → Step → WalkState
left_walk t s = with_path (marked t s) (lowered_first s.low t.path)

module _ (m : NetMap) (t : WalkState) (s : Step) (walk : IsWalk m (with_path t (s ∷ t.path))) (done : s.next ≡ 0) where
  abbrev ns : List ℕ
  ns = t.numbers

  abbrev ps : List ℕ
  ps = t.parents

  abbrev st : IsStep m ns ps (length t.order + 2) s t.path
  st = walk.steps.0

  abbrev new-cut : List Bool
  new-cut = slice_set t.cut s.vertex (nat_eq s.low (num ns s.vertex))

  -- cables at the vertex
  seen-here : (i w : ℕ) → i ≢ s.entry → IsJoinedBy m i s.vertex w → s.low ≤ num ns w
  seen-here i w d j = st.seen i w (omega (arith, done)) d j

  -- at its vertex and beyond it
  seen-from : (i v w : ℕ) → num ns s.vertex ≤ num ns v → i ≢ s.entry → IsJoinedBy m i v w → s.low ≤ num ns w
  seen-from i v w l d j = by (cases_order (num ns s.vertex) (num ns v))
    where
      below : num ns v < length t.order + 2
      below = number-below m ns t.order v walk.ordered

      by : (num ns s.vertex ≡ num ns v) ⊎ ((num ns s.vertex < num ns v) ⊎ (num ns v < num ns s.vertex)) → s.low ≤ num ns w
      by (inl e) =
          let same : s.vertex ≡ v = same-number m ns t.order s.vertex v walk.ordered st.walked e in
          seen-here i w d (subst (λ x. IsJoinedBy m i x w) (sym same) j)
      by (inr (inl k)) = st.beyond i v w k below j
      by (inr (inr k)) = absurd (omega (arith, k, l))

  -- what is reached without the entry cable has no lower number
  stays : s.low ≡ num ns s.vertex → (n w : ℕ) → Steps (map_edges (without m.cables s.entry)) s.vertex n w → num ns s.vertex ≤ num ns w
  stays e n w (start) = omega arith
  stays e n w (step {m = k} {v = u} {w = x} p edge) =
      let before = stays e k u p in
      let left = without-edge m s.entry u w edge in
      let l = seen-from left.number u w before left.other left.joined in
      omega (arith, l, e)

  abbrev here-done : IsDone m ns ps new-cut s.vertex
  here-done = record {
    entry = s.entry;
    joined = st.joined;
    met = st.met;
    lower = st.lower;
    seen = seen;
    cut_off = cut_off;
    held = held;
  }
    where
      read : slice_index_or new-cut s.vertex false ≡ nat_eq s.low (num ns s.vertex)
      read = get_or-set_same t.cut s.vertex (nat_eq s.low (num ns s.vertex)) false (let l = walk.long_cut in let k = st.vertex in omega (arith, l, k))

      seen : (i w : ℕ) → IsJoinedBy m i s.vertex w → 1 ≤ num ns w
      seen i w j = by (nat_eq i s.entry) refl
        where
          by : (b : Bool) → nat_eq i s.entry ≡ b → 1 ≤ num ns w
          by true e =
              let same : w ≡ num ps s.vertex = same-other m s.entry s.vertex (num ps s.vertex) w st.joined (subst (λ k. IsJoinedBy m k s.vertex w) ((Decides-eqb i s.entry).0 e) j) in
              subst (λ x. 1 ≤ num ns x) (sym same) st.met
          by false e = let l = seen-here i w (λ f. false≢true (sym e ∙ (Decides-eqb i s.entry).1 f)) j in let k = st.some_low in omega (arith, l, k)

      cut_off : slice_index_or new-cut s.vertex false ≡ true → (w : ℕ) → IsJoinedWithout m s.entry s.vertex w → is_some (host_of_vertex m w) ≡ true → ⊥
      cut_off e w j host =
          let low : s.low ≡ num ns s.vertex = (Decides-eqb s.low (num ns s.vertex)).0 (sym read ∙ e) in
          let l = stays low j.cables w j.path in
          let root = walk.roots.hosts w host in
          let two = st.walked in
          absurd (omega (arith, l, root, two))

      held : slice_index_or new-cut s.vertex false ≡ false → IsHeld m ns s.entry s.vertex
      held e = record {
        other = st.leads.end;
        met = (let a = st.leads.numbered in let b = st.some_low in omega (arith, a, b));
        lower = by (cases_order s.low (num ns s.vertex));
        joined = around-without m s.entry (entries t.path) s.vertex st.leads.end st.leads.path;
      }
        where
          by : (s.low ≡ num ns s.vertex) ⊎ ((s.low < num ns s.vertex) ⊎ (num ns s.vertex < s.low)) → num ns st.leads.end < num ns s.vertex
          by (inl p) = absurd (false≢true (sym (sym read ∙ e) ∙ (Decides-eqb s.low (num ns s.vertex)).1 p))
          by (inr (inl l)) = let a = st.leads.numbered in omega (arith, a, l)
          by (inr (inr l)) = let a = st.most in absurd (omega (arith, a, l))

  -- the steps before
  before : (ss : List Step) → IsFrom ss (num ps s.vertex) → LeadsTo m ns (s.entry ∷ entries ss) s.vertex s.low → AreSteps m ns ps (num ns s.vertex) ss → AreSteps m ns ps (length t.order + 2) (lowered_first s.low ss)
  before [] from leads steps = tt
  before (r ∷ ss) from leads steps = (by (nat_lt s.low r.low) refl, subst (λ v. AreSteps m ns ps (num ns v) ss) (sym (lowered-vertex s.low r)) steps.1)
    where
      rt : IsStep m ns ps (num ns s.vertex) r ss
      rt = steps.0

      joined : IsJoinedBy m s.entry s.vertex r.vertex
      joined = subst (λ x. IsJoinedBy m s.entry s.vertex x) from st.joined

      -- with a least number no greater than either
      beyond : (low : ℕ) → low ≤ r.low → low ≤ s.low → (i v w : ℕ) → num ns r.vertex < num ns v → num ns v < length t.order + 2 → IsJoinedBy m i v w → low ≤ num ns w
      beyond low a b i v w l h j = two (cases_order (num ns v) (num ns s.vertex))
        where
          high : num ns s.vertex ≤ num ns v → low ≤ num ns w
          high k = entry (nat_eq i s.entry) refl
            where
              entry : (c : Bool) → nat_eq i s.entry ≡ c → low ≤ num ns w
              entry true e = ends (same-ends m s.entry s.vertex r.vertex v w joined (subst (λ n. IsJoinedBy m n v w) ((Decides-eqb i s.entry).0 e) j))
                where
                  ends : ((v ≡ s.vertex) × (w ≡ r.vertex)) ⊎ ((v ≡ r.vertex) × (w ≡ s.vertex)) → low ≤ num ns w
                  ends (inl p) = let q : num ns w ≡ num ns r.vertex = ap (num ns) p.1 in let o = rt.most in omega (arith, q, o, a)
                  ends (inr p) = let q : num ns v ≡ num ns r.vertex = ap (num ns) p.0 in absurd (omega (arith, q, l))
              entry false e = let o = seen-from i v w k (λ f. false≢true (sym e ∙ (Decides-eqb i s.entry).1 f)) j in omega (arith, o, b)

          two : (num ns v ≡ num ns s.vertex) ⊎ ((num ns v < num ns s.vertex) ⊎ (num ns s.vertex < num ns v)) → low ≤ num ns w
          two (inl e) = high (omega (arith, e))
          two (inr (inl k)) = let o = rt.beyond i v w l k j in omega (arith, o, a)
          two (inr (inr k)) = high (omega (arith, k))

      wide : (low : ℕ) → 1 ≤ low → low ≤ r.low → low ≤ s.low → LeadsTo m ns (entries (r ∷ ss)) r.vertex low → IsStep m ns ps (length t.order + 2) (record { vertex = r.vertex; entry = r.entry; low = low; next = r.next }) ss
      wide low some a b to = record {
        vertex = rt.vertex;
        walked = rt.walked;
        below = number-below m ns t.order r.vertex walk.ordered;
        from = rt.from;
        joined = rt.joined;
        met = rt.met;
        lower = rt.lower;
        few = rt.few;
        ends = rt.ends;
        some_low = some;
        most = (let l = rt.most in omega (arith, a, l));
        leads = to;
        seen = λ i w l d j. (let k = rt.seen i w l d j in omega (arith, a, k));
        beyond = beyond low a b;
      }

      by : (c : Bool) → nat_lt s.low r.low ≡ c → IsStep m ns ps (length t.order + 2) (if c then record { vertex = r.vertex; entry = r.entry; low = s.low; next = r.next } else r) ss
      by true e =
          let l : s.low < r.low = (Decides-ltb s.low r.low).0 e in
          wide s.low st.some_low (omega (arith, l)) (omega arith)
          (record {
            end = leads.end;
            numbered = leads.numbered;
            path = around-from m (entries (r ∷ ss)) s.entry r.vertex s.vertex leads.end (joined-back m s.entry s.vertex r.vertex joined) (free-of m ns ps (num ns s.vertex) s.entry s.vertex r.vertex (r ∷ ss) steps (omega arith) joined)
                (around-fewer m s.entry (entries (r ∷ ss)) s.vertex leads.end leads.path);
          })
      by false e = wide r.low rt.some_low (omega arith) not-less rt.leads
        where
          not-less : r.low ≤ s.low
          not-less = three (cases_order s.low r.low)
            where
              three : (s.low ≡ r.low) ⊎ ((s.low < r.low) ⊎ (r.low < s.low)) → r.low ≤ s.low
              three (inl p) = omega (arith, p)
              three (inr (inl p)) = absurd (false≢true (sym e ∙ (Decides-ltb s.low r.low).1 p))
              three (inr (inr p)) = omega (arith, p)

  on-lowered : (ss : List Step) (v : ℕ) → IsOnPath ss v → IsOnPath (lowered_first s.low ss) v
  on-lowered [] v p = p
  on-lowered (r ∷ ss) v (inl e) = inl (e ∙ sym (lowered-vertex s.low r))
  on-lowered (r ∷ ss) v (inr p) = inr p

  pub left-walk : IsWalk m (left_walk t s)
  left-walk = record {
    is_map = walk.is_map;
    long = walk.long;
    long_parents = walk.long_parents;
    long_cut = length-set t.cut s.vertex (nat_eq s.low (num ns s.vertex)) ∙ walk.long_cut;
    roots = walk.roots;
    ordered = walk.ordered;
    each = λ v l. each v l (nat_eq v s.vertex) refl;
    steps = before t.path st.from st.leads walk.steps.1;
  }
    where
      each : (v : ℕ) → 2 ≤ num ns v → (b : Bool) → nat_eq v s.vertex ≡ b → IsOnPath (lowered_first s.low t.path) v ⊎ IsDone m ns ps new-cut v
      each v l true e = inr (subst (IsDone m ns ps new-cut) (sym ((Decides-eqb v s.vertex).0 e)) here-done)
      each v l false e = by (walk.each v l)
        where
          apart : v ≢ s.vertex
          apart f = false≢true (sym e ∙ (Decides-eqb v s.vertex).1 f)

          by : ((v ≡ s.vertex) ⊎ IsOnPath t.path v) ⊎ IsDone m ns ps t.cut v → IsOnPath (lowered_first s.low t.path) v ⊎ IsDone m ns ps new-cut v
          by (inl (inl f)) = absurd (apart f)
          by (inl (inr p)) = inl (on-lowered t.path v p)
          by (inr d) = inr (extended-done m ns ps ns ps (record { numbers = λ u k. refl; parents = λ u k. refl }) t.cut new-cut v (omega (arith, l)) (get_or-set_other t.cut s.vertex v (nat_eq s.low (num ns s.vertex)) false apart) d)
