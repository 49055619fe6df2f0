-- What hangs by a cable is what that cable cuts off.
use Rattle.std.proofs.Common.{◌≡◌, ◌≢◌, ◌<◌, ◌≤◌, ◌+◌, ℕ, zero, suc, List, [], ◌∷◌, length, get_or, Bool, true, false, ◌||◌, Option, Some, None, is_some, refl, ap, sym, ◌∙◌, subst, arith, nat_eq, get_or-set_same, ◌⊎◌, inl, inr}
use Rattle.std.specs.Prelude.{slice_get, slice_index_or, slice_set}
use Rattle.std.proofs.Math.ListN.{length-set}
use Rattle.std.proofs.lemmas.List.{ext_get_or, get_or-set_other}
use Rattle.std.proofs.lemmas.Bool.{false≢true, cases_order}
use Rattle.std.proofs.lemmas.Bool.Decides.{Decides-eqb}
use Rattle.journal_defs.specs.Edges.{Steps}
use Rattle.journal_defs.specs.Edges.Steps.{start, step}
use Rattle.map_defs.specs.declared.vertex.MapVertex.{MapVertex}
use Rattle.map_defs.specs.declared.vertex.MapVertex.TheVariants.{Host, Switch}
use Rattle.map_defs.specs.NetMap.{NetMap, map_edges, host_of_vertex, host_at, is_switch_vertex, switch_at}
use Rattle.map_defs.specs.Core.{without, is_outside}
use Rattle.core_map.specs.Laws.{IsJoinedWithout, IsCutOffBy}
use Rattle.core_map.specs.Lasting.{IsJoinedBy, IsBetweenSwitches, HasHostWithout}
use Rattle.core_map.specs.Marks.{outside_of}
use Rattle.core_map.specs.Walking.{WalkState, IsWalked, IsDone, EndsAt, Hangs, number_in, parent_in, cut_in}
use Rattle.core_map.specs.Walking.Hangs.{by_entry, by_parent}
use Rattle.core_map.specs.Hanging.{AreUnwalked, AreHanging}
use Rattle.core_map.proofs.ByPaths.{outside_is_by_paths}
use Rattle.core_map.proofs.Marking.{cable-low}
use Rattle.core_map.proofs.Sides.{cables-low, map-at, long-numbers}
use Rattle.core_map.proofs.Stepping.{joined-here, joined-on, joined-both, joined-back, joined-number, same-ends, without-edge}
use Rattle.core_map.proofs.Walks.{number-below, same-number}

-- a host is there, or it isn't
some-of : (o : Option ℕ) → is_some o ≡ true → (h : ℕ) × (o ≡ Some h)
some-of None e = absurd (false≢true e)
some-of (Some h) e = (h, refl)

-- a vertex that is no host is a switch
switch-of : (vs : List MapVertex) (v : ℕ) → v < length vs → (is_some (host_at (slice_get vs v)) ≡ true → ⊥) → switch_at (slice_get vs v) ≡ true
switch-of [] v l lone = absurd (omega arith)
switch-of (Host h ∷ vs) zero l lone = absurd (lone refl)
switch-of (Switch n ∷ vs) zero l lone = refl
switch-of (x ∷ vs) (suc v) l lone = switch-of vs v (omega arith) lone

module _ (m : NetMap) (t : WalkState) (walked : IsWalked m t) where
  -- the vertex that a cable enters
  record IsEntered (k v : ℕ) : Type 0 where
    vertex : ℕ
    joined : IsJoinedBy m k vertex (parent_in t vertex)
    lower : number_in t (parent_in t vertex) < number_in t vertex
    below : number_in t vertex ≤ number_in t v

  entered-by : (k v : ℕ) → Hangs m t k v → IsEntered k v
  entered-by k v (by_entry two cut d e) = record { vertex = v; joined = subst (λ n. IsJoinedBy m n v (parent_in t v)) e d.joined; lower = d.lower; below = (omega arith) }
  entered-by k v (by_parent two h) =
      let r = entered-by k (parent_in t v) h in
      let d = walked.done v two in
      record { vertex = r.vertex; joined = r.joined; lower = r.lower; below = (let a = r.below in let b = d.lower in omega (arith, a, b)) }

  -- what has a lower number doesn't hang by the entry cable
  not-lower : (k u v : ℕ) → Hangs m t k u → number_in t u < number_in t v → IsJoinedBy m k v (parent_in t v) → number_in t (parent_in t v) < number_in t v → ⊥
  not-lower k u v h l j lower = by (same-ends m k v (parent_in t v) r.vertex (parent_in t r.vertex) j r.joined)
    where
      r : IsEntered k u
      r = entered-by k u h

      by : ((r.vertex ≡ v) × (parent_in t r.vertex ≡ parent_in t v)) ⊎ ((r.vertex ≡ parent_in t v) × (parent_in t r.vertex ≡ v)) → ⊥
      by (inl p) = let a = r.below in let e : number_in t r.vertex ≡ number_in t v = ap (number_in t) p.0 in absurd (omega (arith, a, e, l))
      by (inr p) =
          let a = r.lower in
          let e : number_in t r.vertex ≡ number_in t (parent_in t v) = ap (number_in t) p.0 in
          let f : number_in t (parent_in t r.vertex) ≡ number_in t v = ap (number_in t) p.1 in
          absurd (omega (arith, a, e, f, lower))

  -- without a cable a vertex that was met has a host, or it hangs by that
  host-or : (n v : ℕ) → number_in t v < n → 1 ≤ number_in t v → (k : ℕ) → IsBetweenSwitches m k → HasHostWithout m k v ⊎ Hangs m t k v
  host-or zero v l one k s = absurd (omega arith)
  host-or (suc n) v l one k s = by (cases_order (number_in t v) 1) (λ u a b. host-or n u a b k s)
    where
      over : (d : IsDone m t.numbers t.parents t.cut v) → d.entry ≢ k → HasHostWithout m k (parent_in t v) → HasHostWithout m k v
      over d apart h = record { host = h.host; joined = joined-both m k v (parent_in t v) h.host (joined-on m k d.entry v v (parent_in t v) (joined-here m k v) apart d.joined) h.joined; is_host = h.is_host }

      late : 2 ≤ number_in t v → ((u : ℕ) → number_in t u < n → 1 ≤ number_in t u → HasHostWithout m k u ⊎ Hangs m t k u) → HasHostWithout m k v ⊎ Hangs m t k v
      late two rest = at (nat_eq d.entry k) refl
        where
          d : IsDone m t.numbers t.parents t.cut v
          d = walked.done v two

          same : (b : Bool) → d.entry ≡ k → cut_in t v ≡ b → HasHostWithout m k v ⊎ Hangs m t k v
          same true e cut = inr (by_entry two cut d e)
          same false e cut =
              let held = d.held cut in
              let less = held.lower in
              on (rest held.other (omega (arith, l, less)) held.met)
            where
              on : HasHostWithout m k (d.held cut).other ⊎ Hangs m t k (d.held cut).other → HasHostWithout m k v ⊎ Hangs m t k v
              on (inl h) = inl (record { host = h.host; joined = joined-both m k v (d.held cut).other h.host (subst (λ i. IsJoinedWithout m i v (d.held cut).other) e (d.held cut).joined) h.joined; is_host = h.is_host })
              on (inr h) = absurd (not-lower k (d.held cut).other v h (d.held cut).lower (subst (λ i. IsJoinedBy m i v (parent_in t v)) e d.joined) d.lower)

          at : (b : Bool) → nat_eq d.entry k ≡ b → HasHostWithout m k v ⊎ Hangs m t k v
          at true e = same (cut_in t v) ((Decides-eqb d.entry k).0 e) refl
          at false e =
              let less = d.lower in
              on (rest (parent_in t v) (omega (arith, l, less)) d.met)
            where
              on : HasHostWithout m k (parent_in t v) ⊎ Hangs m t k (parent_in t v) → HasHostWithout m k v ⊎ Hangs m t k v
              on (inl h) = inl (over d (λ f. false≢true (sym e ∙ (Decides-eqb d.entry k).1 f)) h)
              on (inr h) = inr (by_parent two h)

      by : (number_in t v ≡ 1) ⊎ ((number_in t v < 1) ⊎ (1 < number_in t v)) → ((u : ℕ) → number_in t u < n → 1 ≤ number_in t u → HasHostWithout m k u ⊎ Hangs m t k u) → HasHostWithout m k v ⊎ Hangs m t k v
      by (inl e) rest = inl (walked.roots.lasts v e k s)
      by (inr (inl h)) rest = absurd (omega arith)
      by (inr (inr h)) rest = late (omega arith) rest

  -- the ends of a cable are vertices
  low : (i v w : ℕ) → IsJoinedBy m i v w → (v < length m.vertices) × (w < length m.vertices)
  low i v w j = by j.ends
    where
      both : (j.cable.v < length m.vertices) × (j.cable.w < length m.vertices)
      both = cable-low (length m.vertices) m.cables i j.cable (cables-low (length m.vertices) m.cables walked.is_map.cabled_vertices) j.there

      by : ((j.cable.v ≡ v) × (j.cable.w ≡ w)) ⊎ ((j.cable.w ≡ v) × (j.cable.v ≡ w)) → (v < length m.vertices) × (w < length m.vertices)
      by (inl e) = (subst (λ x. x < length m.vertices) e.0 both.0, subst (λ x. x < length m.vertices) e.1 both.1)
      by (inr e) = (subst (λ x. x < length m.vertices) e.0 both.1, subst (λ x. x < length m.vertices) e.1 both.0)

  -- a cable between two that are no hosts cuts off what has none without it
  cut-of : (i v w : ℕ) → IsJoinedBy m i v w → (is_some (host_of_vertex m v) ≡ true → ⊥) → (is_some (host_of_vertex m w) ≡ true → ⊥) → ((x : ℕ) → IsJoinedWithout m i v x → is_some (host_of_vertex m x) ≡ true → ⊥) → IsCutOffBy m i v
  cut-of i v w j one two none = by j.ends
    where
      first : is_switch_vertex m v ≡ true
      first = switch-of m.vertices v (low i v w j).0 one

      second : is_switch_vertex m w ≡ true
      second = switch-of m.vertices w (low i v w j).1 two

      by : ((j.cable.v ≡ v) × (j.cable.w ≡ w)) ⊎ ((j.cable.w ≡ v) × (j.cable.v ≡ w)) → IsCutOffBy m i v
      by (inl e) = record { cable = j.cable; there = j.there; first_switch = ap (is_switch_vertex m) e.0 ∙ first; second_switch = ap (is_switch_vertex m) e.1 ∙ second; end = v; one_end = inl (sym e.0); joined = joined-here m i v; no_host = λ x h p f. none x p (ap is_some f) }
      by (inr e) = record { cable = j.cable; there = j.there; first_switch = ap (is_switch_vertex m) e.1 ∙ second; second_switch = ap (is_switch_vertex m) e.0 ∙ first; end = v; one_end = inr (sym e.0); joined = joined-here m i v; no_host = λ x h p f. none x p (ap is_some f) }

  hangs-cut : (k v : ℕ) → Hangs m t k v → IsCutOffBy m k v
  hangs-cut k v (by_entry two cut d e) =
      subst (λ i. IsCutOffBy m i v) e
      (cut-of d.entry v (parent_in t v) d.joined
      (λ h. (let r = walked.roots.hosts v h in absurd (omega (arith, r, two))))
      (λ h. (let r = walked.roots.beside d.entry v (parent_in t v) d.joined h in absurd (omega (arith, r, two))))
      (d.cut_off cut))
  hangs-cut k v (by_parent two h) = by (nat_eq d.entry k) refl (hangs-cut k (parent_in t v) h)
    where
      d : IsDone m t.numbers t.parents t.cut v
      d = walked.done v two

      by : (b : Bool) → nat_eq d.entry k ≡ b → IsCutOffBy m k (parent_in t v) → IsCutOffBy m k v
      by true e c = absurd (not-lower k (parent_in t v) v h d.lower (subst (λ i. IsJoinedBy m i v (parent_in t v)) ((Decides-eqb d.entry k).0 e) d.joined) d.lower)
      by false e c =
          record {
            cable = c.cable;
            there = c.there;
            first_switch = c.first_switch;
            second_switch = c.second_switch;
            end = c.end;
            one_end = c.one_end;
            joined = joined-on m k d.entry c.end (parent_in t v) v c.joined (λ f. false≢true (sym e ∙ (Decides-eqb d.entry k).1 f)) (joined-back m d.entry v (parent_in t v) d.joined);
            no_host = c.no_host;
          }

  cut-hangs : (k v : ℕ) → 1 ≤ number_in t v → IsCutOffBy m k v → Hangs m t k v
  cut-hangs k v one c = by (host-or (suc (number_in t v)) v (omega arith) one k (record { cable = c.cable; there = c.there; first = c.first_switch; second = c.second_switch }))
    where
      by : HasHostWithout m k v ⊎ Hangs m t k v → Hangs m t k v
      by (inl h) = let some = some-of (host_of_vertex m h.host) h.is_host in absurd (c.no_host h.host some.0 (joined-both m k c.end v h.host c.joined h.joined) some.1)
      by (inr h) = h

  -- ---- what wasn't met
  zero-of : (n : ℕ) → (1 ≤ n → ⊥) → n ≡ 0
  zero-of zero none = refl
  zero-of (suc n) none = absurd (none (omega arith))

  unmet-on : (i v w : ℕ) → number_in t v ≡ 0 → IsJoinedBy m i v w → number_in t w ≡ 0
  unmet-on i v w e j = zero-of (number_in t w) (λ l. (let k = walked.seen i w v (joined-back m i v w j) l in absurd (omega (arith, k, e))))

  unmet-steps : (k v n w : ℕ) → number_in t v ≡ 0 → Steps (map_edges (without m.cables k)) v n w → number_in t w ≡ 0
  unmet-steps k v n w e (start) = e
  unmet-steps k v n w e (step {m = j} {v = u} {w = x} p edge) = let left = without-edge m k u w edge in unmet-on left.number u w (unmet-steps k v j u e p) left.joined

  no-host : (v : ℕ) → number_in t v ≡ 0 → is_some (host_of_vertex m v) ≡ true → ⊥
  no-host v e h = let r = walked.roots.hosts v h in absurd (omega (arith, r, e))

  unmet-cut : (i v : ℕ) → number_in t v ≡ 0 → EndsAt m i v → IsCutOffBy m i v
  unmet-cut i v e s =
      cut-of i v s.other s.joined (no-host v e) (no-host s.other (unmet-on i v s.other e s.joined))
      (λ x p. no-host x (unmet-steps i v p.cables x e p.path))

  cut-ends : (k v : ℕ) → IsCutOffBy m k v → (i : ℕ) × EndsAt m i v
  cut-ends k v c = of c.end c.one_end c.joined.cables c.joined.path
    where
      of : (x : ℕ) → (x ≡ c.cable.v) ⊎ (x ≡ c.cable.w) → (n : ℕ) → Steps (map_edges (without m.cables k)) x n v → (i : ℕ) × EndsAt m i v
      of x (inl e) n (start) = (k, record { other = c.cable.w; joined = record { cable = c.cable; there = c.there; ends = inl (sym e, refl) } })
      of x (inr e) n (start) = (k, record { other = c.cable.v; joined = record { cable = c.cable; there = c.there; ends = inr (sym e, refl) } })
      of x one n (step {m = j} {v = u} {w = y} p edge) = let left = without-edge m k u v edge in (left.number, record { other = u; joined = joined-back m left.number u v left.joined })

  -- ---- the marks
  hangs-late : (k v : ℕ) → Hangs m t k v → 2 ≤ number_in t v
  hangs-late k v (by_entry two cut d e) = two
  hangs-late k v (by_parent two h) = two

  pub first-hanging : (marks : List Bool) → AreUnwalked m t (length m.cables) marks → AreHanging m t 0 marks
  first-hanging marks a = record {
    long = a.long;
    unmet = λ v z e. (a.some v e).1;
    unmet_all = λ i v s z. a.all i v (joined-number m i v s.other s.joined) s z;
    roots = λ v one. root v one (slice_index_or marks v false) refl;
    some = λ v two l e. absurd (omega (arith, two, l));
    all = λ k v l h. (let two = hangs-late k v h in absurd (omega (arith, two, l)));
  }
    where
      root : (v : ℕ) → number_in t v ≡ 1 → (b : Bool) → slice_index_or marks v false ≡ b → slice_index_or marks v false ≡ false
      root v one true e = let z = (a.some v e).0 in absurd (omega (arith, one, z))
      root v one false e = e

  module _ (j v : ℕ) (marks : List Bool) (there : slice_get t.order j ≡ Some v) (before : AreHanging m t j marks) where
    number : number_in t v ≡ j + 2
    number = (walked.ordered.back j v there).0

    two : 2 ≤ number_in t v
    two = omega (arith, number)

    abbrev mark : Bool
    mark = cut_in t v || slice_index_or marks (parent_in t v) false

    here : slice_index_or (slice_set marks v mark) v false ≡ mark
    here = get_or-set_same marks v mark false (let l = (walked.ordered.back j v there).1 in let k = before.long in omega (arith, l, k))

    others : (u : ℕ) → u ≢ v → slice_index_or (slice_set marks v mark) u false ≡ slice_index_or marks u false
    others u d = get_or-set_other marks v u mark false d

    apart : (u : ℕ) → number_in t u < 2 → u ≢ v
    apart u l e = let f : number_in t u ≡ number_in t v = ap (number_in t) e in absurd (omega (arith, f, l, two))

    d : IsDone m t.numbers t.parents t.cut v
    d = walked.done v two

    some-here : (b c : Bool) → cut_in t v ≡ b → slice_index_or marks (parent_in t v) false ≡ c → (b || c) ≡ true → (k : ℕ) × Hangs m t k v
    some-here true c e f g = (d.entry, by_entry two e d refl)
    some-here false false e f g = absurd (false≢true g)
    some-here false true e f g = by (cases_order (number_in t (parent_in t v)) 1)
      where
        lower : number_in t (parent_in t v) < number_in t v
        lower = d.lower

        by : (number_in t (parent_in t v) ≡ 1) ⊎ ((number_in t (parent_in t v) < 1) ⊎ (1 < number_in t (parent_in t v))) → (k : ℕ) × Hangs m t k v
        by (inl p) = absurd (false≢true (sym (before.roots (parent_in t v) p) ∙ f))
        by (inr (inl l)) = let l2 = d.met in absurd (omega (arith, l, l2))
        by (inr (inr l)) = let h = before.some (parent_in t v) (omega (arith, l)) (omega (arith, lower, number)) f in (h.0, by_parent two h.1)

    or-right : (b c : Bool) → c ≡ true → (b || c) ≡ true
    or-right true c e = refl
    or-right false c e = e

    or-left : (b c : Bool) → b ≡ true → (b || c) ≡ true
    or-left true c e = refl
    or-left false c e = absurd (false≢true e)

    all-here : (k : ℕ) → Hangs m t k v → mark ≡ true
    all-here k (by_entry l cut e f) = or-left (cut_in t v) (slice_index_or marks (parent_in t v) false) cut
    all-here k (by_parent l h) = or-right (cut_in t v) (slice_index_or marks (parent_in t v) false) (before.all k (parent_in t v) (let a = d.lower in omega (arith, a, number)) h)

    earlier : (u : ℕ) → 2 ≤ number_in t u → number_in t u < j + 1 + 2 → u ≢ v → number_in t u < j + 2
    earlier u l h a = by (cases_order (number_in t u) (j + 2))
      where
        by : (number_in t u ≡ j + 2) ⊎ ((number_in t u < j + 2) ⊎ (j + 2 < number_in t u)) → number_in t u < j + 2
        by (inl e) = absurd (a (same-number m t.numbers t.order u v walked.ordered l (e ∙ sym number)))
        by (inr (inl k)) = k
        by (inr (inr k)) = absurd (omega (arith, k, h))

    pub next-hanging : AreHanging m t (j + 1) (slice_set marks v mark)
    next-hanging = record {
      long = length-set marks v mark ∙ before.long;
      unmet = λ u z e. before.unmet u z (sym (others u (apart u (omega (arith, z)))) ∙ e);
      unmet_all = λ i u s z. others u (apart u (omega (arith, z))) ∙ before.unmet_all i u s z;
      roots = λ u one. others u (apart u (omega (arith, one))) ∙ before.roots u one;
      some = λ u l h e. some u l h e (nat_eq u v) refl;
      all = λ k u h g. all k u h g (nat_eq u v) refl;
    }
      where
        some : (u : ℕ) → 2 ≤ number_in t u → number_in t u < j + 1 + 2 → slice_index_or (slice_set marks v mark) u false ≡ true → (b : Bool) → nat_eq u v ≡ b → (k : ℕ) × Hangs m t k u
        some u l h e true f =
            let same : u ≡ v = (Decides-eqb u v).0 f in
            subst (λ x. (k : ℕ) × Hangs m t k x) (sym same) (some-here (cut_in t v) (slice_index_or marks (parent_in t v) false) refl refl (sym here ∙ ap (λ x. slice_index_or (slice_set marks v mark) x false) (sym same) ∙ e))
        some u l h e false f =
            let a : u ≢ v = (λ g. false≢true (sym f ∙ (Decides-eqb u v).1 g)) in
            before.some u l (earlier u l h a) (sym (others u a) ∙ e)

        all : (k u : ℕ) → number_in t u < j + 1 + 2 → Hangs m t k u → (b : Bool) → nat_eq u v ≡ b → slice_index_or (slice_set marks v mark) u false ≡ true
        all k u h g true f =
            let same : u ≡ v = (Decides-eqb u v).0 f in
            ap (λ x. slice_index_or (slice_set marks v mark) x false) same ∙ here ∙ all-here k (subst (Hangs m t k) same g)
        all k u h g false f =
            let a : u ≢ v = (λ q. false≢true (sym f ∙ (Decides-eqb u v).1 q)) in
            others u a ∙ before.all k u (earlier u (hangs-late k u g) h a) g

  -- at the end
  pub hanging-outside : (marks : List Bool) → AreHanging m t (length t.order) marks → marks ≡ outside_of m
  hanging-outside marks a = ext_get_or false marks (outside_of m) (a.long ∙ sym (long-numbers (is_outside m) (length m.vertices))) at
    where
      below : (u : ℕ) → number_in t u < length t.order + 2
      below u = number-below m t.numbers t.order u walked.ordered

      marked : (u : ℕ) → slice_index_or marks u false ≡ true → (k : ℕ) × IsCutOffBy m k u
      marked u e = by (cases_order (number_in t u) 1)
        where
          by : (number_in t u ≡ 1) ⊎ ((number_in t u < 1) ⊎ (1 < number_in t u)) → (k : ℕ) × IsCutOffBy m k u
          by (inl p) = absurd (false≢true (sym (a.roots u p) ∙ e))
          by (inr (inl l)) = let z : number_in t u ≡ 0 = omega (arith, l) in let s = a.unmet u z e in (s.0, unmet-cut s.0 u z s.1)
          by (inr (inr l)) = let h = a.some u (omega (arith, l)) (below u) e in (h.0, hangs-cut h.0 u h.1)

      cut : (u k : ℕ) → IsCutOffBy m k u → slice_index_or marks u false ≡ true
      cut u k c = by (cases_order (number_in t u) 0)
        where
          by : (number_in t u ≡ 0) ⊎ ((number_in t u < 0) ⊎ (0 < number_in t u)) → slice_index_or marks u false ≡ true
          by (inl z) = let s = cut-ends k u c in a.unmet_all s.0 u s.1 z
          by (inr (inl l)) = absurd (omega (arith, l))
          by (inr (inr l)) = a.all k u (below u) (cut-hangs k u (omega (arith, l)) c)

      same : (u : ℕ) (b c : Bool) → slice_index_or marks u false ≡ b → is_outside m u ≡ c → slice_index_or marks u false ≡ is_outside m u
      same u true true e f = e ∙ sym f
      same u false false e f = e ∙ sym f
      same u true false e f = absurd (false≢true (sym f ∙ (outside_is_by_paths m u walked.is_map).1 (marked u e)))
      same u false true e f = let k = (outside_is_by_paths m u walked.is_map).0 f in absurd (false≢true (sym e ∙ cut u k.0 k.1))

      at : (u : ℕ) → u < length marks → get_or marks u false ≡ get_or (outside_of m) u false
      at u l = same u (slice_index_or marks u false) (is_outside m u) refl refl ∙ sym (map-at (is_outside m) (length m.vertices) u false (let k = a.long in omega (arith, l, k)))
