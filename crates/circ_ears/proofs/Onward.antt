-- While a cable of the core is left at a vertex of the paths, there is a path that begins with it.
use Rattle.std.proofs.Common.{◌≡◌, ◌≢◌, ◌+◌, ℕ, zero, suc, List, [], ◌∷◌, ◌++◌, length, Bool, true, false, Option, Some, None, sym, ◌∙◌, subst, ap, true≢false, refl, arith, ◌⊎◌, inl, inr}
use Rattle.std.specs.List.{AllByRecursion, slice_get, list_any}
use Rattle.std.proofs.lemmas.Bool.{false≢true}
use Rattle.net_defs.specs.declared.vertex.Vertex.{Vertex}
use Rattle.net_defs.specs.declared.vertex.Vertex.TheVariants.{Host, Switch}
use Rattle.net_defs.specs.declared.vertex.End.{End}
use Rattle.net_defs.specs.declared.vertex.Cable.{Cable}
use Rattle.net_defs.specs.Network.{Network, IsFabric, Apart, has_port, has_vertex, same_vertex}
use Rattle.net_defs.proofs.Ends.{same_vertex-true, same_vertex-refl}
use Rattle.journal_defs.specs.Edges.{IsEdge, Steps, is_among, within}
use Rattle.journal_defs.specs.Edges.Steps.{start, step}
use Rattle.journal_defs.specs.Part.{IsInPart, edges_of, vertices, is_host}
use Rattle.net_defs.proofs.Cabling.{host-port}
use Rattle.journal_defs.proofs.Reach.{edge-back, steps-join, steps-within, within-steps, among-parts, among-self, among-right}
use Rattle.journal_defs.proofs.Simple.{Holds, short-steps}
use Rattle.journal_defs.proofs.Distance.{vertex_decides, vertex-listed, port-vertex}
use Rattle.map_laws.proofs.Truly.{port-there}
use Rattle.circ_defs.specs.Cores.{IsCore, IsCoreCable, IsCutOff}
use Rattle.circ_defs.specs.Ways.{IsOneOf, IsPath, IsStep, IsTouched, IsWay, Joins, Step, cables_on}
use Rattle.circ_defs.specs.Circuit.{are_apart}
use Rattle.circ_defs.specs.Ways.Joins.{forth, back}
use Rattle.circ_defs.proofs.Ways.{ArePassed, apart-later, append-step, back-one, backwards, new-way, one-of-either, way-back, way-join, way-push}
use Rattle.circ_defs.proofs.Cables.{SameCable, ends-one, joins-back, joins-far, one-cable, same-cable}
use Rattle.circ_defs.proofs.Numbers.{none-from, apart-from, is-one}
use Rattle.circ_defs.proofs.Sides.{host-kept, passed-part, stays-off}
use Rattle.circ_defs.proofs.Cables.SameCable.{one_way, other_way}
use Rattle.circ_ears.proofs.Inner.{AreFresh, inner, inner-new}

-- the cables without one
abbrev pub drop_cable : List Cable → ℕ → List Cable
drop_cable [] k = []
drop_cable (c ∷ cs) zero = cs
drop_cable (c ∷ cs) (suc k) = c ∷ drop_cable cs k

place-edge : (cs : List Cable) (i : ℕ) (c : Cable) → slice_get cs i ≡ Some c → IsEdge (edges_of cs) c.a.v c.b.v
place-edge [] i c e = cc
place-edge (y ∷ cs) zero c e = let one : y ≡ c = cc in inl (ap (λ (z : Cable). z.a.v) one, ap (λ (z : Cable). z.b.v) one)
place-edge (y ∷ cs) (suc i) c e = inr (inr (place-edge cs i c e))

edge-there : (cs : List Cable) (k i : ℕ) (c : Cable) → slice_get cs i ≡ Some c → i ≢ k → IsEdge (edges_of (drop_cable cs k)) c.a.v c.b.v
edge-there [] k i c e d = cc
edge-there (x ∷ cs) zero zero c e d = absurd (d refl)
edge-there (x ∷ cs) zero (suc i) c e d = place-edge cs i c e
edge-there (x ∷ cs) (suc k) zero c e d = let one : x ≡ c = cc in inl (ap (λ (z : Cable). z.a.v) one, ap (λ (z : Cable). z.b.v) one)
edge-there (x ∷ cs) (suc k) (suc i) c e d = inr (inr (edge-there cs k i c e (λ p. d (ap suc p))))

record EdgeOf (cs : List Cable) (v w : Vertex) : Type 0 where
  pub number : ℕ
  pub c : Cable
  pub there : slice_get cs number ≡ Some c
  pub ends : ((c.a.v ≡ v) × (c.b.v ≡ w)) ⊎ ((c.b.v ≡ v) × (c.a.v ≡ w))

edge-place : (cs : List Cable) (v w : Vertex) → IsEdge (edges_of cs) v w → EdgeOf cs v w
edge-place [] v w e = absurd e
edge-place (x ∷ cs) v w (inl p) = record { number = 0; c = x; there = refl; ends = inl p }
edge-place (x ∷ cs) v w (inr (inl p)) = record { number = 0; c = x; there = refl; ends = inr p }
edge-place (x ∷ cs) v w (inr (inr e)) = let r = edge-place cs v w e in record { number = suc r.number; c = r.c; there = r.there; ends = r.ends }

edge-found : (cs : List Cable) (k : ℕ) (v w : Vertex) → IsEdge (edges_of (drop_cable cs k)) v w → (e : EdgeOf cs v w) × (e.number ≢ k)
edge-found [] k v w e = absurd e
edge-found (x ∷ cs) zero v w e = let r = edge-place cs v w e in (record { number = suc r.number; c = r.c; there = r.there; ends = r.ends }, (λ p. (let q = p in absurd (omega arith))))
edge-found (x ∷ cs) (suc k) v w (inl p) = (record { number = 0; c = x; there = refl; ends = inl p }, (λ p. (let q = p in absurd (omega arith))))
edge-found (x ∷ cs) (suc k) v w (inr (inl p)) = (record { number = 0; c = x; there = refl; ends = inr p }, (λ p. (let q = p in absurd (omega arith))))
edge-found (x ∷ cs) (suc k) v w (inr (inr e)) = let r = edge-found cs k v w e in (record { number = suc r.0.number; c = r.0.c; there = r.0.there; ends = r.0.ends }, (λ p. r.1 (let q = p in omega arith)))

-- the step of an edge
pub edge-step : (n : Network) (k : ℕ) (v w : Vertex) → IsEdge (edges_of (drop_cable n.cables k)) v w → (s : Step) × (IsStep n s × (s.out.v ≡ v) × (s.into.v ≡ w) × (s.cable ≢ k))
edge-step n k v w e = let r = edge-found n.cables k v w e in by r.0 r.1 r.0.ends
  where
    by : (r : EdgeOf n.cables v w) → r.number ≢ k → ((r.c.a.v ≡ v) × (r.c.b.v ≡ w)) ⊎ ((r.c.b.v ≡ v) × (r.c.a.v ≡ w)) → (s : Step) × (IsStep n s × (s.out.v ≡ v) × (s.into.v ≡ w) × (s.cable ≢ k))
    by r other (inl p) = (record { cable = r.number; out = r.c.a; into = r.c.b }, (forth r.there, p.0, p.1, other))
    by r other (inr p) = (record { cable = r.number; out = r.c.b; into = r.c.a }, (back r.there, p.0, p.1, other))

joins-edge : (n : Network) (k i : ℕ) (d e : End) → Joins n i d e → i ≢ k → IsEdge (edges_of (drop_cable n.cables k)) d.v e.v
joins-edge n k i d e (forth {c = c} p) other = edge-there n.cables k i c p other
joins-edge n k i d e (back {c = c} p) other = edge-back (edges_of (drop_cable n.cables k)) c.a.v c.b.v (edge-there n.cables k i c p other)

-- a way beside a cable
pub record Beside (n : Network) (k : ℕ) (x z : Vertex) : Type 0 where
  pub steps : List Step
  pub way : IsWay n x steps z
  pub beside : ¬ IsOneOf k (cables_on steps)

pub steps-way : (n : Network) (k : ℕ) (x z : Vertex) (m : ℕ) → Steps (edges_of (drop_cable n.cables k)) x m z → Beside n k x z
steps-way n k x z m (start) = record { steps = []; way = refl; beside = λ i. i }
steps-way n k x z m (step {m = i} {v = v} {w = w} p e) =
    let r = steps-way n k x v i p in
    let s = edge-step n k v w e in
    record { steps = r.steps ++ s.0 ∷ []; way = subst (IsWay n x (r.steps ++ s.0 ∷ [])) s.1.2 (way-push n x r.steps s.0 (subst (IsWay n x r.steps) (sym s.1.1) r.way) s.1.0); beside = λ o. by r s.0 s.1.3 (one-of-either k r.steps (s.0 ∷ []) o) }
  where
    by : {v : Vertex} (r : Beside n k x v) (s : Step) → s.cable ≢ k → IsOneOf k (cables_on r.steps) ⊎ IsOneOf k (s.cable ∷ []) → ⊥
    by r s other (inl o) = r.beside o
    by r s other (inr (inl o)) = other (sym o)
    by r s other (inr (inr o)) = o

pub way-steps : (n : Network) (k : ℕ) (x z : Vertex) (ss : List Step) → IsWay n x ss z → ¬ IsOneOf k (cables_on ss) → (m : ℕ) × Steps (edges_of (drop_cable n.cables k)) x m z
way-steps n k x z [] way beside = (0, subst (Steps (edges_of (drop_cable n.cables k)) x 0) way start)
way-steps n k x z (s ∷ ss) way beside =
    let r = way-steps n k s.into.v z ss way.2 (λ m. beside (inr m)) in
    let edge = joins-edge n k s.cable s.out s.into way.0 (λ e. beside (inl (sym e))) in
    (r.0 + 1, subst (λ y. Steps (edges_of (drop_cable n.cables k)) y (r.0 + 1) z) way.1 (steps-join (edges_of (drop_cable n.cables k)) s.out.v s.into.v z 1 r.0 (step start edge) r.1))

any-host : (vs : List Vertex) → list_any is_host vs ≡ true → (a : ℕ) × (is_among same_vertex vs (Host a) ≡ true)
any-host [] e = absurd (false≢true e)
any-host (Host h ∷ vs) e = (h, among-self same_vertex vertex_decides (Host h) vs)
any-host (Switch s ∷ vs) e = let r = any-host vs e in (r.0, among-right same_vertex vertex_decides (Switch s ∷ []) vs (Host r.0) r.1)

host-any : (vs : List Vertex) (a : ℕ) → is_among same_vertex vs (Host a) ≡ true → list_any is_host vs ≡ true
host-any [] a e = absurd (false≢true e)
host-any (Host h ∷ vs) a e = refl
host-any (Switch s ∷ vs) a e = by (among-parts same_vertex vertex_decides (Host a) (Switch s) vs e) (host-any vs a)
  where
    by : (Host a ≡ Switch s) ⊎ (is_among same_vertex vs (Host a) ≡ true) → (is_among same_vertex vs (Host a) ≡ true → list_any is_host vs ≡ true) → list_any is_host (Switch s ∷ vs) ≡ true
    by (inl p) rest = cc
    by (inr p) rest = rest p

pub joins-vertex : (n : Network) (k : ℕ) (d e : End) → IsFabric n → Joins n k d e → has_vertex n d.v ≡ true
joins-vertex n k d e f joins = port-vertex n d.v d.p (port-there n d e f (joins-far n k d e f joins))

-- There is a way beside a cable to a host, or each way to a host crosses it.
pub home-or-not : (n : Network) (k : ℕ) (y : Vertex) → IsFabric n → has_vertex n y ≡ true → ((h : ℕ) × Beside n k y (Host h)) ⊎ ((h : ℕ) (ss : List Step) → IsWay n y ss (Host h) → IsOneOf k (cables_on ss))
home-or-not n k y f there = by (list_any is_host (within same_vertex es y (length (vertices n)))) refl
  where
    es : List (Vertex × Vertex)
    es = edges_of (drop_cable n.cables k)

    held_place : Holds same_vertex (edges_of (drop_cable n.cables k)) (vertices n) y
    held_place = record { first = vertex-listed n y there; others = λ v w e. (let s = edge-step n k v w e in vertex-listed n w (subst (λ x. has_vertex n x ≡ true) s.1.2 (joins-vertex n s.0.cable s.0.into s.0.out f (joins-back n s.0.cable s.0.out s.0.into s.1.0)))) }

    by : (b : Bool) → list_any is_host (within same_vertex (edges_of (drop_cable n.cables k)) y (length (vertices n))) ≡ b → ((h : ℕ) × Beside n k y (Host h)) ⊎ ((h : ℕ) (ss : List Step) → IsWay n y ss (Host h) → IsOneOf k (cables_on ss))
    by true e =
        let a = any-host (within same_vertex (edges_of (drop_cable n.cables k)) y (length (vertices n))) e in
        let p = within-steps same_vertex vertex_decides (edges_of (drop_cable n.cables k)) y (Host a.0) (length (vertices n)) a.1 in
        inl (a.0, steps-way n k y (Host a.0) p.count p.path)
    by false e = inr (λ h ss way. all h ss way (is-one k (cables_on ss)))
      where
        all : (h : ℕ) (ss : List Step) → IsWay n y ss (Host h) → IsOneOf k (cables_on ss) ⊎ (¬ IsOneOf k (cables_on ss)) → IsOneOf k (cables_on ss)
        all h ss way (inl m) = m
        all h ss way (inr m) =
            let p = way-steps n k y (Host h) ss way m in
            let short = short-steps same_vertex vertex_decides (edges_of (drop_cable n.cables k)) (vertices n) y (Host h) p.0 held_place p.1 in
            let near = steps-within same_vertex vertex_decides (edges_of (drop_cable n.cables k)) y (Host h) short.count (length (vertices n)) short.path (let l = short.few in omega arith) in
            absurd (true≢false (sym (host-any (within same_vertex (edges_of (drop_cable n.cables k)) y (length (vertices n))) h near) ∙ e))

-- from the far end of a core cable there is a way beside it to a host
host-once : (n : Network) (k l : ℕ) (d e a b : End) (h : ℕ) → IsFabric n → Joins n k d e → Joins n l a b → d.v ≡ Host h → a.v ≡ Host h → k ≡ l
host-once n k l d e a b h f p q v w =
    let zero_d : d.p ≡ 0 = host-port n h d.p (subst (λ y. has_port n (record { v = y; p = d.p }) ≡ true) v (port-there n d e f (joins-far n k d e f p))) in
    let zero_a : a.p ≡ 0 = host-port n h a.p (subst (λ y. has_port n (record { v = y; p = a.p }) ≡ true) w (port-there n a b f (joins-far n l a b f q))) in
    one-cable n k l d e b f p (subst (λ x. Joins n l x b) (ends-one a d (w ∙ sym v) (zero_a ∙ sym zero_d)) q)

pub home-way : (n : Network) (old : List ℕ) (k : ℕ) (d e : End) → IsFabric n → Joins n k d e → ¬ IsOneOf k old → IsTouched n old d.v → ¬ IsCutOff n e.v → (h : ℕ) × Beside n k e.v (Host h)
home-way n old k d e f joins new t kept = by d.v e.v refl refl
  where
    by : (x y : Vertex) → d.v ≡ x → e.v ≡ y → (h : ℕ) × Beside n k e.v (Host h)
    by x (Host h) p q = (h, record { steps = []; way = q; beside = λ m. m })
    by (Host h) (Switch b) p q = absurd (new (subst (λ i. IsOneOf i old) (sym (host-once n k t.cable d e t.from t.to h f joins t.joins p (t.there ∙ p))) t.one_of))
    by (Switch a) (Switch b) p q = found (home-or-not n k e.v f (joins-vertex n k e d f (joins-back n k d e joins)))
      where
        found : ((h : ℕ) × Beside n k e.v (Host h)) ⊎ ((h : ℕ) (ss : List Step) → IsWay n e.v ss (Host h) → IsOneOf k (cables_on ss)) → (h : ℕ) × Beside n k e.v (Host h)
        found (inl r) = r
        found (inr r) = absurd (kept (record { bridge = k; from = d; to = e; joins = joins; s = a; t = b; from_switch = p; to_switch = q; steps = []; way = refl; beside = λ m. m; hostless = r }))

-- whether an old cable ends at a vertex
ends-at : (n : Network) (k : ℕ) (x : Vertex) → ((d : End) × ((e : End) × (Joins n k d e × (d.v ≡ x)))) ⊎ ((d e : End) → Joins n k d e → d.v ≢ x)
ends-at n k x = by (slice_get n.cables k) refl
  where
    none : slice_get n.cables k ≡ None → (d e : End) → Joins n k d e → d.v ≢ x
    none p d e (forth q) r = let two : ◌≡◌ {A = Option Cable} None (Some _) = sym p ∙ q in cc
    none p d e (back q) r = let two : ◌≡◌ {A = Option Cable} None (Some _) = sym p ∙ q in cc

    neither : (c : Cable) → slice_get n.cables k ≡ Some c → same_vertex c.a.v x ≡ false → same_vertex c.b.v x ≡ false → (d e : End) → Joins n k d e → d.v ≢ x
    neither c p a b d e (forth {c = g} q) r = let one : c ≡ g = cc in true≢false (sym (subst (λ y. same_vertex y x ≡ true) (sym (ap (λ (z : Cable). z.a.v) one ∙ r)) (same_vertex-refl x)) ∙ a)
    neither c p a b d e (back {c = g} q) r = let one : c ≡ g = cc in true≢false (sym (subst (λ y. same_vertex y x ≡ true) (sym (ap (λ (z : Cable). z.b.v) one ∙ r)) (same_vertex-refl x)) ∙ b)

    two : (c : Cable) → slice_get n.cables k ≡ Some c → (s t : Bool) → same_vertex c.a.v x ≡ s → same_vertex c.b.v x ≡ t → ((d : End) × ((e : End) × (Joins n k d e × (d.v ≡ x)))) ⊎ ((d e : End) → Joins n k d e → d.v ≢ x)
    two c p true t a b = inl (c.a, (c.b, (forth p, same_vertex-true c.a.v x a)))
    two c p false true a b = inl (c.b, (c.a, (back p, same_vertex-true c.b.v x b)))
    two c p false false a b = inr (neither c p a b)

    by : (o : Option Cable) → slice_get n.cables k ≡ o → ((d : End) × ((e : End) × (Joins n k d e × (d.v ≡ x)))) ⊎ ((d e : End) → Joins n k d e → d.v ≢ x)
    by None p = inr (none p)
    by (Some c) p = two c p (same_vertex c.a.v x) (same_vertex c.b.v x) refl refl

pub touched-or-not : (n : Network) (old : List ℕ) (x : Vertex) → IsTouched n old x ⊎ (¬ IsTouched n old x)
touched-or-not n [] x = inr (λ t. t.one_of)
touched-or-not n (k ∷ old) x = by (ends-at n k x) (touched-or-not n old x)
  where
    neither : ((d e : End) → Joins n k d e → d.v ≢ x) → ¬ IsTouched n old x → IsTouched n (k ∷ old) x → ⊥
    neither p q t = which t.one_of
      where
        which : IsOneOf t.cable (k ∷ old) → ⊥
        which (inl e) = p t.from t.to (subst (λ i. Joins n i t.from t.to) e t.joins) t.there
        which (inr m) = q (record { cable = t.cable; from = t.from; to = t.to; one_of = m; joins = t.joins; there = t.there })

    by : ((d : End) × ((e : End) × (Joins n k d e × (d.v ≡ x)))) ⊎ ((d e : End) → Joins n k d e → d.v ≢ x) → IsTouched n old x ⊎ (¬ IsTouched n old x) → IsTouched n (k ∷ old) x ⊎ (¬ IsTouched n (k ∷ old) x)
    by (inl r) q = inl (record { cable = k; from = r.0; to = r.1.0; one_of = inl refl; joins = r.1.1.0; there = r.1.1.1 })
    by (inr p) (inl t) = inl (record { cable = t.cable; from = t.from; to = t.to; one_of = inr t.one_of; joins = t.joins; there = t.there })
    by (inr p) (inr q) = inr (neither p q)

-- where a path may end
abbrev pub Stops : Network → List ℕ → Vertex → Type 0
Stops n old z = IsTouched n old z ⊎ ((h : ℕ) × (z ≡ Host h))

-- the vertices that a way leaves
abbrev pub outs : List Step → List Vertex
outs [] = []
outs (s ∷ ss) = s.out.v ∷ outs ss

-- a way to the first place where a path may end, no vertex twice
record Short (n : Network) (old : List ℕ) (y : Vertex) (ss : List Step) : Type 0 where
  pub steps : List Step
  pub end : Vertex
  pub way : IsWay n y steps end
  pub stops : Stops n old end
  pub goes_on : AllByRecursion (λ v. ¬ Stops n old v) (outs steps)
  pub once : Apart (outs steps)
  pub among : (k : ℕ) → IsOneOf k (cables_on steps) → IsOneOf k (cables_on ss)

stops-or-not : (n : Network) (old : List ℕ) (x : Vertex) → Stops n old x ⊎ (¬ Stops n old x)
stops-or-not n old (Host h) = inl (inr (h, refl))
stops-or-not n old (Switch s) = by (touched-or-not n old (Switch s))
  where
    none : ¬ IsTouched n old (Switch s) → Stops n old (Switch s) → ⊥
    none p (inl t) = p t
    none p (inr h) = let two : Switch s ≡ Host h.0 = h.1 in cc

    by : IsTouched n old (Switch s) ⊎ (¬ IsTouched n old (Switch s)) → Stops n old (Switch s) ⊎ (¬ Stops n old (Switch s))
    by (inl t) = inl (inl t)
    by (inr p) = inr (none p)

-- cut a way where it leaves a vertex
record CutAt (n : Network) (x z : Vertex) (P : Vertex → Type 0) (ss : List Step) : Type 0 where
  pub steps : List Step
  pub way : IsWay n x steps z
  pub goes_on : AllByRecursion P (outs steps)
  pub once : Apart (outs steps)
  pub among : (k : ℕ) → IsOneOf k (cables_on steps) → IsOneOf k (cables_on ss)

cut-at : (n : Network) (P : Vertex → Type 0) (x y z : Vertex) (ss : List Step) → IsWay n y ss z → AllByRecursion P (outs ss) → Apart (outs ss) → CutAt n x z P ss ⊎ AllByRecursion (λ v. x ≢ v) (outs ss)
cut-at n P x y z [] way all once = inr tt
cut-at n P x y z (s ∷ ss) way all once = by (same_vertex s.out.v x) refl (cut-at n P x s.into.v z ss way.2 all.1 once.1)
  where
    on : s.out.v ≢ x → CutAt n x z P ss ⊎ AllByRecursion (λ v. x ≢ v) (outs ss) → CutAt n x z P (s ∷ ss) ⊎ AllByRecursion (λ v. x ≢ v) (outs (s ∷ ss))
    on d (inl r) = inl (record { steps = r.steps; way = r.way; goes_on = r.goes_on; once = r.once; among = λ k m. inr (r.among k m) })
    on d (inr r) = inr ((λ e. d (sym e)), r)

    by : (b : Bool) → same_vertex s.out.v x ≡ b → CutAt n x z P ss ⊎ AllByRecursion (λ v. x ≢ v) (outs ss) → CutAt n x z P (s ∷ ss) ⊎ AllByRecursion (λ v. x ≢ v) (outs (s ∷ ss))
    by true e rest = inl (record { steps = s ∷ ss; way = (way.0, same_vertex-true s.out.v x e, way.2); goes_on = all; once = once; among = λ k m. m })
    by false e rest = on (λ p. true≢false (sym (subst (λ v. same_vertex v x ≡ true) (sym p) (same_vertex-refl x)) ∙ e)) rest

shorten : (n : Network) (old : List ℕ) (y : Vertex) (h : ℕ) (ss : List Step) → IsWay n y ss (Host h) → Short n old y ss
shorten n old y h [] way = record { steps = []; end = y; way = refl; stops = inr (h, way); goes_on = tt; once = tt; among = λ k m. m }
shorten n old y h (s ∷ ss) way = by (stops-or-not n old y) (shorten n old s.into.v h ss way.2)
  where
    on : ¬ Stops n old y → (r : Short n old s.into.v ss) → CutAt n y r.end (λ v. ¬ Stops n old v) r.steps ⊎ AllByRecursion (λ v. y ≢ v) (outs r.steps) → Short n old y (s ∷ ss)
    on p r (inl c) = record { steps = c.steps; end = r.end; way = c.way; stops = r.stops; goes_on = c.goes_on; once = c.once; among = λ k m. inr (r.among k (c.among k m)) }
    on p r (inr c) = record {
      steps = s ∷ r.steps;
      end = r.end;
      way = (way.0, way.1, r.way);
      stops = r.stops;
      goes_on = (subst (λ v. ¬ Stops n old v) (sym way.1) p, r.goes_on);
      once = (subst (λ v. AllByRecursion (λ x. v ≢ x) (outs r.steps)) (sym way.1) c, r.once);
      among = λ k m. cable k m;
    }
      where
        cable : (k : ℕ) → IsOneOf k (cables_on (s ∷ r.steps)) → IsOneOf k (cables_on (s ∷ ss))
        cable k (inl e) = inl e
        cable k (inr m) = inr (r.among k m)

    by : Stops n old y ⊎ (¬ Stops n old y) → Short n old s.into.v ss → Short n old y (s ∷ ss)
    by (inl p) r = record { steps = []; end = y; way = refl; stops = p; goes_on = tt; once = tt; among = λ k m. absurd m }
    by (inr p) r = on p r (cut-at n (λ v. ¬ Stops n old v) y s.into.v r.end r.steps r.way r.goes_on r.once)

-- the vertices inside a path are those that its rest leaves
inner-outs : (n : Network) (s : Step) (z : Vertex) (ss : List Step) → IsWay n s.into.v ss z → inner (s ∷ ss) ≡ outs ss
inner-outs n s z [] way = refl
inner-outs n s z (t ∷ ss) way = ap (λ v. v ∷ inner (t ∷ ss)) (sym way.1) ∙ ap (λ l. t.out.v ∷ l) (inner-outs n t z ss way.2)

-- a cable of a way leaves a vertex of it, and enters one or its end
record Leaves (n : Network) (z : Vertex) (k : ℕ) (ss : List Step) : Type 1 where
  pub step : Step
  pub is_step : IsStep n step
  pub cable : step.cable ≡ k
  pub out : (P : Vertex → Type 0) → AllByRecursion P (outs ss) → P step.out.v
  pub into : (P : Vertex → Type 0) → AllByRecursion P (outs ss) → P z → P step.into.v

leaves-of : (n : Network) (y z : Vertex) (k : ℕ) (ss : List Step) → IsWay n y ss z → IsOneOf k (cables_on ss) → Leaves n z k ss
leaves-of n y z k [] way m = absurd m
leaves-of n y z k (s ∷ []) way (inl e) = record { step = s; is_step = way.0; cable = sym e; out = λ P a. a.0; into = λ P a b. subst P (sym way.2) b }
leaves-of n y z k (s ∷ t ∷ ss) way (inl e) = record { step = s; is_step = way.0; cable = sym e; out = λ P a. a.0; into = λ P a b. subst P way.2.1 a.1.0 }
leaves-of n y z k (s ∷ ss) way (inr m) =
    let r = leaves-of n s.into.v z k ss way.2 m in
    record { step = r.step; is_step = r.is_step; cable = r.cable; out = λ P a. r.out P a.1; into = λ P a b. r.into P a.1 b }

-- so its cables are different
short-apart : (n : Network) (y z : Vertex) (ss : List Step) → IsWay n y ss z → Apart (outs ss) → AllByRecursion (λ v. v ≢ z) (outs ss) → are_apart (cables_on ss) ≡ true
short-apart n y z [] way once other = refl
short-apart n y z (s ∷ ss) way once other = apart-from s.cable (cables_on ss) new (short-apart n s.into.v z ss way.2 once.1 other.1)
  where
    new : ¬ IsOneOf s.cable (cables_on ss)
    new m = by (leaves-of n s.into.v z s.cable ss way.2 m)
      where
        by : Leaves n z s.cable ss → ⊥
        by l = ends (same-cable n s.cable l.step.out l.step.into s.out s.into (subst (λ k. Joins n k l.step.out l.step.into) l.cable l.is_step) way.0)
          where
            ends : SameCable l.step.out l.step.into s.out s.into → ⊥
            ends (one_way p q) = l.out (λ v. s.out.v ≢ v) once.0 (ap (λ (x : End). x.v) (sym p))
            ends (other_way p q) = l.into (λ v. s.out.v ≢ v) once.0 other.0 (ap (λ (x : End). x.v) (sym q))

-- between two vertices that aren't cut off, over different cables, no vertex is
kept-between : (n : Network) (y x z : Vertex) (ss ts : List Step) → IsWay n y ss x → IsWay n x ts z → are_apart (cables_on (ss ++ ts)) ≡ true → ¬ IsCutOff n y → ¬ IsCutOff n z → ¬ IsCutOff n x
kept-between n y x z ss ts a b apart p q c = by (is-one c.bridge (cables_on ss))
  where
    by : IsOneOf c.bridge (cables_on ss) ⊎ (¬ IsOneOf c.bridge (cables_on ss)) → ⊥
    by (inl m) = q (stays-off n x z ts c b (apart-later c.bridge ss ts apart m))
    by (inr m) = p (stays-off n x y (backwards ss) c (way-back n y x ss a) (λ i. m (back-one c.bridge ss i)))

all-between : (n : Network) (y x z : Vertex) (ss ts : List Step) → IsWay n y ss x → IsWay n x ts z → are_apart (cables_on (ss ++ ts)) ≡ true → ¬ IsCutOff n y → ¬ IsCutOff n z → ArePassed (λ v. ¬ IsCutOff n v) ts
all-between n y x z ss [] a b apart p q = tt
all-between n y x z ss (t ∷ ts) a b apart p q =
    let here = kept-between n y x z ss (t ∷ ts) a b apart p q in
    let more = way-join n y x t.into.v ss (t ∷ []) a (b.0, b.1, refl) in
    let moved : are_apart (cables_on ((ss ++ t ∷ []) ++ ts)) ≡ true = ap (λ l. are_apart (cables_on l)) (append-step ss ts t) ∙ apart in
    (subst (λ v. ¬ IsCutOff n v) (sym b.1) here, kept-between n y t.into.v z (ss ++ t ∷ []) ts more b.2 moved p q, all-between n y t.into.v z (ss ++ t ∷ []) ts more b.2 moved p q)

-- the next path
pub record NextPath (n : Network) (host : ℕ) (old : List ℕ) (k : ℕ) : Type 0 where
  pub path : List Step
  pub is_path : IsPath n old path
  pub begins : IsOneOf k (cables_on path)
  pub core : (l : ℕ) → IsOneOf l (cables_on path) → IsCoreCable n host l

core-cables : (n : Network) (host : ℕ) (x z : Vertex) (ss : List Step) (l : ℕ) → IsWay n x ss z → ArePassed (IsInPart n host) ss → ArePassed (λ v. ¬ IsCutOff n v) ss → IsOneOf l (cables_on ss) → IsCoreCable n host l
core-cables n host x z [] l way part kept m = absurd m
core-cables n host x z (s ∷ ss) l way part kept (inl e) = subst (IsCoreCable n host) (sym e) (record { from = s.out; to = s.into; joins = way.0; first = record { in_part = part.0; kept = kept.0 }; second = record { in_part = part.1; kept = kept.1 } })
core-cables n host x z (s ∷ ss) l way part kept (inr m) = core-cables n host s.into.v z ss l way.2 part.2 kept.2 m

fresh-outs : (n : Network) (old : List ℕ) (vs : List Vertex) → AllByRecursion (λ v. ¬ Stops n old v) vs → AreFresh n old vs
fresh-outs n old [] a = tt
fresh-outs n old (v ∷ vs) a = ((λ t. a.0 (inl t)), fresh-outs n old vs a.1)

not-end : (n : Network) (old : List ℕ) (z : Vertex) (vs : List Vertex) → Stops n old z → AllByRecursion (λ v. ¬ Stops n old v) vs → AllByRecursion (λ v. v ≢ z) vs
not-end n old z [] s a = tt
not-end n old z (v ∷ vs) s a = ((λ e. a.0 (subst (Stops n old) (sym e) s)), not-end n old z vs s a.1)

-- a first step from an old cable, and a way from it to the first place where a path may end, no vertex twice, are a path
pub short-path : (n : Network) (old : List ℕ) (own : Step) (end : Vertex) (steps : List Step) → IsStep n own → ¬ IsOneOf own.cable old → IsTouched n old own.out.v → IsWay n own.into.v steps end → Stops n old end → AllByRecursion (λ v. ¬ Stops n old v) (outs steps) → Apart (outs steps) → ¬ IsOneOf own.cable (cables_on steps) → IsPath n old (own ∷ steps)
short-path n old own end steps joins new t way stops goes_on once beside = record {
  start = own.out.v;
  end = end;
  across = inner-new n old own.out.v (own ∷ steps) end whole (λ p. cc) t (subst (AreFresh n old) (sym inside) (fresh-outs n old (outs steps) goes_on)) (subst Apart (sym inside) once);
  starts = t;
  ends = stops;
  is_new = (new, none-from (cables_on steps) old others);
  apart = apart-from own.cable (cables_on steps) beside (short-apart n own.into.v end steps way once (not-end n old end (outs steps) stops goes_on));
}
  where
    whole : IsWay n own.out.v (own ∷ steps) end
    whole = (joins, refl, way)

    inside : inner (own ∷ steps) ≡ outs steps
    inside = inner-outs n own end steps way

    others : (l : ℕ) → IsOneOf l (cables_on steps) → IsOneOf l old → ⊥
    others l m i = (leaves-of n own.into.v end l steps way m).out (λ v. ¬ Stops n old v) goes_on (inl (at (leaves-of n own.into.v end l steps way m)))
      where
        at : (g : Leaves n end l steps) → IsTouched n old g.step.out.v
        at g = record { cable = l; from = g.step.out; to = g.step.into; one_of = i; joins = subst (λ c. Joins n c g.step.out g.step.into) g.cable g.is_step; there = refl }

-- what a cable of the core touches is of the core
pub touched-core : (n : Network) (host : ℕ) (old : List ℕ) (z : Vertex) → ((l : ℕ) → IsOneOf l old → IsCoreCable n host l) → IsTouched n old z → IsCore n host z
touched-core n host old z cores i = at (cores i.cable i.one_of)
  where
    at : IsCoreCable n host i.cable → IsCore n host z
    at c = ends (same-cable n i.cable i.from i.to c.from c.to i.joins c.joins)
      where
        ends : SameCable i.from i.to c.from c.to → IsCore n host z
        ends (one_way p q) = subst (λ y. IsCore n host y) (sym (ap (λ (x : End). x.v) p) ∙ i.there) c.first
        ends (other_way p q) = subst (λ y. IsCore n host y) (sym (ap (λ (x : End). x.v) p) ∙ i.there) c.second

stops-kept : (n : Network) (host : ℕ) (old : List ℕ) (z : Vertex) → ((l : ℕ) → IsOneOf l old → IsCoreCable n host l) → Stops n old z → ¬ IsCutOff n z
stops-kept n host old z cores (inr h) = subst (λ y. ¬ IsCutOff n y) (sym h.1) (host-kept n h.0)
stops-kept n host old z cores (inl i) = (touched-core n host old z cores i).kept

-- the cables of a path are of the core
pub path-core : (n : Network) (host : ℕ) (old : List ℕ) (p : List Step) → IsFabric n → ((l : ℕ) → IsOneOf l old → IsCoreCable n host l) → IsPath n old p → (l : ℕ) → IsOneOf l (cables_on p) → IsCoreCable n host l
path-core n host old p f cores e l m =
    let way = new-way n old e.start p e.end e.across in
    let c = touched-core n host old e.start cores e.starts in
    core-cables n host e.start e.end p l way (passed-part n host e.start e.end p f c.in_part way) (all-between n e.start e.start e.end [] p refl way e.apart c.kept (stops-kept n host old e.end cores e.ends)) m

pub next_path : (n : Network) (host : ℕ) (old : List ℕ) (k : ℕ) (d e : End) → IsFabric n → ((l : ℕ) → IsOneOf l old → IsCoreCable n host l) → Joins n k d e → IsCore n host d.v → IsCore n host e.v → IsTouched n old d.v → ¬ IsOneOf k old → NextPath n host old k
next_path n host old k d e f cores joins cd ce t new = by (home-way n old k d e f joins new t ce.kept)
  where
    own : Step
    own = record { cable = k; out = d; into = e }

    by : (h : ℕ) × Beside n k e.v (Host h) → NextPath n host old k
    by w = found (shorten n old e.v w.0 w.1.steps w.1.way)
      where
        found : Short n old e.v w.1.steps → NextPath n host old k
        found r =
            let path = short-path n old own r.end r.steps joins new t r.way r.stops r.goes_on r.once (λ m. w.1.beside (r.among k m)) in
            record { path = own ∷ r.steps; is_path = path; begins = inl refl; core = path-core n host old (own ∷ r.steps) f cores path }
