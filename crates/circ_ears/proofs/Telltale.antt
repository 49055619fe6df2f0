-- It can be told which vertices are cut off, and so which cables are of the core.
use Rattle.std.proofs.Common.{◌≡◌, ◌<◌, ℕ, zero, suc, List, length, Bool, true, false, Option, Some, None, sym, ◌∙◌, subst, true≢false, refl, arith, ◌⊎◌, inl, inr}
use Rattle.std.specs.List.{slice_get}
use Rattle.std.proofs.lemmas.Bool.{cases_order}
use Rattle.net_defs.specs.declared.vertex.Vertex.{Vertex}
use Rattle.net_defs.specs.declared.vertex.Vertex.TheVariants.{Host, Switch}
use Rattle.net_defs.specs.declared.vertex.End.{End}
use Rattle.net_defs.specs.declared.vertex.Cable.{Cable}
use Rattle.net_defs.specs.Network.{Network, IsFabric, has_vertex, same_vertex}
use Rattle.journal_defs.specs.Edges.{is_among, within}
use Rattle.journal_defs.specs.Part.{part, edges_of, vertices}
use Rattle.journal_defs.proofs.Reach.{steps-within, within-steps}
use Rattle.journal_defs.proofs.Simple.{Holds, short-steps}
use Rattle.journal_defs.proofs.Distance.{vertex_decides, vertex-listed, part_is_reached}
use Rattle.circ_defs.specs.Cores.{IsCore, IsCoreCable, IsCutOff}
use Rattle.circ_defs.specs.Ways.{IsOneOf, IsWay, Joins, Step, cables_on}
use Rattle.circ_defs.specs.Ways.Joins.{forth, back}
use Rattle.circ_defs.proofs.Cables.{SameCable, joins-back, joins-low, same-cable}
use Rattle.circ_defs.proofs.Cables.SameCable.{one_way, other_way}
use Rattle.circ_ears.proofs.Onward.{Beside, drop_cable, edge-step, home-or-not, joins-vertex, steps-way, way-steps}

-- a vertex is cut off by a cable in this direction
record CutBy (n : Network) (k : ℕ) (d e : End) (x : Vertex) : Type 0 where
  pub s : ℕ
  pub t : ℕ
  pub from_switch : d.v ≡ Switch s
  pub to_switch : e.v ≡ Switch t
  pub reach : Beside n k e.v x
  pub hostless : (h : ℕ) (ss : List Step) → IsWay n e.v ss (Host h) → IsOneOf k (cables_on ss)

beside-or-not : (n : Network) (k : ℕ) (y x : Vertex) → IsFabric n → has_vertex n y ≡ true → Beside n k y x ⊎ (¬ Beside n k y x)
beside-or-not n k y x f there = by (is_among same_vertex (within same_vertex (edges_of (drop_cable n.cables k)) y (length (vertices n))) x) refl
  where
    held_place : Holds same_vertex (edges_of (drop_cable n.cables k)) (vertices n) y
    held_place = record { first = vertex-listed n y there; others = λ v w e. (let s = edge-step n k v w e in vertex-listed n w (subst (λ z. has_vertex n z ≡ true) s.1.2 (joins-vertex n s.0.cable s.0.into s.0.out f (joins-back n s.0.cable s.0.out s.0.into s.1.0)))) }

    by : (b : Bool) → is_among same_vertex (within same_vertex (edges_of (drop_cable n.cables k)) y (length (vertices n))) x ≡ b → Beside n k y x ⊎ (¬ Beside n k y x)
    by true e = let p = within-steps same_vertex vertex_decides (edges_of (drop_cable n.cables k)) y x (length (vertices n)) e in inl (steps-way n k y x p.count p.path)
    by false e = inr (λ w. (let p = way-steps n k y x w.steps w.way w.beside in
        let short = short-steps same_vertex vertex_decides (edges_of (drop_cable n.cables k)) (vertices n) y x p.0 held_place p.1 in
        let near = steps-within same_vertex vertex_decides (edges_of (drop_cable n.cables k)) y x short.count (length (vertices n)) short.path (let l = short.few in omega arith) in
        true≢false (sym near ∙ e)))

cut-by : (n : Network) (k : ℕ) (d e : End) (x : Vertex) → IsFabric n → Joins n k d e → CutBy n k d e x ⊎ (¬ CutBy n k d e x)
cut-by n k d e x f joins = by d.v e.v refl refl
  where
    by : (v w : Vertex) → d.v ≡ v → e.v ≡ w → CutBy n k d e x ⊎ (¬ CutBy n k d e x)
    by (Host h) w p q = inr (λ c. (let two : Host h ≡ Switch c.s = sym p ∙ c.from_switch in cc))
    by (Switch a) (Host h) p q = inr (λ c. (let two : Host h ≡ Switch c.t = sym q ∙ c.to_switch in cc))
    by (Switch a) (Switch b) p q = side (home-or-not n k e.v f (joins-vertex n k e d f (joins-back n k d e joins))) (beside-or-not n k e.v x f (joins-vertex n k e d f (joins-back n k d e joins)))
      where
        side : ((h : ℕ) × Beside n k e.v (Host h)) ⊎ ((h : ℕ) (ss : List Step) → IsWay n e.v ss (Host h) → IsOneOf k (cables_on ss)) → Beside n k e.v x ⊎ (¬ Beside n k e.v x) → CutBy n k d e x ⊎ (¬ CutBy n k d e x)
        side (inl w) r = inr (λ c. w.1.beside (c.hostless w.0 w.1.steps w.1.way))
        side (inr g) (inl r) = inl (record { s = a; t = b; from_switch = p; to_switch = q; reach = r; hostless = g })
        side (inr g) (inr r) = inr (λ c. r c.reach)

cut-of : (n : Network) (k : ℕ) (d e : End) (x : Vertex) → Joins n k d e → CutBy n k d e x → IsCutOff n x
cut-of n k d e x joins c = record { bridge = k; from = d; to = e; joins = joins; s = c.s; t = c.t; from_switch = c.from_switch; to_switch = c.to_switch; steps = c.reach.steps; way = c.reach.way; beside = c.reach.beside; hostless = c.hostless }

abbrev NoneCuts : Network → Vertex → ℕ → Type 0
NoneCuts n x m = (k : ℕ) (d e : End) → k < m → Joins n k d e → CutBy n k d e x → ⊥

search-cut : (n : Network) (x : Vertex) (m : ℕ) → IsFabric n → IsCutOff n x ⊎ NoneCuts n x m
search-cut n x zero f = inr (λ k d e l j c. absurd (omega arith))
search-cut n x (suc m) f = by (search-cut n x m f) (slice_get n.cables m) refl
  where
    last : NoneCuts n x m → ((d e : End) → Joins n m d e → CutBy n m d e x → ⊥) → NoneCuts n x (suc m)
    last p q k d e l j c = at (cases_order k m)
      where
        at : (k ≡ m) ⊎ ((k < m) ⊎ (m < k)) → ⊥
        at (inl g) = q d e (subst (λ i. Joins n i d e) g j) (subst (λ i. CutBy n i d e x) g c)
        at (inr (inl g)) = p k d e g j c
        at (inr (inr g)) = absurd (omega arith)

    gone : slice_get n.cables m ≡ None → (d e : End) → Joins n m d e → CutBy n m d e x → ⊥
    gone p d e (forth q) c = let two : ◌≡◌ {A = Option Cable} None (Some _) = sym p ∙ q in cc
    gone p d e (back q) c = let two : ◌≡◌ {A = Option Cable} None (Some _) = sym p ∙ q in cc

    neither : (g : Cable) → slice_get n.cables m ≡ Some g → ¬ CutBy n m g.a g.b x → ¬ CutBy n m g.b g.a x → (d e : End) → Joins n m d e → CutBy n m d e x → ⊥
    neither g p u v d e (forth {c = h} q) c = let one : h ≡ g = cc in u (subst (λ (z : Cable). CutBy n m z.a z.b x) one c)
    neither g p u v d e (back {c = h} q) c = let one : h ≡ g = cc in v (subst (λ (z : Cable). CutBy n m z.b z.a x) one c)

    two : NoneCuts n x m → (g : Cable) → slice_get n.cables m ≡ Some g → CutBy n m g.a g.b x ⊎ (¬ CutBy n m g.a g.b x) → CutBy n m g.b g.a x ⊎ (¬ CutBy n m g.b g.a x) → IsCutOff n x ⊎ NoneCuts n x (suc m)
    two p g e (inl c) v = inl (cut-of n m g.a g.b x (forth e) c)
    two p g e (inr u) (inl c) = inl (cut-of n m g.b g.a x (back e) c)
    two p g e (inr u) (inr v) = inr (last p (neither g e u v))

    by : IsCutOff n x ⊎ NoneCuts n x m → (o : Option Cable) → slice_get n.cables m ≡ o → IsCutOff n x ⊎ NoneCuts n x (suc m)
    by (inl c) o e = inl c
    by (inr p) None e = inr (last p (gone e))
    by (inr p) (Some g) e = two p g e (cut-by n m g.a g.b x f (forth e)) (cut-by n m g.b g.a x f (back e))

pub cut-or-not : (n : Network) (x : Vertex) → IsFabric n → IsCutOff n x ⊎ (¬ IsCutOff n x)
cut-or-not n x f = by (search-cut n x (length n.cables) f)
  where
    by : IsCutOff n x ⊎ NoneCuts n x (length n.cables) → IsCutOff n x ⊎ (¬ IsCutOff n x)
    by (inl c) = inl c
    by (inr p) = inr (λ c. p c.bridge c.from c.to (joins-low n c.bridge c.from c.to c.joins) c.joins (record { s = c.s; t = c.t; from_switch = c.from_switch; to_switch = c.to_switch; reach = record { steps = c.steps; way = c.way; beside = c.beside }; hostless = c.hostless }))

core-or-not : (n : Network) (host : ℕ) (x : Vertex) → IsFabric n → has_vertex n (Host host) ≡ true → IsCore n host x ⊎ (¬ IsCore n host x)
core-or-not n host x f h = by (is_among same_vertex (part n host) x) refl (cut-or-not n x f)
  where
    by : (b : Bool) → is_among same_vertex (part n host) x ≡ b → IsCutOff n x ⊎ (¬ IsCutOff n x) → IsCore n host x ⊎ (¬ IsCore n host x)
    by true e (inl c) = inr (λ i. i.kept c)
    by true e (inr c) = inl (record { in_part = (part_is_reached n host x f h).0 e; kept = c })
    by false e c = inr (λ i. true≢false (sym ((part_is_reached n host x f h).1 i.in_part) ∙ e))

pub core_cable-or-not : (n : Network) (host k : ℕ) → IsFabric n → has_vertex n (Host host) ≡ true → IsCoreCable n host k ⊎ (¬ IsCoreCable n host k)
core_cable-or-not n host k f h = by (slice_get n.cables k) refl
  where
    gone : slice_get n.cables k ≡ None → (d e : End) → Joins n k d e → ⊥
    gone p d e (forth q) = let two : ◌≡◌ {A = Option Cable} None (Some _) = sym p ∙ q in cc
    gone p d e (back q) = let two : ◌≡◌ {A = Option Cable} None (Some _) = sym p ∙ q in cc

    ends : (g : Cable) → slice_get n.cables k ≡ Some g → IsCoreCable n host k → IsCore n host g.a.v × IsCore n host g.b.v
    ends g e c = at (same-cable n k g.a g.b c.from c.to (forth e) c.joins)
      where
        at : SameCable g.a g.b c.from c.to → IsCore n host g.a.v × IsCore n host g.b.v
        at (one_way p q) = (subst (λ (z : End). IsCore n host z.v) (sym p) c.first, subst (λ (z : End). IsCore n host z.v) (sym q) c.second)
        at (other_way p q) = (subst (λ (z : End). IsCore n host z.v) (sym p) c.second, subst (λ (z : End). IsCore n host z.v) (sym q) c.first)

    two : (g : Cable) → slice_get n.cables k ≡ Some g → IsCore n host g.a.v ⊎ (¬ IsCore n host g.a.v) → IsCore n host g.b.v ⊎ (¬ IsCore n host g.b.v) → IsCoreCable n host k ⊎ (¬ IsCoreCable n host k)
    two g e (inl a) (inl b) = inl (record { from = g.a; to = g.b; joins = forth e; first = a; second = b })
    two g e (inr a) b = inr (λ c. a (ends g e c).0)
    two g e (inl a) (inr b) = inr (λ c. b (ends g e c).1)

    by : (o : Option Cable) → slice_get n.cables k ≡ o → IsCoreCable n host k ⊎ (¬ IsCoreCable n host k)
    by None e = inr (λ c. gone e c.from c.to c.joins)
    by (Some g) e = two g e (core-or-not n host g.a.v f h) (core-or-not n host g.b.v f h)
