-- The cables of a map and the cables of the fabric over which they stand.
use Rattle.std.proofs.Common.{◌≡◌, ◌≢◌, ◌≤◌, ℕ, zero, suc, List, [], ◌∷◌, true, Option, Some, None, sym, ◌∙◌, subst, ap, refl, arith, ◌⊎◌, inl, inr}
use Rattle.std.specs.Prelude.{ℤ, pos, ◌+ℤ◌, slice_get}
use Rattle.std.specs.List.{AllByRecursion}
use Rattle.std.proofs.lemmas.Int.{ints}
use Rattle.net_defs.specs.declared.vertex.Vertex.TheVariants.{Host, Switch}
use Rattle.net_defs.specs.declared.vertex.End.{End}
use Rattle.net_defs.specs.Network.{Network, IsFabric, Apart}
use Rattle.net_defs.specs.Route.{host_port}
use Rattle.journal_defs.specs.declared.entry.Entry.{Entry}
use Rattle.journal_defs.specs.Tree.{Node}
use Rattle.journal_defs.specs.Truth.{IsTrueWhereFound, standing}
use Rattle.journal_defs.proofs.Standing.{stand, same_end-of, leads-crosses, host-stands}
use Rattle.map_defs.specs.declared.vertex.MapCable.{MapCable}
use Rattle.map_defs.specs.NetMap.{NetMap, MapPort, IsMap, IsCabled, first_end, second_end, map_ends, host_of_vertex, is_switch_vertex}
use Rattle.map_defs.specs.NetMap.IsCabled.{forth, back}
use Rattle.map_defs.specs.Quotient.{IsQuotient, IsOfVertex}
use Rattle.map_laws.proofs.Least.{class-one, vertex-below, vertex-host}
use Rattle.map_laws.proofs.Ruled.{quotient_is_map}
use Rattle.map_laws.proofs.Meeting.{other-switch}
use Rattle.circ_laws.proofs.Lifts.{Crossed, node-host}
use Rattle.circ_laws.proofs.Telling.{circuit-true}
use Rattle.circ_laws.proofs.OneClass.{core_vertex_has_one_class}
use Rattle.circ_defs.specs.Cores.{ArePathsOfCore, IsCore}
use Rattle.circ_defs.specs.PathList.{Ear, most_back}
use Rattle.circ_defs.specs.Circuit.{IsWholeTree}
use Rattle.circ_defs.specs.Ways.{Joins}
use Rattle.circ_defs.proofs.Cables.{far-joins}

-- the map of a whole tree that is as deep as a path list asks
pub record Setting (n : Network) (host depth : ℕ) (j : List Entry) (es : List Ear) (m : NetMap) : Type 0 where
  pub fabric : IsFabric n
  pub tree : IsWholeTree n host depth j
  pub paths : ArePathsOfCore n host es
  pub deep : most_back es ≤ depth
  pub quotient : IsQuotient host j m

-- two cables of a map with a common end are one, by their numbers
end-of : (P : MapPort → Type 0) (cs : List MapCable) (k : ℕ) (c : MapCable) → AllByRecursion P (map_ends cs) → slice_get cs k ≡ Some c → P (first_end c) × P (second_end c)
end-of P [] k c all e = cc
end-of P (x ∷ cs) zero c all e = let one : x ≡ c = cc in (subst (λ (y : MapCable). P (first_end y)) one all.0, subst (λ (y : MapCable). P (second_end y)) one all.1.0)
end-of P (x ∷ cs) (suc k) c all e = end-of P cs k c all.1.1 e

-- an end of a cable
abbrev pub IsEndOf : MapPort → MapCable → Type 0
IsEndOf d c = (first_end c ≡ d) ⊎ (second_end c ≡ d)

fresh-end : (cs : List MapCable) (x c : MapCable) (k : ℕ) (d : MapPort) → Apart (map_ends (x ∷ cs)) → slice_get cs k ≡ Some c → IsEndOf d x → IsEndOf d c → ⊥
fresh-end cs x c k d a e (inl p) (inl q) = (end-of (λ y. first_end x ≢ y) cs k c a.0.1 e).0 (p ∙ sym q)
fresh-end cs x c k d a e (inl p) (inr q) = (end-of (λ y. first_end x ≢ y) cs k c a.0.1 e).1 (p ∙ sym q)
fresh-end cs x c k d a e (inr p) (inl q) = (end-of (λ y. second_end x ≢ y) cs k c a.1.0 e).0 (p ∙ sym q)
fresh-end cs x c k d a e (inr p) (inr q) = (end-of (λ y. second_end x ≢ y) cs k c a.1.0 e).1 (p ∙ sym q)

pub one-number : (cs : List MapCable) (k l : ℕ) (b c : MapCable) (d : MapPort) → Apart (map_ends cs) → slice_get cs k ≡ Some b → slice_get cs l ≡ Some c → IsEndOf d b → IsEndOf d c → k ≡ l
one-number [] k l b c d a e g p q = cc
one-number (x ∷ cs) zero zero b c d a e g p q = refl
one-number (x ∷ cs) zero (suc l) b c d a e g p q = let one : x ≡ b = cc in absurd (fresh-end cs x c l d a g (subst (IsEndOf d) (sym one) p) q)
one-number (x ∷ cs) (suc k) zero b c d a e g p q = let one : x ≡ c = cc in absurd (fresh-end cs x b k d a e (subst (IsEndOf d) (sym one) q) p)
one-number (x ∷ cs) (suc k) (suc l) b c d a e g p q = ap suc (one-number cs k l b c d a.1.1 e g p q)

-- a cable of the map by its number
pub record CabledBy (m : NetMap) (k : ℕ) (d e : MapPort) : Type 0 where
  pub c : MapCable
  pub there : slice_get m.cables k ≡ Some c
  pub ends : ((first_end c ≡ d) × (second_end c ≡ e)) ⊎ ((second_end c ≡ d) × (first_end c ≡ e))

pub cabled-number : (m : NetMap) (d e : MapPort) → IsCabled m d e → (k : ℕ) × CabledBy m k d e
cabled-number m d e (forth k {c = c} p) = (k, record { c = c; there = p; ends = inl (refl, refl) })
cabled-number m d e (back k {c = c} p) = (k, record { c = c; there = p; ends = inr (refl, refl) })

pub number-cabled : (m : NetMap) (k : ℕ) (d e : MapPort) → CabledBy m k d e → IsCabled m d e
number-cabled m k d e c = by c.ends
  where
    by : ((first_end c.c ≡ d) × (second_end c.c ≡ e)) ⊎ ((second_end c.c ≡ d) × (first_end c.c ≡ e)) → IsCabled m d e
    by (inl p) = subst (λ x. IsCabled m x e) p.0 (subst (IsCabled m (first_end c.c)) p.1 (forth k c.there))
    by (inr p) = subst (λ x. IsCabled m x e) p.0 (subst (IsCabled m (second_end c.c)) p.1 (back k c.there))

pub first-of : (m : NetMap) (k : ℕ) (d e : MapPort) → (c : CabledBy m k d e) → IsEndOf d c.c
first-of m k d e c = by c.ends
  where
    by : ((first_end c.c ≡ d) × (second_end c.c ≡ e)) ⊎ ((second_end c.c ≡ d) × (first_end c.c ≡ e)) → IsEndOf d c.c
    by (inl p) = inl p.0
    by (inr p) = inr p.0

pub second-of : (m : NetMap) (k : ℕ) (d e : MapPort) → (c : CabledBy m k d e) → IsEndOf e c.c
second-of m k d e c = by c.ends
  where
    by : ((first_end c.c ≡ d) × (second_end c.c ≡ e)) ⊎ ((second_end c.c ≡ d) × (first_end c.c ≡ e)) → IsEndOf e c.c
    by (inl p) = inr p.1
    by (inr p) = inl p.1

sum-from : (x a b : ℕ) (t k : ℤ) → pos x ≡ pos a +ℤ t → pos a ≡ pos b +ℤ k → pos x ≡ pos b +ℤ (t +ℤ k)
sum-from x a b t k e f = omega (arith, ints)

one-sum : (x y a : ℕ) (t : ℤ) → pos x ≡ pos a +ℤ t → pos y ≡ pos a +ℤ t → x ≡ y
one-sum x y a t e f = omega (arith, ints)

one-turn : (x a : ℕ) (t s : ℤ) → pos x ≡ pos a +ℤ t → pos x ≡ pos a +ℤ s → t ≡ s
one-turn x a t s e f = omega (arith, ints)

module _ (n : Network) (host depth : ℕ) (j : List Entry) (es : List Ear) (m : NetMap) (s : Setting n host depth j es m) where
  pub found : IsTrueWhereFound n host j
  found = circuit-true n host j s.tree.circuit

  pub rules : IsMap m
  rules = quotient_is_map n host j m s.fabric found s.quotient

  -- where the least node of a number stands
  pub record OverEnd (v : ℕ) (a : End) : Type 0 where
    pub node : Node
    pub there : slice_get s.quotient.least v ≡ Some node
    pub stands : standing n host node ≡ Some a

  pub one-over : (v : ℕ) (a b : End) → OverEnd v a → OverEnd v b → a ≡ b
  one-over v a b x y =
      let two : Some x.node ≡ Some y.node = sym x.there ∙ y.there in
      let one : x.node ≡ y.node = cc in
      same_end-of n host y.node a b (subst (λ u. standing n host u ≡ Some a) one x.stands) y.stands

  -- the end of the fabric for which a port of the map stands
  pub record FabricEnd (d : MapPort) (x : End) : Type 0 where
    pub at : End
    pub over : OverEnd d.v at
    pub vertex : x.v ≡ at.v
    pub port : pos x.p ≡ pos at.p +ℤ d.p

  pub one-end : (d : MapPort) (x y : End) → FabricEnd d x → FabricEnd d y → x ≡ y
  one-end d x y a b =
      let same : a.at ≡ b.at = one-over d.v a.at b.at a.over b.over in
      let port : x.p ≡ y.p = one-sum x.p y.p b.at.p d.p (a.port ∙ ap (λ (e : End). pos e.p +ℤ d.p) same) b.port in
      let vertex : x.v ≡ y.v = a.vertex ∙ ap (λ (e : End). e.v) same ∙ sym b.vertex in
      λ i. record { v = vertex i; p = port i }

  -- two ports of one vertex of the map that stand for one end are one
  pub one-port : (d e : MapPort) (x : End) → d.v ≡ e.v → FabricEnd d x → FabricEnd e x → d ≡ e
  one-port d e x v a b =
      let same : a.at ≡ b.at = one-over e.v a.at b.at (subst (λ w. OverEnd w a.at) v a.over) b.over in
      let port : d.p ≡ e.p = one-turn x.p b.at.p d.p e.p (a.port ∙ ap (λ (y : End). pos y.p +ℤ d.p) same) b.port in
      λ i. record { v = v i; p = port i }

  -- what the journal leads over is a cable of the map
  pub record CableOver (d e : End) (v w : ℕ) : Type 0 where
    pub number : ℕ
    pub from : MapPort
    pub to : MapPort
    pub cabled : CabledBy m number from to
    pub from_is : from.v ≡ v
    pub to_is : to.v ≡ w
    pub from_end : FabricEnd from d
    pub to_end : FabricEnd to e

  pub link-cable : (u x : Node) (d e : End) (v w : ℕ) (k l : ℤ) → Crossed n host j u d x e → IsOfVertex host j s.quotient.least u v k → IsOfVertex host j s.quotient.least x w l → CableOver d e v w
  link-cable u x d e v w k l c a b =
      let from : MapPort = record { v = v; p = c.turn +ℤ k } in
      let to : MapPort = record { v = w; p = c.port +ℤ l } in
      let cable : IsCabled m from to = (s.quotient.cabled from to).1 (record { from = u; to = x; p = c.turn; i = c.port; offset_from = k; offset_to = l; leads = c.leads; is_from = a; is_to = b; leaves = refl; enters = refl }) in
      let by = cabled-number m from to cable in
      let p = stand n host j u a.least_node k s.fabric found a.one_class in
      let q = stand n host j x b.least_node l s.fabric found b.one_class in
      let own_p : p.at_u ≡ c.at_from = same_end-of n host u p.at_u c.at_from p.is_at_u c.from_stands in
      let own_q : q.at_u ≡ c.at_to = same_end-of n host x q.at_u c.at_to q.is_at_u c.to_stands in
      record {
        number = by.0;
        from = from;
        to = to;
        cabled = by.1;
        from_is = refl;
        to_is = refl;
        from_end = record { at = p.at_v; over = record { node = a.least_node; there = a.there; stands = p.is_at_v }; vertex = sym c.from_there ∙ ap (λ (y : End). y.v) (sym own_p) ∙ p.one_vertex; port = sum-from d.p c.at_from.p p.at_v.p c.turn k c.leaves (ap (λ (y : End). pos y.p) (sym own_p) ∙ p.apart) };
        to_end = record { at = q.at_v; over = record { node = b.least_node; there = b.there; stands = q.is_at_v }; vertex = sym c.to_there ∙ ap (λ (y : End). y.v) (sym own_q) ∙ q.one_vertex; port = sum-from e.p c.at_to.p q.at_v.p c.port l c.enters (ap (λ (y : End). pos y.p) (sym own_q) ∙ q.apart) };
      }

  -- and each cable of the map stands over one of the fabric
  pub record FabricCable (d e : MapPort) : Type 0 where
    pub from : End
    pub to : End
    pub cable : ℕ
    pub joins : Joins n cable from to
    pub from_end : FabricEnd d from
    pub to_end : FabricEnd e to

  pub cable-link : (d e : MapPort) → IsCabled m d e → FabricCable d e
  cable-link d e c =
      let led = (s.quotient.cabled d e).0 c in
      let p = stand n host j led.from led.is_from.least_node led.offset_from s.fabric found led.is_from.one_class in
      let q = stand n host j led.to led.is_to.least_node led.offset_to s.fabric found led.is_to.one_class in
      let over = leads-crosses n host j led.from led.to led.p led.i p.at_u q.at_u s.fabric led.leads p.is_at_u q.is_at_u in
      let k = far-joins n (record { v = p.at_u.v; p = over.leaves }) (record { v = q.at_u.v; p = over.enters }) over.cable in
      record {
        from = record { v = p.at_u.v; p = over.leaves };
        to = record { v = q.at_u.v; p = over.enters };
        cable = k.cable;
        joins = k.joins;
        from_end = record { at = p.at_v; over = record { node = led.is_from.least_node; there = led.is_from.there; stands = p.is_at_v }; vertex = p.one_vertex; port = sum-from over.leaves p.at_u.p p.at_v.p led.p led.offset_from over.leaves_by p.apart ∙ ap (λ z. pos p.at_v.p +ℤ z) (sym led.leaves) };
        to_end = record { at = q.at_v; over = record { node = led.is_to.least_node; there = led.is_to.there; stands = q.is_at_v }; vertex = q.one_vertex; port = sum-from over.enters q.at_u.p q.at_v.p led.i led.offset_to over.enters_by q.apart ∙ ap (λ z. pos q.at_v.p +ℤ z) (sym led.enters) };
      }

  -- two numbers over one vertex of the core are one
  pub core-number : (v w : ℕ) (a b : End) → OverEnd v a → OverEnd w b → a.v ≡ b.v → IsCore n host a.v → v ≡ w
  core-number v w a b x y e core =
      let r = core_vertex_has_one_class n host depth j es x.node y.node a b s.fabric s.tree s.paths s.deep (s.quotient.each_least v x.node x.there).node (s.quotient.each_least w y.node y.there).node x.stands y.stands e core in
      class-one host j m s.quotient v w x.node y.node r.0 x.there y.there r.1

  -- a number over a host is that host, and one over a switch a switch
  pub over-host : (v h : ℕ) (a : End) → OverEnd v a → a.v ≡ Host h → host_of_vertex m v ≡ Some h
  over-host v h a x e = vertex-host host j m s.quotient v x.node x.there ∙ node-host n host j x.node a h found (s.quotient.each_least v x.node x.there).node x.stands e

  pub host-over : (v h : ℕ) (a : End) → OverEnd v a → host_of_vertex m v ≡ Some h → a ≡ host_port h
  host-over v h a x e = same_end-of n host x.node a (host_port h) x.stands (host-stands n host j x.node h s.fabric found (sym (vertex-host host j m s.quotient v x.node x.there) ∙ e))

  pub over-switch : (v k : ℕ) (a : End) → OverEnd v a → a.v ≡ Switch k → is_switch_vertex m v ≡ true
  over-switch v k a x e = other-switch m.vertices v (vertex-below host j m s.quotient v x.node x.there) (by (host_of_vertex m v) refl)
    where
      by : (o : Option ℕ) → host_of_vertex m v ≡ o → host_of_vertex m v ≡ None
      by None p = p
      by (Some h) p = let own = host-over v h a x p in let two : Switch k ≡ Host h = sym e ∙ ap (λ (y : End). y.v) own in cc
