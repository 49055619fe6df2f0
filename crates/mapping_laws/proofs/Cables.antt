-- The cables of a journal's map, in their order: one for each two ports that a node leads by to another; so there is a map.
use Rattle.std.proofs.Common.{◌≡◌, ◌<◌, ℕ, Bool, true, false, List, [], ◌∷◌, ◌++◌, map, ◌⊎◌, inl, inr, Some, refl, sym, ◌∙◌, ap, subst, true≢false, arith}
use Rattle.std.specs.Prelude.{ℤ, pos, ◌+ℤ◌, ◌-ℤ◌, neg_ℤ, int_lt, slice_get, if◌then◌else◌}
use Rattle.std.specs.List.{AllByRecursion}
use Rattle.std.proofs.lemmas.Bool.{cases_order}
use Rattle.std.proofs.lemmas.Bool.Decides.{nat_tests}
use Rattle.std.proofs.lemmas.Int.{ints}
use Rattle.net_defs.specs.declared.vertex.End.{End}
use Rattle.net_defs.specs.declared.vertex.Cable.{Cable}
use Rattle.net_defs.specs.Network.{Network, IsFabric, Apart, far_end, ends_of, same_end}
use Rattle.net_defs.proofs.Ends.{same_end-true}
use Rattle.journal_defs.specs.declared.entry.Entry.{Entry}
use Rattle.journal_defs.specs.Tree.{Node, Leads, IsNode, is_node, host_of}
use Rattle.journal_defs.specs.Tree.Node.{Mapper, Reached}
use Rattle.journal_defs.specs.Truth.{IsTrueWhereFound, standing}
use Rattle.journal_defs.specs.Replicates.{Replicates}
use Rattle.journal_defs.specs.Replicates.Replicates.{turned as other_way, along, behind}
use Rattle.journal_defs.proofs.Members.{IsMember, member-left, member-right, member-map, member-place, all-member, all-from-members}
use Rattle.journal_defs.proofs.Standing.{stand, same_end-of, leads-crosses, leads-from, leads-to, offset_is_unique}
use Rattle.map_laws.proofs.Classes.{all_nodes}
use Rattle.map_laws.proofs.Few.{node-found}
use Rattle.map_laws.proofs.Full.{leads-back}
use Rattle.map_laws.proofs.Leading.{HasLead, HasNoLead, find-lead}
use Rattle.map_defs.specs.declared.vertex.MapCable.{MapCable}
use Rattle.map_defs.specs.declared.vertex.MapVertex.{MapVertex}
use Rattle.map_defs.specs.NetMap.{NetMap, MapPort, IsCabled, AreInOrder, first_end, second_end, port_below}
use Rattle.map_defs.specs.NetMap.IsCabled.{forth, back}
use Rattle.map_defs.specs.Quotient.{IsQuotient, HasVertex, IsOfVertex, IsLed, named}
use Rattle.map_defs.proofs.TwoHosts.{itself_not_below}
use Rattle.map_laws.proofs.Least.{least-one}
use Rattle.map_laws.proofs.OneMap.{place-member}
use Rattle.mapping_laws.specs.Maps.{HasLeastNodes, QuotientExists}
use Rattle.mapping_laws.proofs.Vertices.{least_nodes_exist}

-- a port of the fabric isn't cabled to itself
far-other : (cs : List Cable) (e : End) → Apart (ends_of cs) → far_end cs e ≡ Some e → ⊥
far-other [] e apart f = cc
far-other (c ∷ cs) e apart f = by (same_end c.a e) (same_end c.b e) refl refl f (far-other cs e apart.1.1)
  where
    by : (s t : Bool) → same_end c.a e ≡ s → same_end c.b e ≡ t → (if s then Some c.b else if t then Some c.a else far_end cs e) ≡ Some e → (far_end cs e ≡ Some e → ⊥) → ⊥
    by true t p q g rest = let there : c.b ≡ e = cc in apart.0.0 (same_end-true c.a e p ∙ sym there)
    by false true p q g rest = let there : c.a ≡ e = cc in apart.0.0 (there ∙ sym (same_end-true c.b e q))
    by false false p q g rest = rest g

-- ports in their order
port-split : (v w : ℕ) (p q : ℤ) → v ≡ w → (int_lt p q ≡ true) ⊎ ((int_lt q p ≡ true) ⊎ (p ≡ q))
port-split v w p q e = by (int_lt p q) (int_lt q p) refl refl
  where
    by : (a b : Bool) → int_lt p q ≡ a → int_lt q p ≡ b → (int_lt p q ≡ true) ⊎ ((int_lt q p ≡ true) ⊎ (p ≡ q))
    by true b f g = inl f
    by false true f g = inr (inl g)
    by false false f g = inr (inr (grind (arith, ints)))

one_map_port : (v w : ℕ) (p q : ℤ) → v ≡ w → p ≡ q → ◌≡◌ {A = MapPort} (record { v = v; p = p }) (record { v = w; p = q })
one_map_port v w p q a b = λ i. record { v = a i; p = b i }

port-total : (d e : MapPort) → (port_below d e ≡ true) ⊎ ((port_below e d ≡ true) ⊎ (d ≡ e))
port-total d e = by (cases_order d.v e.v)
  where
    level : d.v ≡ e.v → (int_lt d.p e.p ≡ true) ⊎ ((int_lt e.p d.p ≡ true) ⊎ (d.p ≡ e.p)) → (port_below d e ≡ true) ⊎ ((port_below e d ≡ true) ⊎ (d ≡ e))
    level s (inl l) = inl (grind (arith, nat_tests))
    level s (inr (inl l)) = inr (inl (grind (arith, nat_tests)))
    level s (inr (inr p)) = inr (inr (one_map_port d.v e.v d.p e.p s p))

    by : (d.v ≡ e.v) ⊎ ((d.v < e.v) ⊎ (e.v < d.v)) → (port_below d e ≡ true) ⊎ ((port_below e d ≡ true) ⊎ (d ≡ e))
    by (inl s) = level s (port-split d.v e.v d.p e.p s)
    by (inr (inl l)) = inl (grind (arith, nat_tests))
    by (inr (inr l)) = inr (inl (grind (arith, nat_tests)))

port-through : (d e f : MapPort) → port_below d e ≡ true → port_below e f ≡ true → port_below d f ≡ true
port-through d e f a b = grind (arith, nat_tests, ints)

-- sums of ports
real-sum : (a b : ℕ) (at : ℕ) (p o x : ℤ) → pos a ≡ pos b +ℤ p → pos b ≡ pos at +ℤ o → x ≡ p +ℤ o → pos a ≡ pos at +ℤ x
real-sum a b at p o x e f g = omega (arith, ints)

one-number : (a b at bt : ℕ) (x y : ℤ) → pos a ≡ pos at +ℤ x → pos b ≡ pos bt +ℤ y → at ≡ bt → x ≡ y → a ≡ b
one-number a b at bt x y e f g h = omega (arith, ints)

same-apart : (d p q o u : ℤ) → d ≡ p +ℤ o → d ≡ q +ℤ u → q ≡ p +ℤ (o +ℤ neg_ℤ u)
same-apart d p q o u e f = omega (arith, ints)

far-sum : (i l o u e f : ℤ) → e ≡ i +ℤ o → f ≡ l +ℤ u → l -ℤ i ≡ o +ℤ neg_ℤ u → e ≡ f
far-sum i l o u e f a b c = omega (arith, ints)

one_end : (d e : End) → d.v ≡ e.v → d.p ≡ e.p → d ≡ e
one_end d e a b = λ i. record { v = a i; p = b i }

module _ (n : Network) (host : ℕ) (j : List Entry) (fabric : IsFabric n) (found : IsTrueWhereFound n host j) (h : HasLeastNodes host j) where
  number-one : (v w : ℕ) (u : Node) → slice_get h.least v ≡ Some u → slice_get h.least w ≡ Some u → v ≡ w
  number-one v w u a b = by (cases_order v w)
    where
      by : (v ≡ w) ⊎ ((v < w) ⊎ (w < v)) → v ≡ w
      by (inl e) = e
      by (inr (inl l)) = absurd (true≢false (sym (h.in_order v w u u l a b) ∙ itself_not_below u))
      by (inr (inr l)) = absurd (true≢false (sym (h.in_order w v u u l b a) ∙ itself_not_below u))

  class-node : (v w : ℕ) (u x : Node) (k : ℤ) → slice_get h.least v ≡ Some u → slice_get h.least w ≡ Some x → Replicates host j u x k → u ≡ x
  class-node v w u x k a b r = least-one host j u x k (h.each_least v u a) (h.each_least w x b) r

  class-one : (v w : ℕ) (u x : Node) (k : ℤ) → slice_get h.least v ≡ Some u → slice_get h.least w ≡ Some x → Replicates host j u x k → v ≡ w
  class-one v w u x k a b r = number-one v w x (a ∙ ap Some (class-node v w u x k a b r)) b

  -- a node is of one vertex, by one offset
  vertex-same : (u : Node) (v w : ℕ) (k l : ℤ) → IsOfVertex host j h.least u v k → IsOfVertex host j h.least u w l → (v ≡ w) × (k ≡ l)
  vertex-same u v w k l a b =
      let over : Replicates host j a.least_node b.least_node (neg_ℤ k +ℤ l) = along (other_way a.one_class) b.one_class in
      let node : a.least_node ≡ b.least_node = class-node v w a.least_node b.least_node (neg_ℤ k +ℤ l) a.there b.there over in
      (class-one v w a.least_node b.least_node (neg_ℤ k +ℤ l) a.there b.there over, offset_is_unique n host j u b.least_node k l fabric found (subst (λ x. Replicates host j u x k) node a.one_class) b.one_class)

  abbrev Led : MapPort → MapPort → Type 0
  Led d e = IsLed host j h.least d e

  led-back : (d e : MapPort) → Led d e → Led e d
  led-back d e l = record {
    from = l.to;
    to = l.from;
    p = l.i;
    i = l.p;
    offset_from = l.offset_to;
    offset_to = l.offset_from;
    leads = leads-back j l.from l.to l.p l.i l.leads;
    is_from = l.is_to;
    is_to = l.is_from;
    leaves = l.enters;
    enters = l.leaves;
  }

  -- a port has one far end
  led-far : (d e f : MapPort) → Led d e → Led d f → e ≡ f
  led-far d e f k l =
      let one : k.is_from.least_node ≡ l.is_from.least_node = (let two : Some k.is_from.least_node ≡ Some l.is_from.least_node = sym k.is_from.there ∙ l.is_from.there in cc) in
      let other : Replicates host j k.is_from.least_node l.from (neg_ℤ l.offset_from) = subst (λ u. Replicates host j u l.from (neg_ℤ l.offset_from)) (sym one) (other_way l.is_from.one_class) in
      let from : Replicates host j k.from l.from (k.offset_from +ℤ neg_ℤ l.offset_from) = along k.is_from.one_class other in
      let port : l.p ≡ k.p +ℤ (k.offset_from +ℤ neg_ℤ l.offset_from) = same-apart d.p k.p l.p k.offset_from l.offset_from k.leaves l.leaves in
      let to : Replicates host j k.to l.to (l.i -ℤ k.i) = behind from k.leads (subst (λ p. Leads j l.from p l.to l.i) port l.leads) in
      let vertex : e.v ≡ f.v = class-one e.v f.v k.is_to.least_node l.is_to.least_node ((neg_ℤ k.offset_to +ℤ (l.i -ℤ k.i)) +ℤ l.offset_to) k.is_to.there l.is_to.there (along (along (other_way k.is_to.one_class) to) l.is_to.one_class) in
      let least : k.is_to.least_node ≡ l.is_to.least_node = (let two : Some k.is_to.least_node ≡ Some l.is_to.least_node = sym k.is_to.there ∙ ap (slice_get h.least) vertex ∙ l.is_to.there in cc) in
      let back_to : Replicates host j k.is_to.least_node l.to (neg_ℤ l.offset_to) = subst (λ u. Replicates host j u l.to (neg_ℤ l.offset_to)) (sym least) (other_way l.is_to.one_class) in
      let offset : l.i -ℤ k.i ≡ k.offset_to +ℤ neg_ℤ l.offset_to = offset_is_unique n host j k.to l.to (l.i -ℤ k.i) (k.offset_to +ℤ neg_ℤ l.offset_to) fabric found to (along k.is_to.one_class back_to) in
      one_map_port e.v f.v e.p f.p vertex (far-sum k.i l.i k.offset_to l.offset_to e.p f.p k.enters l.enters offset)

  -- and isn't its own
  led-other : (d e : MapPort) → Led d e → d ≡ e → ⊥
  led-other d e l same =
      let from = stand n host j l.from l.is_from.least_node l.offset_from fabric found l.is_from.one_class in
      let to = stand n host j l.to l.is_to.least_node l.offset_to fabric found l.is_to.one_class in
      let over = leads-crosses n host j l.from l.to l.p l.i from.at_u to.at_u fabric l.leads from.is_at_u to.is_at_u in
      let node : l.is_from.least_node ≡ l.is_to.least_node = (let two : Some l.is_from.least_node ≡ Some l.is_to.least_node = sym l.is_from.there ∙ ap (λ (x : MapPort). slice_get h.least x.v) same ∙ l.is_to.there in cc) in
      let at : from.at_v ≡ to.at_v = same_end-of n host l.is_from.least_node from.at_v to.at_v from.is_at_v (ap (standing n host) node ∙ to.is_at_v) in
      let leaves : pos over.leaves ≡ pos from.at_v.p +ℤ d.p = real-sum over.leaves from.at_u.p from.at_v.p l.p l.offset_from d.p over.leaves_by from.apart l.leaves in
      let enters : pos over.enters ≡ pos to.at_v.p +ℤ e.p = real-sum over.enters to.at_u.p to.at_v.p l.i l.offset_to e.p over.enters_by to.apart l.enters in
      let number : over.leaves ≡ over.enters = one-number over.leaves over.enters from.at_v.p to.at_v.p d.p e.p leaves enters (ap (λ (x : End). x.p) at) (ap (λ (x : MapPort). x.p) same) in
      let vertex : from.at_u.v ≡ to.at_u.v = from.one_vertex ∙ ap (λ (x : End). x.v) at ∙ sym to.one_vertex in
      let own : End = record { v = from.at_u.v; p = over.leaves } in
      let one : own ≡ record { v = to.at_u.v; p = over.enters } = one_end own (record { v = to.at_u.v; p = over.enters }) vertex number in
      far-other n.cables own fabric.ports_once (over.cable ∙ ap Some (sym one))

  -- a cable between two ports that are led, the first below the second
  abbrev IsEdge : MapCable → Type 0
  IsEdge c = Led (first_end c) (second_end c) × (port_below (first_end c) (second_end c) ≡ true)

  -- two ports are the ends of a cable in a list
  record HasCable (cs : List MapCable) (d e : MapPort) : Type 0 where
    pub cable : MapCable
    pub member : IsMember cable cs
    pub ends : ((first_end cable ≡ d) × (second_end cable ≡ e)) ⊎ ((first_end cable ≡ e) × (second_end cable ≡ d))

  record AreEdges (cs : List MapCable) : Type 0 where
    pub in_order : AreInOrder cs
    pub each : (c : MapCable) → IsMember c cs → IsEdge c

  -- a cable more in an ordered list
  record Added (c : MapCable) (cs : List MapCable) : Type 0 where
    pub list : List MapCable
    pub edges : AreEdges list
    pub here : IsMember c list
    pub kept : (x : MapCable) → IsMember x cs → IsMember x list
    pub only : (x : MapCable) → IsMember x list → (x ≡ c) ⊎ IsMember x cs

  all-behind : (d e : MapPort) (cs : List MapCable) → port_below d e ≡ true → AllByRecursion (λ x. port_below e (first_end x) ≡ true) cs → AllByRecursion (λ x. port_below d (first_end x) ≡ true) cs
  all-behind d e [] l all = tt
  all-behind d e (x ∷ cs) l all = (port-through d e (first_end x) l all.0, all-behind d e cs l all.1)

  one_cable : (c x : MapCable) → first_end c ≡ first_end x → second_end c ≡ second_end x → c ≡ x
  one_cable c x a b = λ i. record { v = (a i).v; p = (a i).p; w = (b i).v; q = (b i).p }

  tail-edges : (x : MapCable) (cs : List MapCable) → AreEdges (x ∷ cs) → AreEdges cs
  tail-edges x cs s = record { in_order = s.in_order.2; each = λ c m. s.each c (inr m) }

  add : (c : MapCable) (cs : List MapCable) → IsEdge c → AreEdges cs → Added c cs
  add c [] e s = record {
    list = c ∷ [];
    edges = record { in_order = (e.1, tt, tt); each = λ x m. alone x m };
    here = inl refl;
    kept = λ x m. absurd m;
    only = λ x m. m;
  }
    where
      alone : (x : MapCable) → (x ≡ c) ⊎ ⊥ → IsEdge x
      alone x (inl p) = subst IsEdge (sym p) e
      alone x (inr m) = absurd m
  add c (y ∷ cs) e s = by (port-total (first_end c) (first_end y)) (add c cs e (tail-edges y cs s))
    where
      by : (port_below (first_end c) (first_end y) ≡ true) ⊎ ((port_below (first_end y) (first_end c) ≡ true) ⊎ (first_end c ≡ first_end y)) → Added c cs → Added c (y ∷ cs)
      by (inl l) r = record {
        list = c ∷ y ∷ cs;
        edges = record { in_order = (e.1, (l, all-behind (first_end c) (first_end y) cs l s.in_order.1), s.in_order); each = λ x m. of x m };
        here = inl refl;
        kept = λ x m. inr m;
        only = λ x m. m;
      }
        where
          of : (x : MapCable) → (x ≡ c) ⊎ IsMember x (y ∷ cs) → IsEdge x
          of x (inl p) = subst IsEdge (sym p) e
          of x (inr m) = s.each x m
      by (inr (inl l)) r = record {
        list = y ∷ r.list;
        edges = record {
          in_order = (s.in_order.0, all-from-members (λ x. port_below (first_end y) (first_end x) ≡ true) r.list (λ x m. later x (r.only x m)), r.edges.in_order);
          each = λ x m. of x m;
        };
        here = inr r.here;
        kept = λ x m. keep x m;
        only = λ x m. either x m;
      }
        where
          later : (x : MapCable) → (x ≡ c) ⊎ IsMember x cs → port_below (first_end y) (first_end x) ≡ true
          later x (inl p) = subst (λ z. port_below (first_end y) (first_end z) ≡ true) (sym p) l
          later x (inr m) = all-member (λ z. port_below (first_end y) (first_end z) ≡ true) x cs s.in_order.1 m

          of : (x : MapCable) → (x ≡ y) ⊎ IsMember x r.list → IsEdge x
          of x (inl p) = s.each x (inl p)
          of x (inr m) = r.edges.each x m

          keep : (x : MapCable) → (x ≡ y) ⊎ IsMember x cs → IsMember x (y ∷ r.list)
          keep x (inl p) = inl p
          keep x (inr m) = inr (r.kept x m)

          either : (x : MapCable) → (x ≡ y) ⊎ IsMember x r.list → (x ≡ c) ⊎ IsMember x (y ∷ cs)
          either x (inl p) = inr (inl p)
          either x (inr m) = turn (r.only x m)
            where
              turn : (x ≡ c) ⊎ IsMember x cs → (x ≡ c) ⊎ IsMember x (y ∷ cs)
              turn (inl p) = inl p
              turn (inr k) = inr (inr k)
      by (inr (inr same)) r =
          let other : Led (first_end y) (second_end c) = subst (λ d. Led d (second_end c)) same e.0 in
          let far : second_end c ≡ second_end y = led-far (first_end y) (second_end c) (second_end y) other (s.each y (inl refl)).0 in
          record { list = y ∷ cs; edges = s; here = inl (one_cable c y same far); kept = λ x m. m; only = λ x m. inr m }

  -- the cable of two ports that are led
  between : (d e : MapPort) → Led d e → (port_below d e ≡ true) ⊎ ((port_below e d ≡ true) ⊎ (d ≡ e)) → (c : MapCable) × IsEdge c × (((first_end c ≡ d) × (second_end c ≡ e)) ⊎ ((first_end c ≡ e) × (second_end c ≡ d)))
  between d e l (inl b) = (record { v = d.v; p = d.p; w = e.v; q = e.p }, (l, b), inl (refl, refl))
  between d e l (inr (inl b)) = (record { v = e.v; p = e.p; w = d.v; q = d.p }, (led-back d e l, b), inr (refl, refl))
  between d e l (inr (inr same)) = absurd (led-other d e l same)

  -- the cables of the leads between each two of these nodes
  record Joined (ps : List (Node × Node)) : Type 0 where
    pub list : List MapCable
    pub edges : AreEdges list
    pub whole : (d e : MapPort) (l : Led d e) → IsMember (l.from, l.to) ps → HasCable list d e

  is_node-or-not : (u : Node) → IsNode j u ⊎ ¬ IsNode j u
  is_node-or-not u = by (is_node j u) refl
    where
      by : (b : Bool) → is_node j u ≡ b → IsNode j u ⊎ ¬ IsNode j u
      by true e = inl e
      by false e = inr (λ f. true≢false (sym f ∙ e))

  lead-or-not : (u x : Node) → HasLead j u x ⊎ HasNoLead j u x
  lead-or-not u x = by (is_node-or-not u) (is_node-or-not x)
    where
      by : IsNode j u ⊎ ¬ IsNode j u → IsNode j x ⊎ ¬ IsNode j x → HasLead j u x ⊎ HasNoLead j u x
      by (inl a) (inl b) = find-lead j u x a b
      by (inl a) (inr d) = inr (λ p i l. d (leads-to j u x p i l))
      by (inr d) b = inr (λ p i l. d (leads-from j u x p i l))

  pair-first : (p q : Node × Node) → p ≡ q → (p.0 ≡ q.0) × (p.1 ≡ q.1)
  pair-first p q e = (ap (λ (x : Node × Node). x.0) e, ap (λ (x : Node × Node). x.1) e)

  -- the ports of a lead, as ports of vertices, are one pair
  one-led : (u x : Node) (a : HasLead j u x) (v w : ℕ) (k o : ℤ) → IsOfVertex host j h.least u v k → IsOfVertex host j h.least x w o → (d e : MapPort) (l : Led d e) → l.from ≡ u → l.to ≡ x
      → (d ≡ record { v = v; p = a.port +ℤ k }) × (e ≡ record { v = w; p = a.enters +ℤ o })
  one-led u x a v w k o is_u is_x d e l from to =
      let leads : Leads j u l.p x l.i = subst (λ y. Leads j u l.p y l.i) to (subst (λ y. Leads j y l.p l.to l.i) from l.leads) in
      let ports = a.only l.p l.i leads in
      let first = vertex-same u d.v v l.offset_from k (subst (λ y. IsOfVertex host j h.least y d.v l.offset_from) from l.is_from) is_u in
      let second = vertex-same x e.v w l.offset_to o (subst (λ y. IsOfVertex host j h.least y e.v l.offset_to) to l.is_to) is_x in
      let p : d.p ≡ a.port +ℤ k = l.leaves ∙ ap (λ z. z +ℤ l.offset_from) ports.0 ∙ ap (λ z. a.port +ℤ z) first.1 in
      let q : e.p ≡ a.enters +ℤ o = l.enters ∙ ap (λ z. z +ℤ l.offset_to) ports.1 ∙ ap (λ z. a.enters +ℤ z) second.1 in
      (one_map_port d.v v d.p (a.port +ℤ k) first.0 p, one_map_port e.v w e.p (a.enters +ℤ o) second.0 q)

  join : (ps : List (Node × Node)) → Joined ps
  join [] = record { list = []; edges = record { in_order = tt; each = λ c m. absurd m }; whole = λ d e l m. absurd m }
  join (p ∷ ps) = by (lead-or-not p.0 p.1) (join ps)
    where
      by : HasLead j p.0 p.1 ⊎ HasNoLead j p.0 p.1 → Joined ps → Joined (p ∷ ps)
      by (inr none) r = record { list = r.list; edges = r.edges; whole = λ d e l m. of d e l m }
        where
          of : (d e : MapPort) (l : Led d e) → ((l.from, l.to) ≡ p) ⊎ IsMember (l.from, l.to) ps → HasCable r.list d e
          of d e l (inr m) = r.whole d e l m
          of d e l (inl s) =
              let two = pair-first (l.from, l.to) p s in
              absurd (none l.p l.i (subst (λ y. Leads j p.0 l.p y l.i) two.1 (subst (λ y. Leads j y l.p l.to l.i) two.0 l.leads)))
      by (inl a) r = record { list = more.list; edges = more.edges; whole = λ x y l m. of x y l m }
        where
          at_u : HasVertex host j h.least p.0
          at_u = h.covered p.0 (leads-from j p.0 p.1 a.port a.enters a.leads)

          at_x : HasVertex host j h.least p.1
          at_x = h.covered p.1 (leads-to j p.0 p.1 a.port a.enters a.leads)

          d : MapPort
          d = record { v = at_u.vertex; p = a.port +ℤ at_u.offset }

          e : MapPort
          e = record { v = at_x.vertex; p = a.enters +ℤ at_x.offset }

          led : Led d e
          led = record {
            from = p.0;
            to = p.1;
            p = a.port;
            i = a.enters;
            offset_from = at_u.offset;
            offset_to = at_x.offset;
            leads = a.leads;
            is_from = at_u.is_of;
            is_to = at_x.is_of;
            leaves = refl;
            enters = refl;
          }

          new : (c : MapCable) × IsEdge c × (((first_end c ≡ d) × (second_end c ≡ e)) ⊎ ((first_end c ≡ e) × (second_end c ≡ d)))
          new = between d e led (port-total d e)

          more : Added new.0 r.list
          more = add new.0 r.list new.1 r.edges

          of : (x y : MapPort) (l : Led x y) → ((l.from, l.to) ≡ p) ⊎ IsMember (l.from, l.to) ps → HasCable more.list x y
          of x y l (inr m) = let c = r.whole x y l m in record { cable = c.cable; member = more.kept c.cable c.member; ends = c.ends }
          of x y l (inl s) =
              let two = pair-first (l.from, l.to) p s in
              let same = one-led p.0 p.1 a at_u.vertex at_x.vertex at_u.offset at_x.offset at_u.is_of at_x.is_of x y l two.0 two.1 in
              subst (λ z. HasCable more.list x z) (sym same.1) (subst (λ z. HasCable more.list z e) (sym same.0) (record { cable = new.0; member = more.here; ends = new.2 }))

  -- all pairs of nodes
  abbrev pairs : List Node → List Node → List (Node × Node)
  pairs [] vs = []
  pairs (u ∷ us) vs = map (λ v. (u, v)) vs ++ pairs us vs

  pair-member : (u v : Node) (us vs : List Node) → IsMember u us → IsMember v vs → IsMember (u, v) (pairs us vs)
  pair-member u v [] vs m k = absurd m
  pair-member u v (x ∷ us) vs (inl e) k = member-left (u, v) (map (λ y. (x, y)) vs) (pairs us vs) (subst (λ z. IsMember {X = Node × Node} (u, v) (map (λ y. (z, y)) vs)) e (member-map (λ y. (u, y)) v vs k))
  pair-member u v (x ∷ us) vs (inr m) k = member-right (u, v) (map (λ y. (x, y)) vs) (pairs us vs) (pair-member u v us vs m k)

  listed : (u : Node) → IsNode j u → IsMember u (all_nodes j)
  listed Mapper e = inl refl
  listed (Reached w) e = inr (member-map Reached w _ (node-found j w e))

  abbrev joins : Joined (pairs (all_nodes j) (all_nodes j))
  joins = join (pairs (all_nodes j) (all_nodes j))

  abbrev vertices : List MapVertex
  vertices = named 0 (map (host_of host j) h.least)

  abbrev made : NetMap
  made = record { vertices = vertices; cables = joins.list; core = map (λ v. true) vertices }

  cabled-led : (d e : MapPort) → IsCabled made d e → Led d e
  cabled-led d e (forth k {c = c} at) = (joins.edges.each c (place-member joins.list k c at)).0
  cabled-led d e (back k {c = c} at) = led-back (first_end c) (second_end c) (joins.edges.each c (place-member joins.list k c at)).0

  led-cabled : (d e : MapPort) → Led d e → IsCabled made d e
  led-cabled d e l = by (joins.whole d e l (pair-member l.from l.to (all_nodes j) (all_nodes j) (listed l.from (leads-from j l.from l.to l.p l.i l.leads)) (listed l.to (leads-to j l.from l.to l.p l.i l.leads))))
    where
      by : HasCable joins.list d e → IsCabled made d e
      by c = of c.ends
        where
          place : (k : ℕ) × (slice_get joins.list k ≡ Some c.cable)
          place = member-place c.cable joins.list c.member

          of : ((first_end c.cable ≡ d) × (second_end c.cable ≡ e)) ⊎ ((first_end c.cable ≡ e) × (second_end c.cable ≡ d)) → IsCabled made d e
          of (inl s) = subst (λ x. IsCabled made x e) s.0 (subst (λ y. IsCabled made (first_end c.cable) y) s.1 (forth place.0 place.1))
          of (inr s) = subst (λ x. IsCabled made x e) s.1 (subst (λ y. IsCabled made (second_end c.cable) y) s.0 (back place.0 place.1))

  pub quotient-made : (m : NetMap) × IsQuotient host j m
  quotient-made = (
    made,
    record {
      least = h.least;
      each_least = h.each_least;
      in_order = h.in_order;
      covered = h.covered;
      vertices = refl;
      cabled = λ d e. (cabled-led d e, led-cabled d e);
      cables_in_order = joins.edges.in_order;
      unmarked = refl;
    },
  )

pub quotient_exists : QuotientExists
quotient_exists n host j f found = quotient-made n host j f found (least_nodes_exist n host j f found)
