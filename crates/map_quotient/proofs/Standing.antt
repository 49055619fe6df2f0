-- What the vertices of classes are in the journal whose classes they are.
use Rattle.std.proofs.Common.{◌≡◌, ◌<◌, ℕ, zero, suc, List, [], ◌∷◌, map, Bool, true, false, length, nat_eq, Option, Some, None, refl, ap, sym, ◌∙◌, subst, arith, if◌then◌else◌}
use Rattle.std.specs.Prelude.{ℤ, pos, ◌+ℤ◌, ◌-ℤ◌, slice_get, unwrap_or}
use Rattle.std.proofs.lemmas.Bool.{eq-eqb}
use Rattle.std.proofs.lemmas.Bool.Decides.{Decides-eqb}
use Rattle.std.proofs.lemmas.Int.{ints}
use Rattle.std.proofs.lemmas.Option.{slice_get-get_or, get_or_from_slice_get}
use Rattle.journal_defs.specs.declared.entry.Entry.{Entry}
use Rattle.journal_defs.specs.Tree.{Node, IsJournal, IsNode, Leads, node_below}
use Rattle.journal_defs.specs.Replicates.{Replicates}
use Rattle.journal_defs.specs.Replicates.Replicates.{same, behind}
use Rattle.journal_defs.proofs.Standing.{leads-from, leads-to, replicates-nodes}
use Rattle.map_defs.specs.NetMap.{MapPort}
use Rattle.map_defs.specs.Quotient.{IsLeastNode, IsOfVertex, HasVertex, IsLed}
use Rattle.map_laws.proofs.Least.{not_apart-nodes, get-map}
use Rattle.port_align.specs.declared.frame.ClassFrame.{ClassFrame}
use Rattle.port_align.specs.Offset.{apart}
use Rattle.replicate_merge.specs.Table.{ClassTable, IsFramed, HasLeast}
use Rattle.replicate_merge.specs.Ways.{node_at, frame_at}
use Rattle.replicate_merge.proofs.Nodes.{IsAt, node-at, at-node}
use Rattle.replicate_merge.specs.Merged.{AreClassesOf}
use Rattle.map_quotient.specs.Numbering.{class_at, IsVertexOf, AreVertices}
use Rattle.map_quotient.specs.Joining.{vertex_at, port_of}
use Rattle.map_quotient.proofs.Places.{one-there, get-less}

-- what frames that are apart have
pub apart-parts : (f g : ClassFrame) (k : ℤ) → apart f g ≡ Some k → (f.class ≡ g.class) × (f.offset -ℤ g.offset ≡ k)
apart-parts f g k e = by (nat_eq f.class g.class) refl e
  where
    by : (b : Bool) → nat_eq f.class g.class ≡ b → (if b then Some (f.offset -ℤ g.offset) else None) ≡ Some k → (f.class ≡ g.class) × (f.offset -ℤ g.offset ≡ k)
    by true p q = ((Decides-eqb f.class g.class).0 p, (let one : f.offset -ℤ g.offset ≡ k = cc in one))
    by false p q = cc

pub apart-class : (f g : ClassFrame) → f.class ≡ g.class → apart f g ≡ Some (f.offset -ℤ g.offset)
apart-class f g e = ap (λ b. if b then Some (f.offset -ℤ g.offset) else None) (eq-eqb f.class g.class e)

no_offset : (a b : ℤ) → a -ℤ b ≡ pos 0 → b ≡ pos 0 → a ≡ pos 0
no_offset a b e f = omega (arith, ints)

less_none : (a b : ℤ) → b ≡ pos 0 → a -ℤ b ≡ a
less_none a b f = omega (arith, ints)

moved_port : (p q a b : ℤ) → p +ℤ a ≡ q +ℤ b → q ≡ p +ℤ (a -ℤ b)
moved_port p q a b e = omega (arith, ints)

moved_end : (i l a b : ℤ) → a -ℤ b ≡ l -ℤ i → i +ℤ a ≡ l +ℤ b
moved_end i l a b e = omega (arith, ints)

-- The classes of a journal, with their vertices.
pub record AreOf (host : ℕ) (j : List Entry) (c : ClassTable) (least : List ℕ) (vertices : List (Option ℕ)) : Type 0 where
  pub stands : AreClassesOf host j c
  pub once : IsJournal j
  pub numbered : AreVertices c least vertices

module _ (host : ℕ) (j : List Entry) (c : ClassTable) (least : List ℕ) (vertices : List (Option ℕ)) (g : AreOf host j c least vertices) where
  abbrev pub node : ℕ → Node
  node n = node_at c.nodes n

  abbrev pub frame : ℕ → ClassFrame
  frame n = frame_at c.frames n

  -- the least nodes of the vertices
  abbrev pub least_nodes : List Node
  least_nodes = map node least

  pub is_node : (n : ℕ) → n < length c.nodes → IsNode j (node n)
  is_node n l = subst (λ (ns : List Node). n < length ns → IsNode j (node_at ns n)) (sym g.stands.numbered) (at-node j g.once n) l

  pub number-of : (u : Node) → IsNode j u → IsAt c.nodes u
  number-of u i = subst (λ (ns : List Node). IsAt ns u) (sym g.stands.numbered) (node-at j u i)

  pub is_framed : (n : ℕ) → n < length c.nodes → IsFramed c n (node n) (frame n)
  is_framed n l = record { node = slice_get-get_or c.nodes n _ l; frame = (g.numbered.whole n l).framed }

  -- replicates by their frames
  pub frames-apart : (m n : ℕ) (k : ℤ) → m < length c.nodes → n < length c.nodes → Replicates host j (node m) (node n) k → (class_at c m ≡ class_at c n) × ((frame m).offset -ℤ (frame n).offset ≡ k)
  frames-apart m n k l i r = apart-parts (frame m) (frame n) k (g.stands.together m n (node m) (node n) (frame m) (frame n) k (is_framed m l) (is_framed n i) r)

  pub by-frames : (m n : ℕ) → m < length c.nodes → n < length c.nodes → class_at c m ≡ class_at c n → Replicates host j (node m) (node n) ((frame m).offset -ℤ (frame n).offset)
  by-frames m n l i e = g.stands.only m n (node m) (node n) (frame m) (frame n) ((frame m).offset -ℤ (frame n).offset) (is_framed m l) (is_framed n i) (apart-class (frame m) (frame n) e)

  -- the least node of a vertex has its ports
  least-offset : (v n : ℕ) → slice_get least v ≡ Some n → (frame n).offset ≡ pos 0
  least-offset v n e =
      let l = g.numbered.inside v n e in
      by l (g.stands.least (class_at c n) (g.numbered.whole n l).inside)
    where
      by : n < length c.nodes → HasLeast c (class_at c n) → (frame n).offset ≡ pos 0
      by l h =
          let is : node_at c.nodes h.number ≡ h.node = get_or_from_slice_get c.nodes h.number h.node _ h.framed.node in
          let own : frame_at c.frames h.number ≡ record { class = class_at c n; offset = pos 0 } = get_or_from_slice_get c.frames h.number (record { class = class_at c n; offset = pos 0 }) _ h.framed.frame in
          let lower : node_below h.node (node n) ≡ false = subst (λ u. node_below u (node n) ≡ false) is (g.numbered.first v n h.number e (within c.nodes h.number h.node h.framed.node) (ap (λ (f : ClassFrame). f.class) own)) in
          let above : node_below (node n) h.node ≡ false = h.least n (node n) (frame n) (is_framed n l) refl in
          let one : node n ≡ h.node = not_apart-nodes (node n) h.node above lower in
          let r : Replicates host j (node n) h.node (pos 0) = subst (λ u. Replicates host j (node n) u (pos 0)) one (same (is_node n l)) in
          let parts = apart-parts (frame n) (record { class = class_at c n; offset = pos 0 }) (pos 0) (g.stands.together n h.number (node n) h.node (frame n) (record { class = class_at c n; offset = pos 0 }) (pos 0) (is_framed n l) h.framed r) in
          no_offset (frame n).offset (pos 0) parts.1 refl
        where
          within : (ns : List Node) (k : ℕ) (u : Node) → slice_get ns k ≡ Some u → k < length ns
          within ns k u s = get-less ns k u s

  least-node : (v n : ℕ) → slice_get least v ≡ Some n → slice_get least_nodes v ≡ Some (node n)
  least-node v n e = got least v e
    where
      got : (ns : List ℕ) (w : ℕ) → slice_get ns w ≡ Some n → slice_get (map node ns) w ≡ Some (node n)
      got ns w s = get-map node ns w n s

  -- the node of a vertex is one of the least
  node-least : (v : ℕ) (u : Node) → slice_get least_nodes v ≡ Some u → (n : ℕ) × (slice_get least v ≡ Some n) × (node n ≡ u)
  node-least v u e = got least v e
    where
      got : (ns : List ℕ) (w : ℕ) → slice_get (map node ns) w ≡ Some u → (n : ℕ) × (slice_get ns w ≡ Some n) × (node n ≡ u)
      got [] w s = cc
      got (x ∷ xs) zero s = (x, refl, (let one : node x ≡ u = cc in one))
      got (x ∷ xs) (suc w) s = got xs w s

  vertex-is : (class v : ℕ) → IsVertexOf vertices class v → vertex_at vertices class ≡ v
  vertex-is class v e = ap (λ (o : Option ℕ). unwrap_or o 0) (get_or_from_slice_get vertices class (Some v) None e)

  -- the vertex of a node, with the port at which its own begin
  pub of_vertex : (n : ℕ) → n < length c.nodes → IsOfVertex host j least_nodes (node n) (vertex_at vertices (class_at c n)) (frame n).offset
  of_vertex n l =
      let h = g.numbered.whole n l in
      let is : vertex_at vertices (class_at c n) ≡ h.vertex = vertex-is (class_at c n) h.vertex h.is_vertex in
      let r = by-frames n h.node l (g.numbered.inside h.vertex h.node h.least_node) (sym h.one_class) in
      let offset = less_none (frame n).offset (frame h.node).offset (least-offset h.vertex h.node h.least_node) in
      record {
        least_node = node h.node;
        there = ap (slice_get least_nodes) is ∙ least-node h.vertex h.node h.least_node;
        one_class = subst (Replicates host j (node n) (node h.node)) offset r;
      }

  -- and it has no other
  pub vertex-one : (n v : ℕ) (k : ℤ) → n < length c.nodes → IsOfVertex host j least_nodes (node n) v k → (vertex_at vertices (class_at c n) ≡ v) × ((frame n).offset ≡ k)
  vertex-one n v k l o =
      let m = node-least v o.least_node o.there in
      let inside = g.numbered.inside v m.0 m.1 in
      let parts = frames-apart n m.0 k l inside (subst (λ u. Replicates host j (node n) u k) (sym m.2) o.one_class) in
      let own : IsVertexOf vertices (class_at c n) v = subst (λ x. IsVertexOf vertices x v) (sym parts.0) (g.numbered.own v m.0 m.1) in
      (vertex-is (class_at c n) v own, sym (less_none (frame n).offset (frame m.0).offset (least-offset v m.0 m.1)) ∙ parts.1)

  -- a port that leads to a port, as ports of vertices
  pub led-from : (m n : ℕ) (p i : ℤ) → m < length c.nodes → n < length c.nodes → Leads j (node m) p (node n) i → IsLed host j least_nodes (port_of c vertices m p) (port_of c vertices n i)
  led-from m n p i l k leads = record {
    from = node m;
    to = node n;
    p = p;
    i = i;
    offset_from = (frame m).offset;
    offset_to = (frame n).offset;
    leads = leads;
    is_from = of_vertex m l;
    is_to = of_vertex n k;
    leaves = refl;
    enters = refl;
  }

  -- ports of nodes that are joined
  pub record AreEnds (d e : MapPort) : Type 0 where
    pub m : ℕ
    pub n : ℕ
    pub p : ℤ
    pub i : ℤ
    pub m_below : m < length c.nodes
    pub n_below : n < length c.nodes
    pub leads : Leads j (node m) p (node n) i
    pub is_d : d ≡ port_of c vertices m p
    pub is_e : e ≡ port_of c vertices n i

  pub led-to : (d e : MapPort) → IsLed host j least_nodes d e → AreEnds d e
  led-to d e l =
      let m = number-of l.from (leads-from j l.from l.to l.p l.i l.leads) in
      let n = number-of l.to (leads-to j l.from l.to l.p l.i l.leads) in
      let from = vertex-one m.number d.v l.offset_from m.below (subst (λ u. IsOfVertex host j least_nodes u d.v l.offset_from) (sym m.is) l.is_from) in
      let to = vertex-one n.number e.v l.offset_to n.below (subst (λ u. IsOfVertex host j least_nodes u e.v l.offset_to) (sym n.is) l.is_to) in
      record {
        m = m.number;
        n = n.number;
        p = l.p;
        i = l.i;
        m_below = m.below;
        n_below = n.below;
        leads = subst (λ u. Leads j u l.p (node n.number) l.i) (sym m.is) (subst (λ u. Leads j l.from l.p u l.i) (sym n.is) l.leads);
        is_d = one_port d (port_of c vertices m.number l.p) (sym from.0) (l.leaves ∙ ap (λ x. l.p +ℤ x) (sym from.1));
        is_e = one_port e (port_of c vertices n.number l.i) (sym to.0) (l.enters ∙ ap (λ x. l.i +ℤ x) (sym to.1));
      }
    where
      one_port : (a b : MapPort) → a.v ≡ b.v → a.p ≡ b.p → a ≡ b
      one_port a b v p = λ i. record { v = v i; p = p i }

  -- nodes of one vertex have one class
  class-one : (m n : ℕ) → m < length c.nodes → n < length c.nodes → vertex_at vertices (class_at c m) ≡ vertex_at vertices (class_at c n) → class_at c m ≡ class_at c n
  class-one m n l k e =
      let a = g.numbered.whole m l in
      let b = g.numbered.whole n k in
      let v : a.vertex ≡ b.vertex = sym (vertex-is (class_at c m) a.vertex a.is_vertex) ∙ e ∙ vertex-is (class_at c n) b.vertex b.is_vertex in
      let one : a.node ≡ b.node = one-there least b.vertex a.node b.node (subst (λ x. slice_get least x ≡ Some a.node) v a.least_node) b.least_node in
      sym a.one_class ∙ ap (class_at c) one ∙ b.one_class

  -- a port leads to one port
  pub one-far : (d e f : MapPort) → IsLed host j least_nodes d e → IsLed host j least_nodes d f → e ≡ f
  one-far d e f a b = by (led-to d e a) (led-to d f b)
    where
      by : AreEnds d e → AreEnds d f → e ≡ f
      by x y =
          let same_d : port_of c vertices x.m x.p ≡ port_of c vertices y.m y.p = sym x.is_d ∙ y.is_d in
          let class = class-one x.m y.m x.m_below y.m_below (ap (λ (z : MapPort). z.v) same_d) in
          let port : y.p ≡ x.p +ℤ ((frame x.m).offset -ℤ (frame y.m).offset) = moved_port x.p y.p (frame x.m).offset (frame y.m).offset (ap (λ (z : MapPort). z.p) same_d) in
          let from = by-frames x.m y.m x.m_below y.m_below class in
          let to = behind from x.leads (subst (λ z. Leads j (node y.m) z (node y.n) y.i) port y.leads) in
          let parts = frames-apart x.n y.n (y.i -ℤ x.i) x.n_below y.n_below to in
          let v : vertex_at vertices (class_at c x.n) ≡ vertex_at vertices (class_at c y.n) = ap (vertex_at vertices) parts.0 in
          let p : x.i +ℤ (frame x.n).offset ≡ y.i +ℤ (frame y.n).offset = moved_end x.i y.i (frame x.n).offset (frame y.n).offset parts.1 in
          x.is_e ∙ (λ i. record { v = v i; p = p i }) ∙ sym y.is_e

  -- the least nodes are those of the classes, in their order, and each class has one
  pub each_least : (v : ℕ) (u : Node) → slice_get least_nodes v ≡ Some u → IsLeastNode host j u
  each_least v u e =
      let n = node-least v u e in
      subst (IsLeastNode host j) n.2 (record { node = is_node n.0 (g.numbered.inside v n.0 n.1); least = λ w k r. lower n.0 n.1 w k r })
    where
      lower : (n : ℕ) → slice_get least v ≡ Some n → (w : Node) (k : ℤ) → Replicates host j (node n) w k → node_below w (node n) ≡ false
      lower n at w k r =
          let m = number-of w (replicates-nodes host j (node n) w k r).1 in
          let inside = g.numbered.inside v n at in
          let parts = frames-apart n m.number k inside m.below (subst (λ u. Replicates host j (node n) u k) (sym m.is) r) in
          subst (λ u. node_below u (node n) ≡ false) m.is (g.numbered.first v n m.number at m.below (sym parts.0))

  pub in_order : (v w : ℕ) (u x : Node) → v < w → slice_get least_nodes v ≡ Some u → slice_get least_nodes w ≡ Some x → node_below u x ≡ true
  in_order v w u x l a b =
      let m = node-least v u a in
      let n = node-least w x b in
      subst (λ y. node_below y x ≡ true) m.2 (subst (λ y. node_below (node m.0) y ≡ true) n.2 (g.numbered.in_order v w m.0 n.0 l m.1 n.1))

  pub covered : (u : Node) → IsNode j u → HasVertex host j least_nodes u
  covered u i =
      let n = number-of u i in
      record { vertex = vertex_at vertices (class_at c n.number); offset = (frame n.number).offset; is_of = subst (λ y. IsOfVertex host j least_nodes y (vertex_at vertices (class_at c n.number)) (frame n.number).offset) n.is (of_vertex n.number n.below) }
