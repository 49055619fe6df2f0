-- The map of a closed journal whose answers are true is the mapper's part.
use Rattle.std.proofs.Common.{◌≡◌, ◌<◌, ℕ, zero, suc, List, [], ◌∷◌, length, Bool, true, false, Option, Some, None, sym, ◌∙◌, subst, ap, true≢false, refl, arith, if◌then◌else◌}
use Rattle.std.specs.Prelude.{ℤ, pos, negsuc, ◌+ℤ◌, neg_ℤ, slice_get}
use Rattle.std.proofs.lemmas.Int.{ints}
use Rattle.net_defs.specs.declared.vertex.Vertex.{Vertex}
use Rattle.net_defs.specs.declared.vertex.Vertex.TheVariants.{Host, Switch}
use Rattle.net_defs.specs.declared.vertex.End.{End}
use Rattle.net_defs.specs.Network.{Network, IsFabric, far, same_vertex}
use Rattle.net_defs.specs.Route.{host_port}
use Rattle.net_defs.proofs.Ends.{same_vertex-true, same_vertex-refl}
use Rattle.journal_defs.specs.declared.entry.Entry.{Entry}
use Rattle.journal_defs.specs.Tree.{Node, IsNode, answered, host_of, host_in}
use Rattle.journal_defs.specs.Tree.Node.{Reached}
use Rattle.journal_defs.specs.Truth.{IsTrueJournal, IsTrueWhereFound, standing}
use Rattle.journal_defs.specs.Replicates.Replicates.{turned as other_way}
use Rattle.journal_defs.specs.Part.{IsInPart}
use Rattle.journal_defs.proofs.Standing.{node-stands, host-stands, stand, same_end-of, leads-crosses, leads-to}
use Rattle.map_defs.specs.NetMap.{NetMap, IsCabled, host_of_vertex}
use Rattle.map_defs.specs.Quotient.{IsQuotient}
use Rattle.map_defs.specs.Sameness.{IsMapOfPart, Joined, address_of}
use Rattle.map_laws.proofs.Truly.{true-where, node-host, node-switch}
use Rattle.map_laws.proofs.Closing.{in-part}
use Rattle.map_laws.specs.Certificate.{ClosedMapIsRight}
use Rattle.map_laws.proofs.Rooted.{IsRooted, grown-rooted}
use Rattle.map_laws.proofs.OneClass.{HasWays, closed-ways, cross, covered, one_class}
use Rattle.map_laws.proofs.Least.{vertex-below, below-vertex, vertex-host, class-one}

-- the first place of a list whose element passes a test
abbrev pub first_place : (Node → Bool) → List Node → ℕ
first_place test [] = 0
first_place test (u ∷ us) = if test u then 0 else suc (first_place test us)

pub record Passing (test : Node → Bool) (us : List Node) (k : ℕ) : Type 0 where
  pub node : Node
  pub there : slice_get us k ≡ Some node
  pub passes : test node ≡ true

pub first-passes : (test : Node → Bool) (us : List Node) (k : ℕ) (u : Node) → slice_get us k ≡ Some u → test u ≡ true → Passing test us (first_place test us)
first-passes test [] k u e t = cc
first-passes test (x ∷ us) k u e t = by (test x) refl k e (λ i g. first-passes test us i u g t)
  where
    by : (b : Bool) → test x ≡ b → (i : ℕ) → slice_get (x ∷ us) i ≡ Some u → ((i : ℕ) → slice_get us i ≡ Some u → Passing test us (first_place test us)) → Passing test (x ∷ us) (if b then 0 else suc (first_place test us))
    by true p i g rest = record { node = x; there = refl; passes = p }
    by false p zero g rest = let one : x ≡ u = cc in absurd (true≢false (sym t ∙ ap test (sym one) ∙ p))
    by false p (suc i) g rest = let r = rest i g in record { node = r.node; there = r.there; passes = r.passes }

-- where the least node of a number stands
abbrev pub vertex_of_end : ℕ → Option End → Vertex
vertex_of_end host None = Host host
vertex_of_end host (Some d) = d.v

abbrev pub port_of_end : Option End → ℤ
port_of_end None = pos 0
port_of_end (Some d) = pos d.p

abbrev pub end_at : Network → ℕ → Option Node → Option End
end_at n host None = None
end_at n host (Some u) = standing n host u

abbrev pub image_by : Network → ℕ → List Node → ℕ → Vertex
image_by n host us v = vertex_of_end host (end_at n host (slice_get us v))

abbrev pub offset_by : Network → ℕ → List Node → ℕ → ℤ
offset_by n host us v = port_of_end (end_at n host (slice_get us v))

abbrev pub is_over : Network → ℕ → Vertex → Node → Bool
is_over n host x u = same_vertex (vertex_of_end host (standing n host u)) x

abbrev pub origin_by : Network → ℕ → List Node → Vertex → ℕ
origin_by n host us x = first_place (is_over n host x) us

-- a vertex of the map with its least node
record Placed (n : Network) (host : ℕ) (j : List Entry) (us : List Node) (v : ℕ) : Type 0 where
  pub node : Node
  pub there : slice_get us v ≡ Some node
  pub is_node : IsNode j node
  pub at : End
  pub stands : standing n host node ≡ Some at

over-end : (n : Network) (host : ℕ) (x : Vertex) (u : Node) (d : End) → standing n host u ≡ Some d → d.v ≡ x → is_over n host x u ≡ true
over-end n host x u d s e = ap (λ o. same_vertex (vertex_of_end host o) x) s ∙ ap (λ y. same_vertex y x) e ∙ same_vertex-refl x

-- the ends of a cable of the fabric
pub record Ports (n : Network) (v : Vertex) (p : ℤ) (w : Vertex) (q : ℤ) : Type 0 where
  pub from : ℕ
  pub to : ℕ
  pub is_from : p ≡ pos from
  pub is_to : q ≡ pos to
  pub cable : far n (record { v = v; p = from }) ≡ Some (record { v = w; p = to })

pub joined-ports : (n : Network) (v : Vertex) (p : ℤ) (w : Vertex) (q : ℤ) → Joined n v p w q → Ports n v p w q
joined-ports n v (pos a) w (pos b) c = record { from = a; to = b; is_from = refl; is_to = refl; cable = c }
joined-ports n v (pos a) w (negsuc b) c = absurd c
joined-ports n v (negsuc a) w q c = absurd c

pub joined-moved : (n : Network) (v w x y : Vertex) (a b : ℕ) (p q : ℤ) → v ≡ x → p ≡ pos a → w ≡ y → q ≡ pos b → far n (record { v = x; p = a }) ≡ Some (record { v = y; p = b }) → Joined n v p w q
joined-moved n v w x y a b p q e f g h c =
    subst (λ z. Joined n v p w z) (sym h) (subst (λ z. Joined n v p z (pos b)) (sym g) (subst (λ z. Joined n v z y (pos b)) (sym f) (subst (λ z. Joined n z (pos a) y (pos b)) (sym e) c)))

leaving_port : (p a o : ℤ) (l d c : ℕ) → p ≡ a +ℤ o → pos l ≡ pos c +ℤ a → pos c ≡ pos d +ℤ o → p +ℤ pos d ≡ pos l
leaving_port p a o l d c e f g = omega (arith, ints)

leaving_turn : (p a : ℤ) (x d : ℕ) → p +ℤ pos d ≡ pos x → pos x ≡ pos d +ℤ a → p ≡ a
leaving_turn p a x d e f = omega (arith, ints)

entering_turn : (q i o : ℤ) (y s d : ℕ) → q +ℤ pos d ≡ pos y → pos y ≡ pos s +ℤ i → pos s ≡ pos d +ℤ o → q ≡ i +ℤ o
entering_turn q i o y s d e f g = omega (arith, ints)

moved_by : (p a b : ℕ) (l k : ℤ) → pos a ≡ pos b +ℤ k → pos p ≡ pos b +ℤ l → pos p ≡ pos a +ℤ (l +ℤ neg_ℤ k)
moved_by p a b l k e f = omega (arith, ints)

moved-far : (n : Network) (v w : Vertex) (p : ℕ) (e : End) → v ≡ w → far n (record { v = v; p = p }) ≡ Some e → far n (record { v = w; p = p }) ≡ Some e
moved-far n v w p e q f = subst (λ x. far n (record { v = x; p = p }) ≡ Some e) q f

moved-sum : (a : ℤ) (o : ℤ) (b : ℕ) (c : ℕ) → o ≡ pos b → a +ℤ o ≡ pos c → a +ℤ pos b ≡ pos c
moved-sum a o b c e f = subst (λ x. a +ℤ x ≡ pos c) e f

between-ends : (d e f g : End) (k : ℤ) → d ≡ e → f ≡ g → pos e.p ≡ pos g.p +ℤ k → pos d.p ≡ pos f.p +ℤ k
between-ends d e f g k a b c = subst (λ (x : End). pos x.p ≡ pos f.p +ℤ k) (sym a) (subst (λ (x : End). pos e.p ≡ pos x.p +ℤ k) (sym b) c)

module _ (n : Network) (host : ℕ) (j : List Entry) (m : NetMap) (fabric : IsFabric n) (all : IsTrueJournal n host j) (root : IsRooted j) (ways : HasWays n host j) (q : IsQuotient host j m) where
  found : IsTrueWhereFound n host j
  found = true-where n host j all

  placed-at : (v : ℕ) (u : Node) → slice_get q.least v ≡ Some u → Placed n host j q.least v
  placed-at v u e =
      let least = q.each_least v u e in
      let s = node-stands n host j u found least.node in
      record { node = u; there = e; is_node = least.node; at = s.at; stands = s.is }

  placed : (v : ℕ) → v < length m.vertices → Placed n host j q.least v
  placed v l = let u = below-vertex host j m q v l in placed-at v u.0 u.1

  image-is : (v : ℕ) (p : Placed n host j q.least v) → image_by n host q.least v ≡ p.at.v
  image-is v p = ap (λ o. vertex_of_end host (end_at n host o)) p.there ∙ ap (vertex_of_end host) p.stands

  offset-is : (v : ℕ) (p : Placed n host j q.least v) → offset_by n host q.least v ≡ pos p.at.p
  offset-is v p = ap (λ o. port_of_end (end_at n host o)) p.there ∙ ap port_of_end p.stands

  image_in : (v : ℕ) → v < length m.vertices → IsInPart n host (image_by n host q.least v)
  image_in v l = let p = placed v l in subst (IsInPart n host) (sym (image-is v p)) (in-part n host p.node p.at p.stands)

  -- a vertex of the part has a number
  originated : (x : Vertex) → IsInPart n host x → Passing (is_over n host x) q.least (origin_by n host q.least x)
  originated x i =
      let c = covered n host j i.cables x fabric all root ways i.path in
      let h = q.covered c.node c.is_node in
      let pair = stand n host j c.node h.is_of.least_node h.offset fabric found h.is_of.one_class in
      let at : c.at ≡ pair.at_u = same_end-of n host c.node c.at pair.at_u c.stands pair.is_at_u in
      let over : pair.at_v.v ≡ x = sym pair.one_vertex ∙ ap (λ (e : End). e.v) (sym at) ∙ c.vertex in
      first-passes (is_over n host x) q.least h.vertex h.is_of.least_node h.is_of.there (over-end n host x h.is_of.least_node pair.at_v pair.is_at_v over)

  origin_in : (x : Vertex) → IsInPart n host x → origin_by n host q.least x < length m.vertices
  origin_in x i = let p = originated x i in vertex-below host j m q (origin_by n host q.least x) p.node p.there

  image_origin : (x : Vertex) → IsInPart n host x → image_by n host q.least (origin_by n host q.least x) ≡ x
  image_origin x i =
      let p = originated x i in
      ap (λ o. vertex_of_end host (end_at n host o)) p.there ∙ same_vertex-true (vertex_of_end host (standing n host p.node)) x p.passes

  -- two numbers over one vertex are one
  one-number : (v w : ℕ) → v < length m.vertices → w < length m.vertices → image_by n host q.least v ≡ image_by n host q.least w → v ≡ w
  one-number v w k l e =
      let a = placed v k in
      let b = placed w l in
      let i = image_in v k in
      let r = one_class n host j i.cables (image_by n host q.least v) a.node b.node a.at b.at fabric all root ways i.path a.is_node b.is_node a.stands b.stands (sym (image-is v a)) (sym (image-is w b) ∙ sym e) in
      class-one host j m q v w a.node b.node r.offset a.there b.there r.one_class

  origin_image : (v : ℕ) → v < length m.vertices → origin_by n host q.least (image_by n host q.least v) ≡ v
  origin_image v l =
      let i = image_in v l in
      one-number (origin_by n host q.least (image_by n host q.least v)) v (origin_in (image_by n host q.least v) i) l (image_origin (image_by n host q.least v) i)

  addresses : (v : ℕ) → v < length m.vertices → address_of (image_by n host q.least v) ≡ host_of_vertex m v
  addresses v l =
      let p = placed v l in
      ap address_of (image-is v p) ∙ by p p.at.v refl ∙ sym (vertex-host host j m q v p.node p.there)
    where
      none_of : (u : Node) (w : List ℤ) → u ≡ Reached w → host_in (answered j w) ≡ None → host_of host j u ≡ None
      none_of u w e f = ap (host_of host j) e ∙ f

      by : (p : Placed n host j q.least v) (x : Vertex) → p.at.v ≡ x → address_of p.at.v ≡ host_of host j p.node
      by p (Host h) e = ap address_of e ∙ sym (node-host n host j p.node p.at h all p.is_node p.stands e)
      by p (Switch s) e = let a = node-switch n host j p.node p.at s all p.is_node p.stands e in ap address_of e ∙ sym (none_of p.node a.walk a.is (ap host_in a.switch))

  host_offsets : (v a : ℕ) → v < length m.vertices → host_of_vertex m v ≡ Some a → offset_by n host q.least v ≡ pos 0
  host_offsets v a l e =
      let p = placed v l in
      let is : host_of host j p.node ≡ Some a = sym (vertex-host host j m q v p.node p.there) ∙ e in
      let own : p.at ≡ host_port a = same_end-of n host p.node p.at (host_port a) p.stands (host-stands n host j p.node a fabric found is) in
      offset-is v p ∙ ap (λ (d : End). pos d.p) own

  -- a cable of the map is one of the fabric
  cabled-joined : (v w : ℕ) (a b : ℤ) → v < length m.vertices → w < length m.vertices → IsCabled m (record { v = v; p = a }) (record { v = w; p = b }) → Joined n (image_by n host q.least v) (a +ℤ offset_by n host q.least v) (image_by n host q.least w) (b +ℤ offset_by n host q.least w)
  unfolding placed-at
  cabled-joined v w a b k l c =
      let led = (q.cabled (record { v = v; p = a }) (record { v = w; p = b })).0 c in
      let at_v = placed-at v led.is_from.least_node led.is_from.there in
      let at_w = placed-at w led.is_to.least_node led.is_to.there in
      let from = stand n host j led.from led.is_from.least_node led.offset_from fabric found led.is_from.one_class in
      let to = stand n host j led.to led.is_to.least_node led.offset_to fabric found led.is_to.one_class in
      let over = leads-crosses n host j led.from led.to led.p led.i from.at_u to.at_u fabric led.leads from.is_at_u to.is_at_u in
      let own_v : from.at_v ≡ at_v.at = same_end-of n host led.is_from.least_node from.at_v at_v.at from.is_at_v at_v.stands in
      let own_w : to.at_v ≡ at_w.at = same_end-of n host led.is_to.least_node to.at_v at_w.at to.is_at_v at_w.stands in
      let port_v : a +ℤ pos from.at_v.p ≡ pos over.leaves = leaving_port a led.p led.offset_from over.leaves from.at_v.p from.at_u.p led.leaves over.leaves_by from.apart in
      let port_w : b +ℤ pos to.at_v.p ≡ pos over.enters = leaving_port b led.i led.offset_to over.enters to.at_v.p to.at_u.p led.enters over.enters_by to.apart in
      joined-moved n (image_by n host q.least v) (image_by n host q.least w) from.at_u.v to.at_u.v over.leaves over.enters (a +ℤ offset_by n host q.least v) (b +ℤ offset_by n host q.least w) (image-is v at_v ∙ ap (λ (e : End). e.v) (sym own_v) ∙ sym from.one_vertex) (ap (λ o. a +ℤ o) (offset-is v at_v ∙ ap (λ (e : End). pos e.p) (sym own_v)) ∙ port_v) (image-is w at_w ∙ ap (λ (e : End). e.v) (sym own_w) ∙ sym to.one_vertex) (ap (λ o. b +ℤ o) (offset-is w at_w ∙ ap (λ (e : End). pos e.p) (sym own_w)) ∙ port_w) over.cable

  -- a cable of the fabric is one of the map
  joined-cabled : (v w : ℕ) (a b : ℤ) → v < length m.vertices → w < length m.vertices → Joined n (image_by n host q.least v) (a +ℤ offset_by n host q.least v) (image_by n host q.least w) (b +ℤ offset_by n host q.least w) → IsCabled m (record { v = v; p = a }) (record { v = w; p = b })
  joined-cabled v w a b k l c =
      let at_v = placed v k in
      let at_w = placed w l in
      let ports = joined-ports n (image_by n host q.least v) (a +ℤ offset_by n host q.least v) (image_by n host q.least w) (b +ℤ offset_by n host q.least w) c in
      let other : End = record { v = image_by n host q.least w; p = ports.to } in
      let cable : far n (record { v = at_v.at.v; p = ports.from }) ≡ Some other = moved-far n (image_by n host q.least v) at_v.at.v ports.from other (image-is v at_v) ports.cable in
      let over = cross n host j at_v.node at_v.at ports.from other fabric all root at_v.is_node at_v.stands (ways at_v.node at_v.at at_v.is_node at_v.stands) cable in
      let in_part = image_in w l in
      let r = one_class n host j in_part.cables (image_by n host q.least w) over.to.next at_w.node over.to.at at_w.at fabric all root ways in_part.path (leads-to j over.from.node over.to.next over.to.turn over.to.port over.to.leads) at_w.is_node over.to.stands at_w.stands over.to.there (sym (image-is w at_w)) in
      let pair = stand n host j over.to.next at_w.node r.offset fabric found r.one_class in
      let at_to : over.to.at ≡ pair.at_u = same_end-of n host over.to.next over.to.at pair.at_u over.to.stands pair.is_at_u in
      let at_least : at_w.at ≡ pair.at_v = same_end-of n host at_w.node at_w.at pair.at_v at_w.stands pair.is_at_v in
      let apart : pos over.to.at.p ≡ pos at_w.at.p +ℤ r.offset = between-ends over.to.at pair.at_u at_w.at pair.at_v r.offset at_to at_least pair.apart in
      (q.cabled (record { v = v; p = a }) (record { v = w; p = b })).1 (record {
        from = over.from.node;
        to = over.to.next;
        p = over.to.turn;
        i = over.to.port;
        offset_from = neg_ℤ over.from.offset;
        offset_to = r.offset;
        leads = over.to.leads;
        is_from = record { least_node = at_v.node; there = at_v.there; one_class = other_way over.from.one_class };
        is_to = record { least_node = at_w.node; there = at_w.there; one_class = r.one_class };
        leaves = leaving_turn a (over.to.turn +ℤ neg_ℤ over.from.offset) ports.from at_v.at.p (moved-sum a (offset_by n host q.least v) at_v.at.p ports.from (offset-is v at_v) ports.is_from) (moved_by ports.from at_v.at.p over.from.at.p over.to.turn over.from.offset over.from.apart over.to.leaves);
        enters = entering_turn b over.to.port r.offset ports.to over.to.at.p at_w.at.p (moved-sum b (offset_by n host q.least w) at_w.at.p ports.to (offset-is w at_w) ports.is_to) over.to.enters apart;
      })

  pub assembled : IsMapOfPart n host m
  assembled = record {
    image = image_by n host q.least;
    origin = origin_by n host q.least;
    offset = offset_by n host q.least;
    image_in = image_in;
    origin_in = origin_in;
    origin_image = origin_image;
    image_origin = image_origin;
    addresses = addresses;
    host_offsets = host_offsets;
    cables = λ v w a b k l. (cabled-joined v w a b k l, joined-cabled v w a b k l);
  }

pub closed_map_is_right : ClosedMapIsRight
closed_map_is_right n host depth j m fabric all grown closed q =
    assembled n host j m fabric all (grown-rooted host depth j grown) (closed-ways n host j all closed) q
