-- Maps that are the same up to offset are one when renumbered.
use Rattle.std.proofs.Common.{◌≡◌, ◌<◌, ◌⊎◌, inl, inr, ℕ, suc, List, [], ◌∷◌, map, true, false, length, Option, Some, None, refl, ap, sym, ◌∙◌, subst, true≢false, arith}
use Rattle.std.specs.Prelude.{ℤ, pos, ◌+ℤ◌, slice_get, option_map}
use Rattle.std.proofs.lemmas.Bool.{cases_order}
use Rattle.std.proofs.lemmas.Int.{ints}
use Rattle.std.proofs.lemmas.List.{length-map}
use Rattle.journal_defs.specs.Tree.{Node, node_below}
use Rattle.journal_defs.specs.Tree.Node.{Mapper, Reached}
use Rattle.journal_defs.proofs.Members.{IsMember, member-place}
use Rattle.map_defs.specs.declared.vertex.MapVertex.{MapVertex}
use Rattle.map_defs.specs.declared.vertex.MapCable.{MapCable}
use Rattle.map_defs.specs.NetMap.{NetMap, MapPort, IsMap, IsCabled, AreInOrder, first_end, second_end, host_at, host_of_vertex, port_below}
use Rattle.map_defs.specs.NetMap.IsCabled.{forth, back}
use Rattle.map_defs.specs.Quotient.{named}
use Rattle.map_defs.specs.Sameness.{IsSame, graph_of_map}
use Rattle.map_laws.proofs.Least.{not_apart-nodes, below-get, get-map, named-host}
use Rattle.map_laws.proofs.Listed.{port-asym, in-order}
use Rattle.map_laws.proofs.OneMap.{AreRising, rising-one, rising-places}
use Rattle.map_renumber.specs.Canon.{entered, IsLeastWay, IsPortOf, IsMoved, IsRenumbered, IsCanon}
use Rattle.map_renumber.specs.Laws.{CanonIsOne, CanonStays}
use Rattle.replicate_merge.proofs.Nodes.{node_below-trans, node_below-irrefl}
use Rattle.map_quotient.proofs.Places.{one-there, get-less, place-member}
use Rattle.map_quotient.proofs.Vertices.{map-place}
use Rattle.map_renumber.proofs.Images.{host-below, image_of, IsInside, entered-image, entered-inside}

node-asym : (u v : Node) → node_below u v ≡ true → node_below v u ≡ true → ⊥
node-asym u v a b = true≢false (sym (node_below-trans u v u a b) ∙ node_below-irrefl u)

-- lists of one length with the same elements at their places are one
lists-one : {X : Type 0} (xs ys : List X) → length xs ≡ length ys → ((v : ℕ) (x y : X) → slice_get xs v ≡ Some x → slice_get ys v ≡ Some y → x ≡ y) → xs ≡ ys
lists-one [] [] e all = refl
lists-one [] (y ∷ ys) e all = absurd (omega arith)
lists-one (x ∷ xs) [] e all = absurd (omega arith)
lists-one (x ∷ xs) (y ∷ ys) e all =
    let first : x ≡ y = all 0 x y refl refl in
    let rest : xs ≡ ys = lists-one xs ys (omega arith) (λ v a b p q. all (suc v) a b p q) in
    λ i. first i ∷ rest i

-- the cable that joins two ports
record Joining (cs : List MapCable) (d e : MapPort) : Type 0 where
  pub cable : MapCable
  pub member : IsMember cable cs
  pub ends : ((first_end cable ≡ d) × (second_end cable ≡ e)) ⊎ ((second_end cable ≡ d) × (first_end cable ≡ e))

joining : (m : NetMap) (d e : MapPort) → IsCabled m d e → Joining m.cables d e
joining m d e (forth k {c = c} p) = record { cable = c; member = place-member m.cables k c p; ends = inl (refl, refl) }
joining m d e (back k {c = c} p) = record { cable = c; member = place-member m.cables k c p; ends = inr (refl, refl) }

abbrev StandsBefore : MapCable → MapCable → Type 0
StandsBefore c d = port_below (first_end c) (first_end d) ≡ true

order-rises : (cs : List MapCable) → AreInOrder cs → AreRising StandsBefore cs
order-rises [] o = tt
order-rises (c ∷ cs) o = (o.1, order-rises cs o.2)

-- a cable of one map in order is one of another that joins these ports
cable-there : (k l : NetMap) → AreInOrder k.cables → AreInOrder l.cables → ((d e : MapPort) → IsCabled k d e → IsCabled l d e) → (c : MapCable) → IsMember c k.cables → IsMember c l.cables
cable-there k l a b all c i =
    let p = member-place c k.cables i in
    let other = joining l (first_end c) (second_end c) (all (first_end c) (second_end c) (forth p.0 p.1)) in
    by other other.ends
  where
    by : (h : Joining l.cables (first_end c) (second_end c)) → ((first_end h.cable ≡ first_end c) × (second_end h.cable ≡ second_end c)) ⊎ ((second_end h.cable ≡ first_end c) × (first_end h.cable ≡ second_end c)) → IsMember c l.cables
    by h (inl e) = subst (λ (d : MapCable). IsMember d l.cables) (λ i. record { v = (e.0 i).v; p = (e.0 i).p; w = (e.1 i).v; q = (e.1 i).p }) h.member
    by h (inr e) =
        let own = in-order k.cables c a i in
        let turned = in-order l.cables h.cable b h.member in
        absurd (port-asym (first_end c) (second_end c) own (subst (λ x. port_below x (first_end c) ≡ true) e.1 (subst (λ x. port_below (first_end h.cable) x ≡ true) e.0 turned)))

cables-one : (k l : NetMap) → AreInOrder k.cables → AreInOrder l.cables → ((d e : MapPort) → IsCabled k d e → IsCabled l d e) → ((d e : MapPort) → IsCabled l d e → IsCabled k d e) → k.cables ≡ l.cables
cables-one k l a b there back_there =
    rising-one StandsBefore (λ c d. port-asym (first_end c) (first_end d)) k.cables l.cables (order-rises k.cables a) (order-rises l.cables b) (cable-there k l a b there) (cable-there l k b a back_there)

offset-moved : (q d e o : ℤ) → q ≡ d +ℤ e → q +ℤ o ≡ d +ℤ (e +ℤ o)
offset-moved q d e o is = omega (arith, ints)

offset-back : (q d e x o : ℤ) → q ≡ d +ℤ e → x +ℤ o ≡ e → (d +ℤ x) +ℤ o ≡ q
offset-back q d e x o is at = omega (arith, ints)

some-image : {X Y : Type 0} (f : X → Y) (o : Option X) (y : Y) → option_map f o ≡ Some y → (x : X) × (o ≡ Some x) × (f x ≡ y)
some-image f None y e = cc
some-image f (Some x) y e = (x, refl, (let one : f x ≡ y = cc in one))

module _ (m n k l : NetMap) (h : ℕ) (rules_m : IsMap m) (rules_n : IsMap n) (host_m : host_of_vertex m 0 ≡ Some h) (host_n : host_of_vertex n 0 ≡ Some h) (same : IsSame (graph_of_map m) (graph_of_map n)) (c : IsCanon m k) (e : IsCanon n l) where
  abbrev image : MapPort → MapPort
  image d = image_of m n rules_m rules_n same d

  entered-by : (u : Node) (d : MapPort) → entered m u ≡ Some d → entered n u ≡ Some (image d)
  entered-by u d q = entered-image m n rules_m rules_n same h host_m host_n u ∙ ap (option_map image) q

  entered-from : (u : Node) (f : MapPort) → entered n u ≡ Some f → (d : MapPort) × (entered m u ≡ Some d) × (image d ≡ f)
  entered-from u f q = some-image image (entered m u) f (sym (entered-image m n rules_m rules_n same h host_m host_n u) ∙ q)

  entered-low : (u : Node) (d : MapPort) → entered m u ≡ Some d → d.v < length m.vertices
  entered-low u d q = subst (IsInside m n rules_m rules_n same) q (entered-inside m n rules_m rules_n same h host_m host_n u)

  one-origin : (v w : ℕ) → v < length m.vertices → w < length m.vertices → same.image v ≡ same.image w → v ≡ w
  one-origin v w a b q = sym (same.origin_image v a) ∙ ap same.origin q ∙ same.origin_image w b

  -- a vertex of the one has a least way, and so has the one that stands for it: the same
  one-way : (u x : Node) (d f : MapPort) → IsLeastWay m u d → IsLeastWay n x f → f.v ≡ same.image d.v → u ≡ x
  one-way u x d f a b vertex = not_apart-nodes u x below_not above_not
    where
      above_not : node_below x u ≡ false
      above_not =
          let g = entered-from x f b.enters in
          let v : g.0.v ≡ d.v = one-origin g.0.v d.v (entered-low x g.0 g.1) (entered-low u d a.enters) (ap (λ (y : MapPort). y.v) g.2 ∙ vertex) in
          a.least x g.0.p (g.1 ∙ ap Some (λ i. record { v = v i; p = g.0.p }))

      below_not : node_below u x ≡ false
      below_not = b.least u (d.p +ℤ same.offset d.v) (entered-by u d a.enters ∙ ap Some (λ i. record { v = sym vertex i; p = d.p +ℤ same.offset d.v }))

  entry-at : (v : ℕ) (u : Node) → slice_get c.ways v ≡ Some u → (d : MapPort) × (slice_get c.entries v ≡ Some d)
  entry-at v u q = below-get c.entries v (let l = get-less c.ways v u q in let s = c.one_each in omega arith)

  entry-at_n : (v : ℕ) (u : Node) → slice_get e.ways v ≡ Some u → (d : MapPort) × (slice_get e.entries v ≡ Some d)
  entry-at_n v u q = below-get e.entries v (let l = get-less e.ways v u q in let s = e.one_each in omega arith)

  way-at : (v : ℕ) (d : MapPort) → slice_get c.entries v ≡ Some d → (u : Node) × (slice_get c.ways v ≡ Some u)
  way-at v d q = below-get c.ways v (let l = get-less c.entries v d q in let s = c.one_each in omega arith)

  way-at_n : (v : ℕ) (d : MapPort) → slice_get e.entries v ≡ Some d → (u : Node) × (slice_get e.ways v ≡ Some u)
  way-at_n v d q = below-get e.ways v (let l = get-less e.entries v d q in let s = e.one_each in omega arith)

  way-there : (u : Node) → IsMember u c.ways → IsMember u e.ways
  way-there u i = by_place (member-place u c.ways i).0 (member-place u c.ways i).1
    where
      -- by the number of the vertex that stands for the one entered
      by_number : (d : MapPort) → IsLeastWay m u d → (r : IsRenumbered e.entries (same.image d.v)) → (x : Node) → slice_get e.ways r.number ≡ Some x → IsMember u e.ways
      by_number d a r x q = place-member e.ways r.number u (q ∙ ap Some (sym (one-way u x d (record { v = same.image d.v; p = r.entry }) a (e.each_least r.number x (record { v = same.image d.v; p = r.entry }) q r.there) refl)))

      by_least : (d : MapPort) → IsLeastWay m u d → (r : IsRenumbered e.entries (same.image d.v)) → IsMember u e.ways
      by_least d a r = let x = way-at_n r.number (record { v = same.image d.v; p = r.entry }) r.there in by_number d a r x.0 x.1

      by_place : (v : ℕ) → slice_get c.ways v ≡ Some u → IsMember u e.ways
      by_place v p =
          let d = entry-at v u p in
          let a : IsLeastWay m u d.0 = c.each_least v u d.0 p d.1 in
          by_least d.0 a (e.covered (same.image d.0.v) (same.image_in d.0.v (entered-low u d.0 a.enters)))

  way-back : (x : Node) → IsMember x e.ways → IsMember x c.ways
  way-back x i = by_place (member-place x e.ways i).0 (member-place x e.ways i).1
    where
      by_number : (f g : MapPort) → IsLeastWay n x f → image g ≡ f → (r : IsRenumbered c.entries g.v) → (u : Node) → slice_get c.ways r.number ≡ Some u → IsMember x c.ways
      by_number f g b is r u q = place-member c.ways r.number x (q ∙ ap Some (one-way u x (record { v = g.v; p = r.entry }) f (c.each_least r.number u (record { v = g.v; p = r.entry }) q r.there) b (sym (ap (λ (y : MapPort). y.v) is))))

      by_least : (f g : MapPort) → IsLeastWay n x f → image g ≡ f → (r : IsRenumbered c.entries g.v) → IsMember x c.ways
      by_least f g b is r = let u = way-at r.number (record { v = g.v; p = r.entry }) r.there in by_number f g b is r u.0 u.1

      by_place : (v : ℕ) → slice_get e.ways v ≡ Some x → IsMember x c.ways
      by_place v p =
          let f = entry-at_n v x p in
          let b : IsLeastWay n x f.0 = e.each_least v x f.0 p f.1 in
          let g = entered-from x f.0 b.enters in
          by_least f.0 g.0 b g.2 (c.covered g.0.v (entered-low x g.0 g.1))

  ways-same : c.ways ≡ e.ways
  ways-same =
      rising-one (λ u x. node_below u x ≡ true) node-asym c.ways e.ways (rising-places (λ u x. node_below u x ≡ true) c.ways c.in_order) (rising-places (λ u x. node_below u x ≡ true) e.ways e.in_order) way-there way-back

  entries-same : e.entries ≡ map image c.entries
  entries-same = lists-one e.entries (map image c.entries) (sym e.one_each ∙ ap length (sym ways-same) ∙ c.one_each ∙ sym (length-map c.entries image)) at
    where
      at : (v : ℕ) (f g : MapPort) → slice_get e.entries v ≡ Some f → slice_get (map image c.entries) v ≡ Some g → f ≡ g
      at v f g p q =
          let d = map-place image c.entries v g q in
          let u = way-at v d.0 d.1 in
          let there : slice_get e.ways v ≡ Some u.0 = ap (λ (us : List Node). slice_get us v) (sym ways-same) ∙ u.1 in
          let two : Some f ≡ Some (image d.0) = sym (e.each_least v u.0 f there p).enters ∙ entered-by u.0 d.0 (c.each_least v u.0 d.0 u.1 d.1).enters in
          let one : f ≡ image d.0 = cc in
          one ∙ d.2

  entry-low : (v : ℕ) (d : MapPort) → slice_get c.entries v ≡ Some d → d.v < length m.vertices
  entry-low v d q = let u = way-at v d q in entered-low u.0 d (c.each_least v u.0 d u.1 q).enters

  vertices-same : k.vertices ≡ l.vertices
  vertices-same = c.vertices ∙ ap (named 0) addresses ∙ sym e.vertices
    where
      at : (v : ℕ) (x y : Option ℕ) → slice_get (map (λ (d : MapPort). host_of_vertex m d.v) c.entries) v ≡ Some x → slice_get (map (λ (d : MapPort). host_of_vertex n d.v) e.entries) v ≡ Some y → x ≡ y
      at v x y p q =
          let d = map-place (λ (z : MapPort). host_of_vertex m z.v) c.entries v x p in
          let f = map-place (λ (z : MapPort). host_of_vertex n z.v) e.entries v y q in
          let there : slice_get e.entries v ≡ Some (image d.0) = ap (λ (ds : List MapPort). slice_get ds v) entries-same ∙ get-map image c.entries v d.0 d.1 in
          let one : f.0 ≡ image d.0 = one-there e.entries v f.0 (image d.0) f.1 there in
          sym d.2 ∙ sym (same.addresses d.0.v (entry-low v d.0 d.1)) ∙ ap (λ (z : MapPort). host_of_vertex n z.v) (sym one) ∙ f.2

      addresses : map (λ (d : MapPort). host_of_vertex m d.v) c.entries ≡ map (λ (d : MapPort). host_of_vertex n d.v) e.entries
      addresses =
          lists-one (map (λ (d : MapPort). host_of_vertex m d.v) c.entries) (map (λ (d : MapPort). host_of_vertex n d.v) e.entries)
          (length-map c.entries (λ (d : MapPort). host_of_vertex m d.v) ∙ sym (length-map c.entries image) ∙ ap length (sym entries-same) ∙ sym (length-map e.entries (λ (d : MapPort). host_of_vertex n d.v))) at

  -- a port of the one by its number is the port of the other
  port-there : (d from : MapPort) → IsPortOf c.entries d from → IsPortOf e.entries d (image from)
  port-there d from i = record {
    entry = i.entry +ℤ same.offset from.v;
    there = ap (λ (ds : List MapPort). slice_get ds d.v) entries-same ∙ get-map image c.entries d.v (record { v = from.v; p = i.entry }) i.there;
    port = offset-moved from.p d.p i.entry (same.offset from.v) i.port;
  }

  port-low : (d from : MapPort) → IsPortOf c.entries d from → from.v < length m.vertices
  port-low d from i = entry-low d.v (record { v = from.v; p = i.entry }) i.there

  port-back : (d to : MapPort) → IsPortOf e.entries d to → (from : MapPort) × IsPortOf c.entries d from × (image from ≡ to)
  port-back d to i =
      let x = map-place image c.entries d.v (record { v = to.v; p = i.entry }) (ap (λ (ds : List MapPort). slice_get ds d.v) (sym entries-same) ∙ i.there) in
      let v : same.image x.0.v ≡ to.v = ap (λ (y : MapPort). y.v) x.2 in
      let p : (d.p +ℤ x.0.p) +ℤ same.offset x.0.v ≡ to.p = offset-back to.p d.p i.entry x.0.p (same.offset x.0.v) i.port (ap (λ (y : MapPort). y.p) x.2) in
      (record { v = x.0.v; p = d.p +ℤ x.0.p }, record { entry = x.0.p; there = x.1; port = refl }, (λ j. record { v = v j; p = p j }))

  moved-there : (d f : MapPort) → IsMoved m c.entries d f → IsMoved n e.entries d f
  moved-there d f i = record {
    from = image i.from;
    to = image i.to;
    is_from = port-there d i.from i.is_from;
    is_to = port-there f i.to i.is_to;
    cabled = (same.cables i.from.v i.to.v i.from.p i.to.p (port-low d i.from i.is_from) (port-low f i.to i.is_to)).0 i.cabled;
  }

  moved-back : (d f : MapPort) → IsMoved n e.entries d f → IsMoved m c.entries d f
  moved-back d f i =
      let a = port-back d i.from i.is_from in
      let b = port-back f i.to i.is_to in
      let joint : IsCabled n (image a.0) (image b.0) = subst (λ x. IsCabled n (image a.0) x) (sym b.2) (subst (λ x. IsCabled n x i.to) (sym a.2) i.cabled) in
      record { from = a.0; to = b.0; is_from = a.1; is_to = b.1; cabled = (same.cables a.0.v b.0.v a.0.p b.0.p (port-low d a.0 a.1) (port-low f b.0 b.1)).1 joint }

  cables-same : k.cables ≡ l.cables
  cables-same = cables-one k l c.cables_in_order e.cables_in_order (λ d f q. (e.cabled d f).1 (moved-there d f ((c.cabled d f).0 q))) (λ d f q. (c.cabled d f).1 (moved-back d f ((e.cabled d f).0 q)))

  canons-same : (k.vertices ≡ l.vertices) × (k.cables ≡ l.cables)
  canons-same = (vertices-same, cables-same)

pub canon_is_one : CanonIsOne
canon_is_one m n k l h rules_m rules_n host_m host_n same c e = canons-same m n k l h rules_m rules_n host_m host_n same c e

only-mapper : (u : Node) → node_below Mapper u ≡ false → u ≡ Mapper
only-mapper Mapper e = refl
only-mapper (Reached w) e = absurd (true≢false e)

none-before : (u : Node) → node_below u Mapper ≡ true → ⊥
none-before Mapper e = true≢false (sym e)
none-before (Reached w) e = true≢false (sym e)

-- vertex 0 of a renumbered map is that of the map
first-host : (m k : NetMap) (h : ℕ) → host_of_vertex m 0 ≡ Some h → IsCanon m k → host_of_vertex k 0 ≡ Some h
first-host m k h host c =
    let r = c.covered 0 (host-below m.vertices 0 h host) in
    let u = below-get c.ways r.number (let l = get-less c.entries r.number (record { v = 0; p = r.entry }) r.there in let s = c.one_each in omega arith) in
    by r (u.1 ∙ ap Some (only-mapper u.0 ((c.each_least r.number u.0 (record { v = 0; p = r.entry }) u.1 r.there).least Mapper (pos 0) refl)))
  where
    at_zero : (entry : ℤ) → slice_get c.entries 0 ≡ Some (record { v = 0; p = entry }) → host_of_vertex k 0 ≡ Some h
    at_zero entry q =
        ap (λ (vs : List MapVertex). host_at (slice_get vs 0)) c.vertices
        ∙ named-host 0 (map (λ (d : MapPort). host_of_vertex m d.v) c.entries) 0 (host_of_vertex m 0) (get-map (λ (d : MapPort). host_of_vertex m d.v) c.entries 0 (record { v = 0; p = entry }) q)
        ∙ host

    by : (r : IsRenumbered c.entries 0) → slice_get c.ways r.number ≡ Some Mapper → host_of_vertex k 0 ≡ Some h
    by r way = cases (cases_order r.number 0)
      where
        cases : (r.number ≡ 0) ⊎ ((r.number < 0) ⊎ (0 < r.number)) → host_of_vertex k 0 ≡ Some h
        cases (inl z) = at_zero r.entry (subst (λ v. slice_get c.entries v ≡ Some (record { v = 0; p = r.entry })) z r.there)
        cases (inr (inl l)) = absurd (omega arith)
        cases (inr (inr l)) =
            let x = below-get c.ways 0 (let b = get-less c.ways r.number Mapper way in omega arith) in
            absurd (none-before x.0 (c.in_order 0 r.number x.0 Mapper l x.1 way))

pub canon_stays : CanonStays
canon_stays m k l h rules_m rules_k host same c e = canons-same m k k l h rules_m rules_k host (first-host m k h host c) same c e
