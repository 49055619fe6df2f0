-- The cables that the walks show are taken: none of them is refused.
use Rattle.std.proofs.Common.{◌≡◌, ◌≢◌, ◌<◌, ◌≤◌, ◌+◌, ◌^◌, ◌||◌, inl, inr, ℕ, List, [], ◌∷◌, map, Bool, true, false, length, nat_lt, Option, Some, None, is_some, refl, ap, sym, ◌∙◌, subst, arith, if◌then◌else◌}
use Rattle.std.specs.Prelude.{ℤ, pos, ◌+ℤ◌, ◌-ℤ◌, slice_get}
use Rattle.std.specs.Ordering.{int_eq}
use Rattle.std.proofs.lemmas.Bool.{and_from, and_parts, false≢true, lt-ltb}
use Rattle.std.proofs.lemmas.Bool.Decides.{Decides-int_eq}
use Rattle.std.proofs.lemmas.Int.{ints}
use Rattle.std.proofs.lemmas.List.{length-append, length-map}
use Rattle.std.proofs.lemmas.Option.{slice_get_within}
use Rattle.net_defs.specs.declared.vertex.Cable.{Cable}
use Rattle.net_defs.specs.declared.vertex.End.{End}
use Rattle.net_defs.specs.Network.{Network, Apart, ends_of, far, far_end, has_port, same_end}
use Rattle.net_defs.specs.Route.{host_port}
use Rattle.net_defs.specs.Turn.{IsTurn, is_turn}
use Rattle.net_defs.proofs.Cabling.{far-back, host-port}
use Rattle.net_defs.proofs.Ends.{same_end-true}
use Rattle.journal_defs.specs.declared.entry.Entry.{Entry}
use Rattle.journal_defs.specs.Tree.{Node, host_of}
use Rattle.journal_defs.specs.Truth.{standing}
use Rattle.journal_defs.proofs.Members.{IsMember, member-place}
use Rattle.journal_defs.proofs.Standing.{host-stands, leads-crosses, port-below, same_end-of, stand, turn-between}
use Rattle.map_laws.proofs.Crossing.{below-ports}
use Rattle.map_laws.proofs.Truly.{port-there}
use Rattle.map_defs.specs.declared.vertex.MapCable.{MapCable}
use Rattle.map_defs.specs.declared.vertex.MapVertex.{MapVertex}
use Rattle.map_defs.specs.NetMap.{NetMap, MapPort, IsCabled, far_port, first_end, second_end, is_switch_vertex, map_ends, map_far, switch_at}
use Rattle.map_defs.specs.NetMap.IsCabled.{forth, back}
use Rattle.map_defs.specs.Quotient.{IsLed, named}
use Rattle.map_defs.proofs.Ports.{same_port-false}
use Rattle.map_laws.proofs.Least.{get-map, named-length}
use Rattle.map_laws.proofs.Listed.{all-ends}
use Rattle.fabric_map.specs.Growing.{are_near, cable_refusal, is_near, may_have, with_cable}
use Rattle.fabric_map.proofs.Ends.{end-far, near-from}
use Rattle.replicate_merge.specs.Nodes.{nodes_of}
use Rattle.replicate_merge.specs.Table.{ClassTable, IsTrueOfOne}
use Rattle.replicate_merge.specs.Ways.{node_at}
use Rattle.map_quotient.specs.Joining.{AreTaken, JoinsBelow, TellsCable, joined_by}
use Rattle.map_quotient.specs.Joining.JoinsBelow.{start, next}
use Rattle.map_quotient.specs.Naming.{bare_map, vertices_of}
use Rattle.map_quotient.proofs.Places.{place-member}
use Rattle.map_quotient.proofs.Standing.{AreOf, least_nodes, one-far}
use Rattle.map_quotient.proofs.Taken.{not-full, taken}
use Rattle.map_quotient.proofs.Told.{far-cabled, told-led, told-only}
use Rattle.map_quotient.proofs.Vertices.{named-switch}
use Rattle.map_quotient.proofs.Whole.{joins-frame, map-twice}

-- no port of a fabric is cabled to itself
far-differs : (cs : List Cable) (d e : End) → Apart (ends_of cs) → far_end cs d ≡ Some e → d ≢ e
far-differs [] d e apart f = cc
far-differs (c ∷ cs) d e apart f = by (same_end c.a d) (same_end c.b d) refl refl f (far-differs cs d e apart.1.1)
  where
    by : (s t : Bool) → same_end c.a d ≡ s → same_end c.b d ≡ t → (if s then Some c.b else if t then Some c.a else far_end cs d) ≡ Some e → (far_end cs d ≡ Some e → d ≢ e) → d ≢ e
    by true t p q g rest = let at_b : c.b ≡ e = cc in λ same. apart.0.0 (same_end-true c.a d p ∙ same ∙ sym at_b)
    by false true p q g rest = let at_a : c.a ≡ e = cc in λ same. apart.0.0 (at_a ∙ sym same ∙ sym (same_end-true c.b d q))
    by false false p q g rest = rest g

-- the vertex and port of the fabric that a port of the map stands for
record RealEnd (n : Network) (host : ℕ) (us : List Node) (d : MapPort) : Type 0 where
  pub node : Node
  pub there : slice_get us d.v ≡ Some node
  pub at : End
  pub stands : standing n host node ≡ Some at
  pub port : ℕ
  pub sum : pos port ≡ pos at.p +ℤ d.p
  pub has : has_port n (record { v = at.v; p = port }) ≡ true

-- the port that it is
abbrev real_port : {n : Network} {host : ℕ} {us : List Node} {d : MapPort} → RealEnd n host us d → End
real_port r = record { v = r.at.v; p = r.port }

-- two ports of the map that are joined stand for two that are
record RealPair (n : Network) (host : ℕ) (us : List Node) (d e : MapPort) : Type 0 where
  pub from : RealEnd n host us d
  pub to : RealEnd n host us e
  pub cable : far n (real_port from) ≡ Some (real_port to)

real_sum : (a p o : ℤ) (l c d : ℕ) → a ≡ p +ℤ o → pos l ≡ pos c +ℤ p → pos c ≡ pos d +ℤ o → pos l ≡ pos d +ℤ a
real_sum a p o l c d e f g = omega (arith, ints)

one_number : (a b : ℕ) (x : ℤ) → pos a ≡ x → pos b ≡ x → a ≡ b
one_number a b x e f = omega (arith, ints)

between : (a b c : ℕ) (x y : ℤ) → pos a ≡ pos c +ℤ x → pos b ≡ pos c +ℤ y → pos a ≡ pos b +ℤ (x -ℤ y)
between a b c x y e f = omega (arith, ints)

zero_port : (p a : ℕ) (x : ℤ) → p ≡ 0 → a ≡ 0 → pos p ≡ pos a +ℤ x → x ≡ pos 0
zero_port p a x e f g = omega (arith, ints)

-- the ends of a cable are ends
pub ends-member : (cs : List MapCable) (c : MapCable) → IsMember c cs → IsMember (first_end c) (map_ends cs) × IsMember (second_end c) (map_ends cs)
ends-member [] c i = absurd i
ends-member (x ∷ cs) c (inl e) = (inl (ap first_end e), inr (inl (ap second_end e)))
ends-member (x ∷ cs) c (inr i) = let r = ends-member cs c i in (inr (inr r.0), inr (inr r.1))

-- a port that is no end has no far end
pub unused-port : (cs : List MapCable) (d : MapPort) → ((c : MapCable) → IsMember c cs → (first_end c ≢ d) × (second_end c ≢ d)) → far_port cs d ≡ None
unused-port [] d all = refl
unused-port (c ∷ cs) d all = let own = all c (inl refl) in rw (same_port-false (first_end c) d own.0, same_port-false (second_end c) d own.1) (unused-port cs d (λ x i. all x (inr i)))

-- a port with a cable has a far end
cabled-far : (m : NetMap) (d e : MapPort) → IsCabled m d e → (is_some (map_far m d) ≡ true) × (is_some (map_far m e) ≡ true)
cabled-far m d e (forth k {c = c} s) = let i = ends-member m.cables c (place-member m.cables k c s) in (end-far m.cables (first_end c) i.0, end-far m.cables (second_end c) i.1)
cabled-far m d e (back k {c = c} s) = let i = ends-member m.cables c (place-member m.cables k c s) in (end-far m.cables (second_end c) i.1, end-far m.cables (first_end c) i.0)

-- no more cables than walks
few-joined : (walks : List (List ℤ)) (c : ClassTable) (vertices : List (Option ℕ)) (first : NetMap) (k : ℕ) (m : NetMap) → first.cables ≡ [] → JoinsBelow walks c vertices first k m → length m.cables ≤ k
few-joined walks c vertices first k m none (start x is) = let e : length m.cables ≡ 0 = ap (λ (y : NetMap). length y.cables) is ∙ ap length none in omega arith
few-joined walks c vertices first k m none (next i at old new w o z before s told is) =
    let l = few-joined walks c vertices first at old none before in
    let e : length m.cables ≡ length (joined_by old o).cables = ap (λ (y : NetMap). length y.cables) is in
    let one = by o in
    omega arith
  where
    more : (x : MapCable) (b : Bool) → length (if b then old else with_cable old x).cables ≤ length old.cables + 1
    more x true = omega arith
    more x false = let l = length-append old.cables (x ∷ []) in omega arith

    by : (y : Option MapCable) → length (joined_by old y).cables ≤ length old.cables + 1
    by None = omega arith
    by (Some x) = more x (is_some (map_far old (first_end x)))

module _ (host : ℕ) (j : List Entry) (walks : List (List ℤ)) (c : ClassTable) (least : List ℕ) (vertices : List (Option ℕ)) (g : AreOf host j c least vertices) (walked : nodes_of walks ≡ c.nodes) (t : IsTrueOfOne host j) where
  abbrev us : List Node
  us = least_nodes host j c least vertices g

  abbrev Led : MapPort → MapPort → Type 0
  Led d e = IsLed host j us d e

  abbrev Real : MapPort → Type 0
  Real d = RealEnd t.fabric host us d

  real-pair : (d e : MapPort) → Led d e → RealPair t.fabric host us d e
  real-pair d e l =
      let from = stand t.fabric host j l.from l.is_from.least_node l.offset_from t.is_fabric t.told l.is_from.one_class in
      let to = stand t.fabric host j l.to l.is_to.least_node l.offset_to t.is_fabric t.told l.is_to.one_class in
      let over = leads-crosses t.fabric host j l.from l.to l.p l.i from.at_u to.at_u t.is_fabric l.leads from.is_at_u to.is_at_u in
      let a : End = record { v = from.at_u.v; p = over.leaves } in
      let b : End = record { v = to.at_u.v; p = over.enters } in
      record {
        from = record {
          node = l.is_from.least_node;
          there = l.is_from.there;
          at = from.at_v;
          stands = from.is_at_v;
          port = over.leaves;
          sum = real_sum d.p l.p l.offset_from over.leaves from.at_u.p from.at_v.p l.leaves over.leaves_by from.apart;
          has = subst (λ v. has_port t.fabric (record { v = v; p = over.leaves }) ≡ true) from.one_vertex (port-there t.fabric a b t.is_fabric over.cable);
        };
        to = record {
          node = l.is_to.least_node;
          there = l.is_to.there;
          at = to.at_v;
          stands = to.is_at_v;
          port = over.enters;
          sum = real_sum e.p l.i l.offset_to over.enters to.at_u.p to.at_v.p l.enters over.enters_by to.apart;
          has = subst (λ v. has_port t.fabric (record { v = v; p = over.enters }) ≡ true) to.one_vertex (port-there t.fabric b a t.is_fabric (far-back t.fabric a b t.is_fabric over.cable));
        };
        cable = (λ i. far t.fabric (record { v = sym from.one_vertex i; p = over.leaves })) ∙ over.cable ∙ (λ i. Some (record { v = to.one_vertex i; p = over.enters }));
      }

  real-turn : (d : MapPort) → Real d → IsTurn d.p
  real-turn d r = turn-between r.port r.at.p d.p (below-ports t.fabric (real_port r) t.is_fabric r.has) (port-below t.fabric host r.node r.at t.is_fabric r.stands) r.sum

  one-at : (d e : MapPort) (r : Real d) (s : Real e) → d.v ≡ e.v → r.at ≡ s.at
  one-at d e r s v =
      let two : Some r.node ≡ Some s.node = sym r.there ∙ ap (slice_get us) v ∙ s.there in
      let one : r.node ≡ s.node = cc in
      same_end-of t.fabric host r.node r.at s.at r.stands (ap (standing t.fabric host) one ∙ s.stands)

  real-near : (d e : MapPort) → Real d → Real e → d.v ≡ e.v → is_turn (d.p -ℤ e.p) ≡ true
  real-near d e r s v =
      let at = one-at d e r s v in
      turn-between r.port s.port (d.p -ℤ e.p) (below-ports t.fabric (real_port r) t.is_fabric r.has) (below-ports t.fabric (real_port s) t.is_fabric s.has) (between r.port s.port s.at.p d.p e.p (r.sum ∙ ap (λ (x : End). pos x.p +ℤ d.p) at) s.sum)

  real-host : (d : MapPort) (r : Real d) (h : ℕ) → host_of host j r.node ≡ Some h → d.p ≡ pos 0
  real-host d r h is =
      let own : r.at ≡ host_port h = same_end-of t.fabric host r.node r.at (host_port h) r.stands (host-stands t.fabric host j r.node h t.is_fabric t.told is) in
      let port : r.port ≡ 0 = host-port t.fabric h r.port (subst (λ (x : End). has_port t.fabric (record { v = x.v; p = r.port }) ≡ true) own r.has) in
      zero_port r.port r.at.p d.p port (ap (λ (x : End). x.p) own) r.sum

  -- joined ports are two
  led-differs : (d e : MapPort) → Led d e → d ≢ e
  led-differs d e l same =
      let p = real-pair d e l in
      let at = one-at d e p.from p.to (ap (λ (x : MapPort). x.v) same) in
      let sum : pos p.from.port ≡ pos p.to.at.p +ℤ e.p = p.from.sum ∙ (λ i. pos (at i).p +ℤ (same i).p) in
      let port : p.from.port ≡ p.to.port = one_number p.from.port p.to.port (pos p.to.at.p +ℤ e.p) sum p.to.sum in
      far-differs t.fabric.cables (real_port p.from) (real_port p.to) t.is_fabric.ports_once p.cable (λ i. record { v = (at i).v; p = port i })

  module _ (first : NetMap) (bare : first ≡ bare_map (vertices_of host j walks least)) (few : length walks + 1 < 2 ^ 32) where
    none : first.cables ≡ []
    none = ap (λ (y : NetMap). y.cables) bare

    module _ (at : ℕ) (m : NetMap) (walk : List ℤ) (x : MapCable) (joins : JoinsBelow walks c vertices first at m) (there : slice_get walks at ≡ Some walk) (tells : TellsCable walks c vertices walk (at + 1) (Some x)) where
      led : Led (first_end x) (second_end x) × Led (second_end x) (first_end x)
      led = told-led host j walks c least vertices g walked at walk (Some x) x there tells refl

      pair : RealPair t.fabric host us (first_end x) (second_end x)
      pair = real-pair (first_end x) (second_end x) led.0

      all_vertices : m.vertices ≡ named 0 (map (host_of host j) us)
      all_vertices =
          (joins-frame walks c vertices first at m joins).0
          ∙ ap (λ (y : NetMap). y.vertices) bare
          ∙ ap (named 0) (map-twice (host_of host j) (λ n. node_at (nodes_of walks) n) least ∙ ap (λ (ns : List Node). map (host_of host j) (map (λ n. node_at ns n) least)) walked)

      low : (d : MapPort) → Real d → nat_lt d.v (length m.vertices) ≡ true
      low d r =
          let count : length m.vertices ≡ length us = ap length all_vertices ∙ named-length 0 (map (host_of host j) us) ∙ length-map us (host_of host j) in
          let l = slice_get_within us d.v r.node r.there in
          lt-ltb d.v (length m.vertices) (omega arith)

      kind : (d : MapPort) → Real d → (is_switch_vertex m d.v || int_eq d.p (pos 0)) ≡ true
      kind d r = by (host_of host j r.node) refl
        where
          any : (a b : Bool) → b ≡ true → (a || b) ≡ true
          any true b e = refl
          any false b e = e

          by : (o : Option ℕ) → host_of host j r.node ≡ o → (is_switch_vertex m d.v || int_eq d.p (pos 0)) ≡ true
          by None e =
              let address : slice_get (map (host_of host j) us) d.v ≡ Some None = get-map (host_of host j) us d.v r.node r.there ∙ ap Some e in
              let switch : is_switch_vertex m d.v ≡ true = ap (λ (vs : List MapVertex). switch_at (slice_get vs d.v)) all_vertices ∙ named-switch 0 (map (host_of host j) us) d.v address in
              ap (λ b. b || int_eq d.p (pos 0)) switch
          by (Some h) e = any (is_switch_vertex m d.v) (int_eq d.p (pos 0)) ((Decides-int_eq d.p (pos 0)).1 (real-host d r h e))

      near-cabled : (d e f : MapPort) → Real d → IsCabled m e f → e.v ≡ d.v → is_turn (e.p -ℤ d.p) ≡ true
      near-cabled d e f r q v = real-near e d (real-pair e f (told-only host j walks c least vertices g walked first none at m joins e f q)).from r v

      near : (d : MapPort) → Real d → are_near m.cables d ≡ true
      near d r =
          near-from (map_ends m.cables) d
          (all-ends (λ e. e.v ≡ d.v → is_turn (e.p -ℤ d.p) ≡ true) m.cables
          (λ y i. let place = member-place y m.cables i in (near-cabled d (first_end y) (second_end y) r (forth place.0 place.1), near-cabled d (second_end y) (first_end y) r (back place.0 place.1))))

      may : (d : MapPort) → Real d → may_have m d ≡ true
      may d r = and_from (is_turn d.p) _ (real-turn d r) (and_from (is_switch_vertex m d.v || int_eq d.p (pos 0)) _ (kind d r) (near d r))

      near-two : is_near (first_end x) (second_end x) ≡ true
      near-two = (and_parts (is_near (first_end x) (second_end x)) true (near-from (first_end x ∷ []) (second_end x) ((λ v. real-near (first_end x) (second_end x) pair.from pair.to v), tt))).0

      -- where nothing is cabled to the first end, nothing is to the second
      unused : map_far m (first_end x) ≡ None → map_far m (second_end x) ≡ None
      unused free = by (map_far m (second_end x)) refl
        where
          by : (o : Option MapPort) → map_far m (second_end x) ≡ o → map_far m (second_end x) ≡ None
          by None e = e
          by (Some y) e =
              let q = far-cabled m (second_end x) y e in
              let one : y ≡ first_end x = one-far host j c least vertices g (second_end x) y (first_end x) (told-only host j walks c least vertices g walked first none at m joins (second_end x) y q) led.1 in
              absurd (false≢true (sym (ap is_some free) ∙ ap (λ z. is_some (map_far m z)) (sym one) ∙ (cabled-far m (second_end x) y q).1))

      room : length m.cables < 4294967295
      room = let a = few-joined walks c vertices first at m none joins in let b = slice_get_within walks at walk there in omega arith

      next-told : map_far m (first_end x) ≡ None → cable_refusal m x ≡ None
      next-told free =
          taken m x (low (first_end x) pair.from) (low (second_end x) pair.to) (may (first_end x) pair.from) (may (second_end x) pair.to) near-two
          (λ i. is_some (free i) || is_some (unused free i) || same_port-false (first_end x) (second_end x) (led-differs (first_end x) (second_end x) led.0) i)
          (not-full (length m.cables) room)

    -- the cable that the next walk shows is refused for nothing
    pub told-taken : AreTaken walks c vertices first
    told-taken at m walk x joins there tells free = next-told at m walk x joins there tells free
