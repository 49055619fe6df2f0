-- A vertex of a right map is outside exactly where the vertex that it stands for is cut off from all hosts.
use Rattle.std.proofs.Common.{◌≡◌, ◌≢◌, ◌<◌, ◌+◌, ◌⊎◌, inl, inr, ℕ, zero, suc, Bool, true, false, not, List, [], ◌∷◌, ◌++◌, length, Option, Some, None, refl, sym, ap, subst, ◌∙◌, arith, true≢false}
use Rattle.std.specs.Prelude.{ℤ, pos, ◌+ℤ◌, ◌-ℤ◌, slice_get}
use Rattle.std.specs.List.{AllByRecursion}
use Rattle.std.proofs.lemmas.Int.{ints}
use Rattle.std.proofs.lemmas.Bool.{cases_order}
use Rattle.net_defs.specs.declared.vertex.Vertex.{Vertex}
use Rattle.net_defs.specs.declared.vertex.Vertex.TheVariants.{Host, Switch}
use Rattle.net_defs.specs.declared.vertex.End.{End}
use Rattle.net_defs.specs.Network.{Network, IsFabric, far}
use Rattle.journal_defs.specs.Counting.{numbers_below}
use Rattle.journal_defs.specs.Edges.{Steps}
use Rattle.journal_defs.specs.Edges.Steps.{start, step}
use Rattle.journal_defs.specs.Part.{IsInPart}
use Rattle.journal_defs.proofs.Members.{length-numbers}
use Rattle.journal_defs.proofs.Reach.{edge-back, steps-join}
use Rattle.map_defs.specs.declared.vertex.MapVertex.{MapVertex}
use Rattle.map_defs.specs.declared.vertex.MapVertex.TheVariants.{Host as MapHost, Switch as MapSwitch}
use Rattle.map_defs.specs.declared.vertex.MapCable.{MapCable}
use Rattle.map_defs.specs.NetMap.{NetMap, MapPort, IsMap, first_end, second_end, map_edges, map_ends, host_at, host_of_vertex, switch_at, is_switch_vertex}
use Rattle.map_defs.specs.Core.{without, is_outside, core_of}
use Rattle.map_defs.specs.Sameness.{IsMapOfPart, Joined as JoinedInFabric, address_of}
use Rattle.map_laws.proofs.Assembly.{joined-ports, joined-moved}
use Rattle.map_laws.proofs.Least.{get-map}
use Rattle.map_laws.proofs.Meeting.{other-switch}
use Rattle.map_laws.proofs.Listed.{host-below}
use Rattle.circ_defs.specs.Ways.{Joins, Step, IsWay, IsOneOf, cables_on}
use Rattle.circ_defs.specs.Cores.{IsCutOff}
use Rattle.circ_defs.proofs.Cables.{joins-far, far-joins, joins-back, SameCable, same-cable, one-cable, ends-one}
use Rattle.circ_defs.proofs.Cables.SameCable.{one_way, other_way}
use Rattle.circ_defs.proofs.Numbers.{is-one}
use Rattle.circ_defs.proofs.Sides.{part-step}
use Rattle.circ_defs.proofs.Ways.{way-push, one-of-either}
use Rattle.circ_laws.proofs.Ends.{IsEndOf, one-number, CabledBy, cabled-number, number-cabled, first-of, second-of}
use Rattle.circ_laws.proofs.Sides.{EdgeOf, without-edge, edge-without, Joined, OutsideBy, outside-means, means-outside}
use Rattle.world_defs.proofs.Now.{now_is_fabric}
use Rattle.world_defs.specs.World.{fabric_of}
use Rattle.run_defs.specs.declared.line.MapWords.TheVariants.{Complete}
use Rattle.mapping_laws.proofs.Made.{made_map_is_map}
use Rattle.mapping_laws.proofs.Sessions.{run_keeps_world}
use Rattle.print_laws.specs.Marks.{OutsideIsCutOff, MarksAreRight}
use Rattle.print_laws.proofs.Shown.{mapping-of}

-- both ends of a cable have what all ends have
ends-all : (P : MapPort → Type 0) (cs : List MapCable) (k : ℕ) (c : MapCable) → AllByRecursion P (map_ends cs) → slice_get cs k ≡ Some c → P (first_end c) × P (second_end c)
ends-all P [] k c all e = cc
ends-all P (x ∷ cs) zero c all e = let one : x ≡ c = cc in (subst (λ (y : MapCable). P (first_end y)) one all.0, subst (λ (y : MapCable). P (second_end y)) one all.1.0)
ends-all P (x ∷ cs) (suc k) c all e = ends-all P cs k c all.1.1 e

-- what is no host is a switch, and a switch is no host
no-address : (x : Vertex) → address_of x ≡ None → (s : ℕ) × (x ≡ Switch s)
no-address (Host h) e = cc
no-address (Switch s) e = (s, refl)

the-address : (x : Vertex) (h : ℕ) → address_of x ≡ Some h → x ≡ Host h
the-address (Host g) h e = let one : g ≡ h = cc in ap Host one
the-address (Switch s) h e = cc

switch-no-host : (o : Option MapVertex) → switch_at o ≡ true → host_at o ≡ None
switch-no-host None e = refl
switch-no-host (Some (MapHost h)) e = absurd (true≢false (sym e))
switch-no-host (Some (MapSwitch s)) e = refl

-- ports and offsets
same-offset : (p q o : ℤ) (a b : ℕ) → pos a ≡ p +ℤ o → pos b ≡ q +ℤ o → a ≡ b → p ≡ q
same-offset p q o a b e f g = omega (arith, ints)

same-port : (p o : ℤ) (a b : ℕ) → pos a ≡ p +ℤ o → pos b ≡ p +ℤ o → a ≡ b
same-port p o a b e f = omega (arith, ints)

taken-off : (a : ℕ) (o : ℤ) → pos a ≡ (pos a -ℤ o) +ℤ o
taken-off a o = omega (arith, ints)

module _ (n : Network) (host : ℕ) (m : NetMap) (fabric : IsFabric n) (rules : IsMap m) (same : IsMapOfPart n host m) where
  -- a port of the map stands over an end of the fabric
  record Over (d : MapPort) (x : End) : Type 0 where
    in_map : d.v < length m.vertices
    vertex : x.v ≡ same.image d.v
    port : pos x.p ≡ d.p +ℤ same.offset d.v

  one-image : (v w : ℕ) → v < length m.vertices → w < length m.vertices → same.image v ≡ same.image w → v ≡ w
  one-image v w a b e = sym (same.origin_image v a) ∙ ap same.origin e ∙ same.origin_image w b

  one-port : (d e : MapPort) (x y : End) → Over d x → Over e y → x ≡ y → d ≡ e
  one-port d e x y a b g =
      let v : d.v ≡ e.v = one-image d.v e.v a.in_map b.in_map (sym a.vertex ∙ ap (λ (z : End). z.v) g ∙ b.vertex) in
      let moved : pos y.p ≡ e.p +ℤ same.offset d.v = b.port ∙ ap (λ k. e.p +ℤ same.offset k) (sym v) in
      let p : d.p ≡ e.p = same-offset d.p e.p (same.offset d.v) x.p y.p a.port moved (ap (λ (z : End). z.p) g) in
      λ i. record { v = v i; p = p i }

  one-end : (d e : MapPort) (x y : End) → Over d x → Over e y → d ≡ e → x ≡ y
  one-end d e x y a b g =
      let v : x.v ≡ y.v = a.vertex ∙ ap (λ (z : MapPort). same.image z.v) g ∙ sym b.vertex in
      let p : x.p ≡ y.p = same-port (d.p) (same.offset d.v) x.p y.p a.port (b.port ∙ ap (λ (z : MapPort). z.p +ℤ same.offset z.v) (sym g)) in
      ends-one x y v p

  -- a cable of the map stands over one of the fabric
  record Link (i k : ℕ) (d e : MapPort) (x y : End) : Type 0 where
    cabled : CabledBy m i d e
    joins : Joins n k x y
    first : Over d x
    second : Over e y

  -- two that stand over one are one
  numbers-one : (i j k l : ℕ) (d e a b : MapPort) (x y s t : End) → Link i k d e x y → Link j l a b s t → k ≡ l → i ≡ j
  numbers-one i j k l d e a b x y s t f g is = by (same-cable n l x y s t (subst (λ q. Joins n q x y) is f.joins) g.joins)
    where
      by : SameCable x y s t → i ≡ j
      by (one_way p q) =
          let one : d ≡ a = one-port d a x s f.first g.first p in
          one-number m.cables i j f.cabled.c g.cabled.c d rules.ports_once f.cabled.there g.cabled.there (first-of m i d e f.cabled) (subst (λ z. IsEndOf z g.cabled.c) (sym one) (first-of m j a b g.cabled))
      by (other_way p q) =
          let one : d ≡ b = one-port d b x t f.first g.second p in
          one-number m.cables i j f.cabled.c g.cabled.c d rules.ports_once f.cabled.there g.cabled.there (first-of m i d e f.cabled) (subst (λ z. IsEndOf z g.cabled.c) (sym one) (second-of m j a b g.cabled))

  -- and one stands over one
  cables-one : (i j k l : ℕ) (d e a b : MapPort) (x y s t : End) → Link i k d e x y → Link j l a b s t → i ≡ j → k ≡ l
  cables-one i j k l d e a b x y s t f g is = by ends
    where
      c : f.cabled.c ≡ g.cabled.c
      c = same_cable (f.cabled.there) (ap (slice_get m.cables) is ∙ g.cabled.there)
        where
          same_cable : {o : Option MapCable} → o ≡ Some f.cabled.c → o ≡ Some g.cabled.c → f.cabled.c ≡ g.cabled.c
          same_cable p q = cc

      ends : IsEndOf d g.cabled.c
      ends = subst (IsEndOf d) c (first-of m i d e f.cabled)

      by-first : d ≡ a → k ≡ l
      by-first p = let one : x ≡ s = one-end d a x s f.first g.first p in one-cable n k l x y t fabric f.joins (subst (λ z. Joins n l z t) (sym one) g.joins)

      by-second : d ≡ b → k ≡ l
      by-second p = let one : x ≡ t = one-end d b x t f.first g.second p in one-cable n k l x y s fabric f.joins (subst (λ z. Joins n l z s) (sym one) (joins-back n l s t g.joins))

      of : ((first_end g.cabled.c ≡ a) × (second_end g.cabled.c ≡ b)) ⊎ ((second_end g.cabled.c ≡ a) × (first_end g.cabled.c ≡ b)) → IsEndOf d g.cabled.c → k ≡ l
      of (inl q) (inl p) = by-first (sym p ∙ q.0)
      of (inl q) (inr p) = by-second (sym p ∙ q.1)
      of (inr q) (inl p) = by-second (sym p ∙ q.1)
      of (inr q) (inr p) = by-first (sym p ∙ q.0)

      by : IsEndOf d g.cabled.c → k ≡ l
      by p = of g.cabled.ends p

  -- over a cable of the map
  record Below (i : ℕ) (d e : MapPort) : Type 0 where
    number : ℕ
    from : End
    to : End
    link : Link i number d e from to

  low : (i : ℕ) (d e : MapPort) → CabledBy m i d e → (d.v < length m.vertices) × (e.v < length m.vertices)
  low i d e c = by c.ends (ends-all (λ (x : MapPort). x.v < length m.vertices) m.cables i c.c rules.cabled_vertices c.there)
    where
      by : ((first_end c.c ≡ d) × (second_end c.c ≡ e)) ⊎ ((second_end c.c ≡ d) × (first_end c.c ≡ e)) → ((first_end c.c).v < length m.vertices) × ((second_end c.c).v < length m.vertices) → (d.v < length m.vertices) × (e.v < length m.vertices)
      by (inl p) l = (subst (λ (x : MapPort). x.v < length m.vertices) p.0 l.0, subst (λ (x : MapPort). x.v < length m.vertices) p.1 l.1)
      by (inr p) l = (subst (λ (x : MapPort). x.v < length m.vertices) p.0 l.1, subst (λ (x : MapPort). x.v < length m.vertices) p.1 l.0)

  below-cable : (i : ℕ) (d e : MapPort) → CabledBy m i d e → Below i d e
  below-cable i d e c =
      let both = low i d e c in
      let joined = (same.cables d.v e.v d.p e.p both.0 both.1).0 (number-cabled m i d e c) in
      let ports = joined-ports n (same.image d.v) (d.p +ℤ same.offset d.v) (same.image e.v) (e.p +ℤ same.offset e.v) joined in
      let x : End = record { v = same.image d.v; p = ports.from } in
      let y : End = record { v = same.image e.v; p = ports.to } in
      let has = far-joins n x y ports.cable in
      record {
        number = has.cable;
        from = x;
        to = y;
        link = record {
          cabled = c;
          joins = has.joins;
          first = record { in_map = both.0; vertex = refl; port = sym ports.is_from };
          second = record { in_map = both.1; vertex = refl; port = sym ports.is_to };
        };
      }

  -- over a cable of the fabric that is in the part
  record Above (k : ℕ) (x y : End) : Type 0 where
    number : ℕ
    from : MapPort
    to : MapPort
    link : Link number k from to x y

  port-over : (x : End) → IsInPart n host x.v → (d : MapPort) × Over d x
  port-over x part =
      let v : ℕ = same.origin x.v in (
        record { v = v; p = pos x.p -ℤ same.offset v },
        record { in_map = same.origin_in x.v part; vertex = sym (same.image_origin x.v part); port = taken-off x.p (same.offset v) },
      )

  above-cable : (k : ℕ) (x y : End) → Joins n k x y → IsInPart n host x.v → Above k x y
  above-cable k x y joins part =
      let d = port-over x part in
      let e = port-over y (part-step n host (record { cable = k; out = x; into = y }) fabric joins part) in
      let cable : far n (record { v = x.v; p = x.p }) ≡ Some (record { v = y.v; p = y.p }) = joins-far n k x y fabric joins in
      let joined : JoinedInFabric n (same.image d.0.v) (d.0.p +ℤ same.offset d.0.v) (same.image e.0.v) (e.0.p +ℤ same.offset e.0.v) =
      joined-moved n (same.image d.0.v) (same.image e.0.v) x.v y.v x.p y.p (d.0.p +ℤ same.offset d.0.v) (e.0.p +ℤ same.offset e.0.v) (sym d.1.vertex) (sym d.1.port) (sym e.1.vertex) (sym e.1.port) cable in
      let by = cabled-number m d.0 e.0 ((same.cables d.0.v e.0.v d.0.p e.0.p d.1.in_map e.1.in_map).1 joined) in
      record { number = by.0; from = d.0; to = e.0; link = record { cabled = by.1; joins = joins; first = d.1; second = e.1 } }

  -- a vertex that is a switch stands over one, and the other way round
  over-switch : (v : ℕ) → v < length m.vertices → is_switch_vertex m v ≡ true → (s : ℕ) × (same.image v ≡ Switch s)
  over-switch v l e = no-address (same.image v) (same.addresses v l ∙ switch-no-host (slice_get m.vertices v) e)

  under-switch : (v s : ℕ) → v < length m.vertices → same.image v ≡ Switch s → is_switch_vertex m v ≡ true
  under-switch v s l e = other-switch m.vertices v l (sym (same.addresses v l) ∙ ap address_of e)

  -- The bridge: a cable of the map and the one that it stands over.
  module _ (i0 k0 : ℕ) (a b : MapPort) (s t : End) (bridge : Link i0 k0 a b s t) where
    -- a way of the map beside it goes over the fabric
    record Led (v u : ℕ) : Type 0 where
      steps : List Step
      way : IsWay n (same.image v) steps (same.image u)
      beside : ¬ IsOneOf k0 (cables_on steps)

    led-edge : (v x y : ℕ) → Led v x → (i : ℕ) (d e : MapPort) → i ≢ i0 → CabledBy m i d e → d.v ≡ x → e.v ≡ y → Led v y
    led-edge v x y led i d e other c dx ey =
        let below = below-cable i d e c in
        let s0 : Step = record { cable = below.number; out = below.from; into = below.to } in
        let at : same.image x ≡ below.from.v = ap same.image (sym dx) ∙ sym below.link.first.vertex in
        let to : below.to.v ≡ same.image y = below.link.second.vertex ∙ ap same.image ey in
        record {
          steps = led.steps ++ s0 ∷ [];
          way = subst (IsWay n (same.image v) (led.steps ++ s0 ∷ [])) to (way-push n (same.image v) led.steps s0 (subst (IsWay n (same.image v) led.steps) at led.way) below.link.joins);
          beside = λ o. two below (one-of-either k0 led.steps (s0 ∷ []) o);
        }
      where
        two : (below : Below i d e) → IsOneOf k0 (cables_on led.steps) ⊎ IsOneOf k0 (below.number ∷ []) → ⊥
        two below (inl o) = led.beside o
        two below (inr (inl o)) = other (numbers-one i i0 below.number k0 d e a b below.from below.to s t below.link bridge (sym o))
        two below (inr (inr o)) = o

    led-cable : (v x y : ℕ) → Led v x → EdgeOf m.cables i0 x y → Led v y
    led-cable v x y led g = by g.ends
      where
        by : ((g.c.v ≡ x) × (g.c.w ≡ y)) ⊎ ((g.c.w ≡ x) × (g.c.v ≡ y)) → Led v y
        by (inl p) = led-edge v x y led g.number (first_end g.c) (second_end g.c) g.other (record { c = g.c; there = g.there; ends = inl (refl, refl) }) p.0 p.1
        by (inr p) = led-edge v x y led g.number (second_end g.c) (first_end g.c) g.other (record { c = g.c; there = g.there; ends = inr (refl, refl) }) p.0 p.1

    led-by : (v j u : ℕ) → Steps (map_edges (without m.cables i0)) v j u → Led v u
    led-by v j u start = record { steps = []; way = refl; beside = λ o. o }
    led-by v j u (step {m = k} {v = y} {w = z} p e) = led-cable v y z (led-by v k y p) (edge-without m.cables i0 y z e)

    -- and one of the fabric beside it goes over the map
    record Lies (v : ℕ) (z : Vertex) : Type 0 where
      at : ℕ
      in_map : at < length m.vertices
      over : z ≡ same.image at
      joined : Joined m i0 v at

    cable-edge : (i : ℕ) (d e : MapPort) → i ≢ i0 → CabledBy m i d e → Steps (map_edges (without m.cables i0)) d.v 1 e.v
    cable-edge i d e other c = by c.ends
      where
        edge : Steps (map_edges (without m.cables i0)) c.c.v 1 c.c.w
        edge = step start (without-edge m.cables i0 i c.c c.there other)

        back : Steps (map_edges (without m.cables i0)) c.c.w 1 c.c.v
        back = step start (edge-back (map_edges (without m.cables i0)) c.c.v c.c.w (without-edge m.cables i0 i c.c c.there other))

        by : ((first_end c.c ≡ d) × (second_end c.c ≡ e)) ⊎ ((second_end c.c ≡ d) × (first_end c.c ≡ e)) → Steps (map_edges (without m.cables i0)) d.v 1 e.v
        by (inl p) = subst (λ (x : MapPort). Steps (map_edges (without m.cables i0)) x.v 1 e.v) p.0 (subst (λ (x : MapPort). Steps (map_edges (without m.cables i0)) c.c.v 1 x.v) p.1 edge)
        by (inr p) = subst (λ (x : MapPort). Steps (map_edges (without m.cables i0)) x.v 1 e.v) p.0 (subst (λ (x : MapPort). Steps (map_edges (without m.cables i0)) c.c.w 1 x.v) p.1 back)

    lies-by : (ss : List Step) (v : ℕ) (x z : Vertex) → v < length m.vertices → x ≡ same.image v → IsInPart n host x → IsWay n x ss z → ¬ IsOneOf k0 (cables_on ss) → Lies v z
    lies-by [] v x z l over part way beside = record { at = v; in_map = l; over = sym way ∙ over; joined = record { count = 0; path = start } }
    lies-by (s1 ∷ ss) v x z l over part way beside =
        let own : IsInPart n host s1.out.v = subst (IsInPart n host) (sym way.1) part in
        let above = above-cable s1.cable s1.out s1.into way.0 own in
        let from : above.from.v ≡ v = one-image above.from.v v above.link.first.in_map l (sym above.link.first.vertex ∙ way.1 ∙ over) in
        let other : above.number ≢ i0 = λ e. beside (inl (sym (cables-one above.number i0 s1.cable k0 above.from above.to a b s1.out s1.into s t above.link bridge e))) in
        let edge = subst (λ k. Steps (map_edges (without m.cables i0)) k 1 above.to.v) from (cable-edge above.number above.from above.to other above.link.cabled) in
        let rest = lies-by ss above.to.v s1.into.v z above.link.second.in_map above.link.second.vertex (part-step n host s1 fabric way.0 own) way.2 (λ o. beside (inr o)) in
        record {
          at = rest.at;
          in_map = rest.in_map;
          over = rest.over;
          joined = record { count = rest.joined.count + 1; path = steps-join (map_edges (without m.cables i0)) v above.to.v rest.at 1 rest.joined.count edge rest.joined.path };
        }

  -- a vertex on the way to one of the part is in it
  part-back : (ss : List Step) (x z : Vertex) → IsWay n x ss z → IsInPart n host z → IsInPart n host x
  part-back [] x z way part = subst (IsInPart n host) (sym way) part
  part-back (s ∷ ss) x z way part =
      let into = part-back ss s.into.v z way.2 part in
      subst (IsInPart n host) way.1 (part-step n host (record { cable = s.cable; out = s.into; into = s.out }) fabric (joins-back n s.cable s.out s.into way.0) into)

  -- outside is cut off
  cut-by : (v : ℕ) → v < length m.vertices → (o : OutsideBy m v) (a b : MapPort) → CabledBy m o.number a b → b.v ≡ o.from → is_switch_vertex m a.v ≡ true → is_switch_vertex m b.v ≡ true → IsCutOff n (same.image v)
  cut-by v l o a b c at sa sb =
      let below = below-cable o.number a b c in
      let k0 = below.number in
      let x = below.from in
      let y = below.to in
      let first = over-switch a.v below.link.first.in_map sa in
      let second = over-switch b.v below.link.second.in_map sb in
      let led = led-by o.number k0 a b x y below.link o.from o.joined.count v o.joined.path in
      let start_at : same.image o.from ≡ y.v = ap same.image (sym at) ∙ sym below.link.second.vertex in
      record {
        bridge = k0;
        from = x;
        to = y;
        joins = below.link.joins;
        s = first.0;
        t = second.0;
        from_switch = below.link.first.vertex ∙ first.1;
        to_switch = below.link.second.vertex ∙ second.1;
        steps = led.steps;
        way = subst (λ z. IsWay n z led.steps (same.image v)) start_at led.way;
        beside = led.beside;
        hostless = λ h ss way. by below h ss way (is-one k0 (cables_on ss));
      }
    where
      by : (below : Below o.number a b) (h : ℕ) (ss : List Step) → IsWay n below.to.v ss (Host h) → IsOneOf below.number (cables_on ss) ⊎ (¬ IsOneOf below.number (cables_on ss)) → IsOneOf below.number (cables_on ss)
      by below h ss way (inl is) = is
      by below h ss way (inr beside) =
          let in_part : IsInPart n host below.to.v = subst (IsInPart n host) (sym below.link.second.vertex) (same.image_in b.v below.link.second.in_map) in
          let lies = lies-by o.number below.number a b below.from below.to below.link ss b.v below.to.v (Host h) below.link.second.in_map below.link.second.vertex in_part way beside in
          let joined : Joined m o.number o.from lies.at = subst (λ q. Joined m o.number q lies.at) at lies.joined in
          absurd (o.hostless lies.at h joined (sym (same.addresses lies.at lies.in_map) ∙ ap address_of (sym lies.over)))

  outside-cut : (v : ℕ) → v < length m.vertices → is_outside m v ≡ true → IsCutOff n (same.image v)
  outside-cut v l e = by (outside-means m v rules e)
    where
      by : OutsideBy m v → IsCutOff n (same.image v)
      by o = of o.is_end
        where
          of : (o.c.v ≡ o.from) ⊎ (o.c.w ≡ o.from) → IsCutOff n (same.image v)
          of (inl p) = cut-by v l o (second_end o.c) (first_end o.c) (record { c = o.c; there = o.there; ends = inr (refl, refl) }) p o.second_switch o.first_switch
          of (inr p) = cut-by v l o (first_end o.c) (second_end o.c) (record { c = o.c; there = o.there; ends = inl (refl, refl) }) p o.first_switch o.second_switch

  -- cut off is outside
  cut-outside : (v : ℕ) → v < length m.vertices → IsCutOff n (same.image v) → is_outside m v ≡ true
  cut-outside v l cut =
      let in_part : IsInPart n host cut.to.v = part-back cut.steps cut.to.v (same.image v) cut.way (same.image_in v l) in
      let own : IsInPart n host cut.from.v = part-step n host (record { cable = cut.bridge; out = cut.to; into = cut.from }) fabric (joins-back n cut.bridge cut.from cut.to cut.joins) in_part in
      let above = above-cable cut.bridge cut.from cut.to cut.joins own in
      let sa = under-switch above.from.v cut.s above.link.first.in_map (sym above.link.first.vertex ∙ cut.from_switch) in
      let sb = under-switch above.to.v cut.t above.link.second.in_map (sym above.link.second.vertex ∙ cut.to_switch) in
      let lies = lies-by above.number cut.bridge above.from above.to cut.from cut.to above.link cut.steps above.to.v cut.to.v (same.image v) above.link.second.in_map above.link.second.vertex in_part cut.way cut.beside in
      let here : lies.at ≡ v = one-image lies.at v lies.in_map l (sym lies.over) in
      let joined : Joined m above.number above.to.v v = subst (Joined m above.number above.to.v) here lies.joined in
      means-outside m v rules (of above sa sb joined above.link.cabled.ends)
    where
      none : (above : Above cut.bridge cut.from cut.to) (u h : ℕ) → Joined m above.number above.to.v u → host_of_vertex m u ≡ Some h → ⊥
      none above u h joined e =
          let led = led-by above.number cut.bridge above.from above.to cut.from cut.to above.link above.to.v joined.count u joined.path in
          let way : IsWay n cut.to.v led.steps (same.image u) = subst (λ z. IsWay n z led.steps (same.image u)) (sym above.link.second.vertex) led.way in
          let is : same.image u ≡ Host h = the-address (same.image u) h (same.addresses u (host-below m.vertices u h e) ∙ e) in
          led.beside (cut.hostless h led.steps (subst (IsWay n cut.to.v led.steps) is way))

      of : (above : Above cut.bridge cut.from cut.to) → is_switch_vertex m above.from.v ≡ true → is_switch_vertex m above.to.v ≡ true → Joined m above.number above.to.v v
          → ((first_end above.link.cabled.c ≡ above.from) × (second_end above.link.cabled.c ≡ above.to)) ⊎ ((second_end above.link.cabled.c ≡ above.from) × (first_end above.link.cabled.c ≡ above.to)) → OutsideBy m v
      of above sa sb joined (inl p) = record {
        number = above.number;
        c = above.link.cabled.c;
        there = above.link.cabled.there;
        first_switch = subst (λ (d : MapPort). is_switch_vertex m d.v ≡ true) (sym p.0) sa;
        second_switch = subst (λ (d : MapPort). is_switch_vertex m d.v ≡ true) (sym p.1) sb;
        from = above.to.v;
        is_end = inr (ap (λ (d : MapPort). d.v) p.1);
        joined = joined;
        hostless = none above;
      }
      of above sa sb joined (inr p) = record {
        number = above.number;
        c = above.link.cabled.c;
        there = above.link.cabled.there;
        first_switch = subst (λ (d : MapPort). is_switch_vertex m d.v ≡ true) (sym p.1) sb;
        second_switch = subst (λ (d : MapPort). is_switch_vertex m d.v ≡ true) (sym p.0) sa;
        from = above.to.v;
        is_end = inl (ap (λ (d : MapPort). d.v) p.1);
        joined = joined;
        hostless = none above;
      }

pub outside_is_cut_off : OutsideIsCutOff
outside_is_cut_off n host m f rules same v l = (outside-cut n host m f rules same v l, cut-outside n host m f rules same v l)

-- each number below stands at its place
get-left : (xs : List ℕ) (x v : ℕ) → v < length xs → slice_get (xs ++ x ∷ []) v ≡ slice_get xs v
get-left [] x v l = absurd (omega (arith, l))
get-left (y ∷ ys) x zero l = refl
get-left (y ∷ ys) x (suc v) l = get-left ys x v (omega (arith, l))

get-last : (xs : List ℕ) (x v : ℕ) → v ≡ length xs → slice_get (xs ++ x ∷ []) v ≡ Some x
get-last [] x zero l = refl
get-last [] x (suc v) l = absurd (omega (arith, l))
get-last (y ∷ ys) x zero l = absurd (omega (arith, l))
get-last (y ∷ ys) x (suc v) l = get-last ys x v (omega (arith, l))

number-at : (k v : ℕ) → v < k → slice_get (numbers_below k) v ≡ Some v
number-at zero v l = absurd (omega (arith, l))
number-at (suc k) v l = by (cases_order v k) (number-at k v)
  where
    many : length (numbers_below k) ≡ k
    many = length-numbers k

    by : (v ≡ k) ⊎ ((v < k) ⊎ (k < v)) → (v < k → slice_get (numbers_below k) v ≡ Some v) → slice_get (numbers_below k ++ k ∷ []) v ≡ Some v
    by (inl e) rest = get-last (numbers_below k) k v (e ∙ sym many) ∙ ap Some (sym e)
    by (inr (inl b)) rest = get-left (numbers_below k) k v (subst (λ n. v < n) (sym many) b) ∙ rest b
    by (inr (inr b)) rest = absurd (omega (arith, b, l))

-- the mark of a vertex
mark-at : (m : NetMap) (v : ℕ) → v < length m.vertices → slice_get (core_of m) v ≡ Some (not (is_outside m v))
mark-at m v l = get-map (λ k. not (is_outside m k)) (numbers_below (length m.vertices)) v v (number-at (length m.vertices) v l)

marked : (b : Bool) (o : Option Bool) (P : Type 0) → o ≡ Some (not b) → ((b ≡ true → P) × (P → b ≡ true)) → ((o ≡ Some false → P) × (P → o ≡ Some false))
marked true o P e both = (λ f. both.0 refl, λ p. e)
marked false o P e both = (λ f. (let bad : Some true ≡ Some false = sym e ∙ f in cc), λ p. absurd (true≢false (sym (both.1 p))))

pub marks_are_right : MarksAreRight
marks_are_right n commands host m f p same v l =
    let a = mapping-of n commands host Complete m f p in
    let rules : IsMap m = made_map_is_map host a.depth a.tries a.before a.after a.journal m Complete a.can a.mapped in
    let cores : m.core ≡ core_of m = ap (λ (x : NetMap). x.core) a.made.marked ∙ sym (ap core_of a.made.marked) in
    let now : Network = fabric_of p.session.world in
    let fair : IsFabric now = now_is_fabric p.session.world.links.cables (run_keeps_world n commands p.out p.session f p.over p.run).history in
    marked (is_outside m v) (slice_get m.core v) (IsCutOff now (same.image v)) (ap (λ cs. slice_get cs v) cores ∙ mark-at m v l) (outside_is_cut_off now host m fair rules same v l)
