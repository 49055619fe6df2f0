-- A vertex of the map that stands over what is cut off is outside.
use Rattle.std.proofs.Common.{◌≡◌, ◌≢◌, ◌+◌, ℕ, List, [], ◌∷◌, ◌++◌, length, true, false, Some, sym, ◌∙◌, subst, ap, true≢false, refl, arith, ◌⊎◌, inl, inr}
use Rattle.std.specs.Prelude.{ℤ, pos}
use Rattle.net_defs.specs.declared.vertex.Vertex.{Vertex}
use Rattle.net_defs.specs.declared.vertex.Vertex.TheVariants.{Host, Switch}
use Rattle.net_defs.specs.declared.vertex.End.{End}
use Rattle.net_defs.specs.Network.{Network}
use Rattle.net_defs.specs.Route.{host_port}
use Rattle.journal_defs.specs.declared.entry.Entry.{Entry}
use Rattle.journal_defs.specs.Tree.{Node, IsNode}
use Rattle.journal_defs.specs.Tree.Node.{Mapper, Reached}
use Rattle.journal_defs.specs.Replicates.{Replicates}
use Rattle.journal_defs.specs.Replicates.Replicates.{same}
use Rattle.journal_defs.specs.Truth.{standing}
use Rattle.journal_defs.specs.Edges.{IsEdge, Steps}
use Rattle.journal_defs.specs.Edges.Steps.{start, step}
use Rattle.journal_defs.specs.Part.{IsInPart}
use Rattle.journal_defs.proofs.Reach.{edge-back, steps-join}
use Rattle.journal_defs.proofs.Standing.{leads-to}
use Rattle.map_defs.specs.declared.vertex.MapCable.{MapCable}
use Rattle.map_defs.specs.NetMap.{NetMap, MapPort, first_end, second_end, map_edges, host_of_vertex, is_switch_vertex}
use Rattle.map_defs.specs.Quotient.{IsOfVertex}
use Rattle.map_defs.specs.Core.{without, is_outside}
use Rattle.map_laws.proofs.Least.{vertex-one}
use Rattle.map_laws.proofs.Closing.{in-part}
use Rattle.circ_laws.proofs.Lifts.{Crossed, Lift}
use Rattle.circ_laws.proofs.Tracing.{node-switch-circuit, switch-apart, trace-of}
use Rattle.circ_defs.specs.PathList.{Ear}
use Rattle.circ_defs.specs.Cores.{IsCore, IsCutOff}
use Rattle.circ_defs.specs.Ways.{IsOneOf, IsStep, IsWay, Joins, Step, cables_on}
use Rattle.circ_defs.specs.Circuit.{are_apart}
use Rattle.circ_defs.proofs.Cables.{SameCable, joins-back, one-cable, same-cable}
use Rattle.circ_defs.proofs.Numbers.{apart-parts, is-one}
use Rattle.circ_defs.proofs.Sides.{host-kept, own-part, part-step, stays-off}
use Rattle.circ_defs.proofs.Ways.{one-of-either, turned_round, way-push}
use Rattle.circ_defs.proofs.Cables.SameCable.{one_way, other_way}
use Rattle.circ_laws.proofs.Ends.{CableOver, CabledBy, FabricCable, FabricEnd, IsEndOf, OverEnd, Setting, cable-link, core-number, first-of, host-over, link-cable, number-cabled, one-end, one-number, one-over, one-port, over-switch, rules}
use Rattle.circ_laws.proofs.Sides.{EdgeOf, Joined, OutsideBy, edge-without, means-outside, without-edge}

record-ends : (m : NetMap) (c : MapCable) (d e : MapPort) (v w k : ℕ) → ((first_end c ≡ d) × (second_end c ≡ e)) ⊎ ((second_end c ≡ d) × (first_end c ≡ e)) → d.v ≡ v → e.v ≡ w → IsEdge (map_edges (without m.cables k)) c.v c.w → IsEdge (map_edges (without m.cables k)) v w
record-ends m c d e v w k (inl p) a b edge = subst (λ x. IsEdge (map_edges (without m.cables k)) x w) (ap (λ (y : MapPort). y.v) p.0 ∙ a) (subst (IsEdge (map_edges (without m.cables k)) c.v) (ap (λ (y : MapPort). y.v) p.1 ∙ b) edge)
record-ends m c d e v w k (inr p) a b edge = subst (λ x. IsEdge (map_edges (without m.cables k)) x w) (ap (λ (y : MapPort). y.v) p.0 ∙ a) (subst (IsEdge (map_edges (without m.cables k)) c.w) (ap (λ (y : MapPort). y.v) p.1 ∙ b) (edge-back (map_edges (without m.cables k)) c.v c.w edge))

module _ (n : Network) (host depth : ℕ) (j : List Entry) (es : List Ear) (m : NetMap) (s : Setting n host depth j es m) where
  abbrev OfVertex : Node → ℕ → ℤ → Type 0
  OfVertex u v k = IsOfVertex host j s.quotient.least u v k

  -- a cable of the map with the cable of the fabric over which it stands
  pub record Standing (k : ℕ) (b : ℕ) (d e : End) : Type 0 where
    pub from : MapPort
    pub to : MapPort
    pub cabled : CabledBy m k from to
    pub joins : Joins n b d e
    pub from_end : FabricEnd n host depth j es m s from d
    pub to_end : FabricEnd n host depth j es m s to e

  -- two cables of the fabric under one cable of the map are one
  one-under : (k b l : ℕ) (d e x y : End) → Standing k b d e → (p q : MapPort) → CabledBy m k p q → Joins n l x y → FabricEnd n host depth j es m s p x → l ≡ b
  one-under k b l d e x y c p q g joins over = by (first-of m k p q g) c.cabled.ends
    where
      same-c : g.c ≡ c.cabled.c
      same-c = let two : Some g.c ≡ Some c.cabled.c = sym g.there ∙ c.cabled.there in cc

      at_from : p ≡ c.from → l ≡ b
      at_from e = let one : x ≡ d = one-end n host depth j es m s c.from x d (subst (λ r. FabricEnd n host depth j es m s r x) e over) c.from_end in one-cable n l b d y _ s.fabric (subst (λ z. Joins n l z y) one joins) c.joins

      at_to : p ≡ c.to → l ≡ b
      at_to r = let one : x ≡ e = one-end n host depth j es m s c.to x e (subst (λ r. FabricEnd n host depth j es m s r x) r over) c.to_end in one-cable n l b e y d s.fabric (subst (λ z. Joins n l z y) one joins) (joins-back n b d e c.joins)

      by : IsEndOf p g.c → ((first_end c.cabled.c ≡ c.from) × (second_end c.cabled.c ≡ c.to)) ⊎ ((second_end c.cabled.c ≡ c.from) × (first_end c.cabled.c ≡ c.to)) → l ≡ b
      by (inl a) (inl r) = at_from (sym a ∙ ap first_end same-c ∙ r.0)
      by (inl a) (inr r) = at_to (sym a ∙ ap first_end same-c ∙ r.1)
      by (inr a) (inl r) = at_to (sym a ∙ ap second_end same-c ∙ r.1)
      by (inr a) (inr r) = at_from (sym a ∙ ap second_end same-c ∙ r.0)

  -- a way of the tree that doesn't go over that cable is a path of the map without it
  pub chain-joined : (k b : ℕ) (d e : End) (u w : Node) (x z : Vertex) (ss : List Step) (v y : ℕ) (i l : ℤ) → Standing k b d e → IsWay n x ss z → Lift n host j u ss w → ¬ IsOneOf b (cables_on ss) → IsNode j u → OfVertex u v i → OfVertex w y l → Joined m k v y
  chain-joined k b d e u w x z [] v y i l c way lift beside node a g =
      let one : v ≡ y = vertex-one host j m s.quotient u w v y i l (pos 0) a g (subst (λ q. Replicates host j u q (pos 0)) lift (same node)) in
      record { count = 0; path = subst (Steps (map_edges (without m.cables k)) v 0) one start }
  chain-joined k b d e u w x z (t ∷ ss) v y i l c way lift beside node a g =
      let mid = lift.0 in
      let there = leads-to j u mid lift.1.turn lift.1.port lift.1.leads in
      let h = s.quotient.covered mid there in
      let over = link-cable n host depth j es m s u mid t.out t.into v h.vertex i h.offset lift.1 a h.is_of in
      let other : over.number ≢ k = λ p. beside (inl (sym (one-under k b t.cable d e t.out t.into c over.from over.to (subst (λ r. CabledBy m r over.from over.to) p over.cabled) way.0 over.from_end))) in
      let edge = record-ends m over.cabled.c over.from over.to v h.vertex k over.cabled.ends over.from_is over.to_is (without-edge m.cables k over.number over.cabled.c over.cabled.there other) in
      let rest = chain-joined k b d e mid w t.into.v z ss h.vertex y h.offset l c way.2 lift.2 (λ q. beside (inr q)) there h.is_of g in
      record { count = rest.count + 1; path = steps-join (map_edges (without m.cables k)) v h.vertex y 1 rest.count (step start edge) rest.path }

  -- where the tree goes over a switch bridge out of the core
  pub record Leaving (t : Step) (a c : Node) : Type 0 where
    pub is_step : IsStep n t
    pub crossed : Crossed n host j a t.out c t.into
    pub core : IsCore n host t.out.v
    pub cut : IsCutOff n t.into.v

  -- a way beyond that bridge
  record WayTo (bridge : ℕ) (x : Vertex) (v : ℕ) : Type 0 where
    pub at : End
    pub over : OverEnd n host depth j es m s v at
    pub steps : List Step
    pub way : IsWay n x steps at.v
    pub beside : ¬ IsOneOf bridge (cables_on steps)

  module _ (t : Step) (a c : Node) (out : Leaving t a c) where
    -- the cable is the bridge, crossed away from the hosts
    is_bridge : t.cable ≡ out.cut.bridge
    is_bridge = by (is-one out.cut.bridge (t.cable ∷ []))
      where
        by : IsOneOf out.cut.bridge (t.cable ∷ []) ⊎ (¬ IsOneOf out.cut.bridge (t.cable ∷ [])) → t.cable ≡ out.cut.bridge
        by (inl (inl e)) = sym e
        by (inl (inr e)) = absurd e
        by (inr e) = absurd (out.core.kept (stays-off n t.into.v t.out.v (turned_round t ∷ []) out.cut (joins-back n t.cable t.out t.into out.is_step, refl, refl) e))

    outward : (t.out ≡ out.cut.from) × (t.into ≡ out.cut.to)
    outward = by (same-cable n out.cut.bridge t.out t.into out.cut.from out.cut.to (subst (λ k. Joins n k t.out t.into) is_bridge out.is_step) out.cut.joins)
      where
        near : IsCutOff n out.cut.to.v
        near = record { bridge = out.cut.bridge; from = out.cut.from; to = out.cut.to; joins = out.cut.joins; s = out.cut.s; t = out.cut.t; from_switch = out.cut.from_switch; to_switch = out.cut.to_switch; steps = []; way = refl; beside = λ e. e; hostless = out.cut.hostless }

        by : SameCable t.out t.into out.cut.from out.cut.to → (t.out ≡ out.cut.from) × (t.into ≡ out.cut.to)
        by (one_way p q) = (p, q)
        by (other_way p q) = absurd (out.core.kept (subst (IsCutOff n) (ap (λ (e : End). e.v) (sym p)) near))

    -- beyond it the map goes on without the bridge, and finds no host
    module _ (v w : ℕ) (over : CableOver n host depth j es m s t.out t.into v w) where
      here : Standing over.number t.cable t.out t.into
      here = record { from = over.from; to = over.to; cabled = over.cabled; joins = out.is_step; from_end = over.from_end; to_end = over.to_end }

      -- no other cable of the map stands over the bridge
      none-other : (l : ℕ) (p q : MapPort) → l ≢ over.number → CabledBy m l p q → FabricEnd n host depth j es m s p out.cut.from → ⊥
      none-other l p q other g at =
          let own : FabricEnd n host depth j es m s over.from out.cut.from = subst (FabricEnd n host depth j es m s over.from) outward.0 over.from_end in
          let core : IsCore n host at.at.v = subst (IsCore n host) (ap (λ (e : End). e.v) outward.0 ∙ at.vertex) out.core in
          let vertex : p.v ≡ over.from.v = core-number n host depth j es m s p.v over.from.v at.at own.at at.over own.over (sym at.vertex ∙ own.vertex) core in
          let port : p ≡ over.from = one-port n host depth j es m s p over.from out.cut.from vertex at own in
          other (one-number m.cables l over.number g.c over.cabled.c p (rules n host depth j es m s).ports_once g.there over.cabled.there (first-of m l p q g) (subst (λ r. IsEndOf r over.cabled.c) (sym port) (first-of m over.number over.from over.to over.cabled)))

      cabled-back : (l : ℕ) (p q : MapPort) → CabledBy m l p q → CabledBy m l q p
      cabled-back l p q g = record { c = g.c; there = g.there; ends = by g.ends }
        where
          by : ((first_end g.c ≡ p) × (second_end g.c ≡ q)) ⊎ ((second_end g.c ≡ p) × (first_end g.c ≡ q)) → ((first_end g.c ≡ q) × (second_end g.c ≡ p)) ⊎ ((second_end g.c ≡ q) × (first_end g.c ≡ p))
          by (inl x) = inr (x.1, x.0)
          by (inr x) = inl (x.1, x.0)

      -- a way goes on over another cable of the map
      goes-on : (x y : ℕ) (p q : MapPort) (l : ℕ) → p.v ≡ x → q.v ≡ y → l ≢ over.number → CabledBy m l p q → WayTo out.cut.bridge out.cut.to.v x → WayTo out.cut.bridge out.cut.to.v y
      goes-on x y p q l e g other c r = by (is-one out.cut.bridge (link.cable ∷ []))
        where
          link : FabricCable n host depth j es m s p q
          link = cable-link n host depth j es m s p q (number-cabled m l p q c)

          start_at : r.at ≡ link.from_end.at
          start_at = one-over n host depth j es m s x r.at link.from_end.at r.over (subst (λ i. OverEnd n host depth j es m s i link.from_end.at) e link.from_end.over)

          same : SameCable link.from link.to out.cut.from out.cut.to → ⊥
          same (one_way f h) = none-other l p q other c (subst (FabricEnd n host depth j es m s p) f link.from_end)
          same (other_way f h) = none-other l q p other (cabled-back l p q c) (subst (FabricEnd n host depth j es m s q) h link.to_end)

          step_over : Step
          step_over = record { cable = link.cable; out = link.from; into = link.to }

          by : IsOneOf out.cut.bridge (link.cable ∷ []) ⊎ (¬ IsOneOf out.cut.bridge (link.cable ∷ [])) → WayTo out.cut.bridge out.cut.to.v y
          by (inl (inl i)) = absurd (same (same-cable n out.cut.bridge link.from link.to out.cut.from out.cut.to (subst (λ k. Joins n k link.from link.to) (sym i) link.joins) out.cut.joins))
          by (inl (inr i)) = absurd i
          by (inr i) = record {
            at = link.to_end.at;
            over = subst (λ z. OverEnd n host depth j es m s z link.to_end.at) g link.to_end.over;
            steps = r.steps ++ step_over ∷ [];
            way = subst (IsWay n out.cut.to.v (r.steps ++ step_over ∷ [])) link.to_end.vertex (way-push n out.cut.to.v r.steps step_over (subst (IsWay n out.cut.to.v r.steps) (ap (λ (z : End). z.v) start_at ∙ sym link.from_end.vertex) r.way) link.joins);
            beside = λ o. two (one-of-either out.cut.bridge r.steps (step_over ∷ []) o);
          }
            where
              two : IsOneOf out.cut.bridge (cables_on r.steps) ⊎ IsOneOf out.cut.bridge (link.cable ∷ []) → ⊥
              two (inl o) = r.beside o
              two (inr o) = i o

      edge-on : (x y : ℕ) → EdgeOf m.cables over.number x y → WayTo out.cut.bridge out.cut.to.v x → WayTo out.cut.bridge out.cut.to.v y
      edge-on x y g r = by g.ends
        where
          by : ((g.c.v ≡ x) × (g.c.w ≡ y)) ⊎ ((g.c.w ≡ x) × (g.c.v ≡ y)) → WayTo out.cut.bridge out.cut.to.v y
          by (inl p) = goes-on x y (first_end g.c) (second_end g.c) g.number p.0 p.1 g.other (record { c = g.c; there = g.there; ends = inl (refl, refl) }) r
          by (inr p) = goes-on x y (second_end g.c) (first_end g.c) g.number p.0 p.1 g.other (record { c = g.c; there = g.there; ends = inr (refl, refl) }) r

      ways : (i x : ℕ) → Steps (map_edges (without m.cables over.number)) w i x → WayTo out.cut.bridge out.cut.to.v x
      ways i x (start) = record {
        at = over.to_end.at;
        over = subst (λ z. OverEnd n host depth j es m s z over.to_end.at) over.to_is over.to_end.over;
        steps = [];
        way = ap (λ (e : End). e.v) (sym outward.1) ∙ over.to_end.vertex;
        beside = λ o. o;
      }
      ways i x (step {m = k} {v = y} {w = z} p e) = edge-on y z (edge-without m.cables over.number y z e) (ways k y p)

      pub no-host : (x h : ℕ) → Joined m over.number w x → host_of_vertex m x ≡ Some h → ⊥
      no-host x h p e =
          let r = ways p.count x p.path in
          let own = host-over n host depth j es m s x h r.at r.over e in
          r.beside (out.cut.hostless h r.steps (subst (IsWay n out.cut.to.v r.steps) (ap (λ (z : End). z.v) own) r.way))

      switch-at : (p : MapPort) (x : End) (b : ℕ) → FabricEnd n host depth j es m s p x → x.v ≡ Switch b → is_switch_vertex m p.v ≡ true
      switch-at p x b r e = over-switch n host depth j es m s p.v b r.at r.over (sym r.vertex ∙ e)

      first_switch : is_switch_vertex m over.from.v ≡ true
      first_switch = switch-at over.from t.out out.cut.s over.from_end (ap (λ (e : End). e.v) outward.0 ∙ out.cut.from_switch)

      second_switch : is_switch_vertex m over.to.v ≡ true
      second_switch = switch-at over.to t.into out.cut.t over.to_end (ap (λ (e : End). e.v) outward.1 ∙ out.cut.to_switch)

      -- so what lies beyond it is outside
      pub beyond : (x : ℕ) → Joined m over.number w x → is_outside m x ≡ true
      beyond x p = means-outside m x (rules n host depth j es m s) (by over.cabled.ends)
        where
          by : ((first_end over.cabled.c ≡ over.from) × (second_end over.cabled.c ≡ over.to)) ⊎ ((second_end over.cabled.c ≡ over.from) × (first_end over.cabled.c ≡ over.to)) → OutsideBy m x
          by (inl e) = record { number = over.number; c = over.cabled.c; there = over.cabled.there; first_switch = subst (λ (d : MapPort). is_switch_vertex m d.v ≡ true) (sym e.0) first_switch; second_switch = subst (λ (d : MapPort). is_switch_vertex m d.v ≡ true) (sym e.1) second_switch; from = w; is_end = inr (ap (λ (d : MapPort). d.v) e.1 ∙ over.to_is); joined = p; hostless = no-host }
          by (inr e) = record { number = over.number; c = over.cabled.c; there = over.cabled.there; first_switch = subst (λ (d : MapPort). is_switch_vertex m d.v ≡ true) (sym e.1) second_switch; second_switch = subst (λ (d : MapPort). is_switch_vertex m d.v ≡ true) (sym e.0) first_switch; from = w; is_end = inl (ap (λ (d : MapPort). d.v) e.1 ∙ over.to_is); joined = p; hostless = no-host }

  -- A way of the tree over different cables from the core to a number that isn't outside stays in the core.
  pub stays-core : (a u : Node) (x z : Vertex) (ss : List Step) (v : ℕ) (k : ℤ) → IsWay n x ss z → Lift n host j a ss u → are_apart (cables_on ss) ≡ true → IsNode j a → IsCore n host x → OfVertex u v k → is_outside m v ≡ false → IsCore n host z
  stays-core a u x z [] v k way lift apart node core of inside = subst (IsCore n host) way core
  stays-core a u x z (t ∷ ss) v k way lift apart node core of inside =
      let c = lift.0 in
      let there = leads-to j a c lift.1.turn lift.1.port lift.1.leads in
      let from : IsCore n host t.out.v = subst (IsCore n host) (sym way.1) core in
      let parts = apart-parts t.cable (cables_on ss) apart in
      let g = s.quotient.covered a node in
      let h = s.quotient.covered c there in
      let over = link-cable n host depth j es m s a c t.out t.into g.vertex h.vertex g.offset h.offset lift.1 g.is_of h.is_of in
      let bridge : Standing over.number t.cable t.out t.into = record { from = over.from; to = over.to; cabled = over.cabled; joins = way.0; from_end = over.from_end; to_end = over.to_end } in
      let p = chain-joined over.number t.cable t.out t.into c u t.into.v z ss h.vertex v h.offset k bridge way.2 lift.2 parts.0 there h.is_of of in
      let kept : ¬ IsCutOff n t.into.v = λ cut. true≢false (sym (beyond t a c (record { is_step = way.0; crossed = lift.1; core = from; cut = cut }) g.vertex h.vertex over v p) ∙ inside) in
      stays-core c u t.into.v z ss v k way.2 lift.2 parts.1 there (record { in_part = part-step n host t s.fabric way.0 from.in_part; kept = kept }) of inside

  -- so a number that isn't outside stands over the core
  pub inside-core : (v : ℕ) (a : End) → OverEnd n host depth j es m s v a → is_outside m v ≡ false → IsCore n host a.v
  inside-core v a o inside = by o.node a.v refl refl
    where
      least : IsNode j o.node
      least = (s.quotient.each_least v o.node o.there).node

      own : OfVertex o.node v (pos 0)
      own = record { least_node = o.node; there = o.there; one_class = same least }

      part : (u : Node) → o.node ≡ u → IsInPart n host a.v
      part Mapper e =
          let two : Some a ≡ Some (host_port host) = sym o.stands ∙ ap (standing n host) e in
          let one : a ≡ host_port host = cc in
          subst (λ (x : End). IsInPart n host x.v) (sym one) (own-part n host)
      part (Reached w) e = in-part n host (Reached w) a (ap (standing n host) (sym e) ∙ o.stands)

      by : (u : Node) (x : Vertex) → o.node ≡ u → a.v ≡ x → IsCore n host a.v
      by u (Host h) e g = record { in_part = part u e; kept = subst (λ y. ¬ IsCutOff n y) (sym g) (host-kept n h) }
      by Mapper (Switch b) e g =
          let two : Some a ≡ Some (host_port host) = sym o.stands ∙ ap (standing n host) e in
          let one : a ≡ host_port host = cc in
          let three : Switch b ≡ Host host = sym g ∙ ap (λ (x : End). x.v) one in
          cc
      by (Reached w) (Switch b) e g =
          let node : IsNode j (Reached w) = subst (IsNode j) e least in
          let is : standing n host (Reached w) ≡ Some a = ap (standing n host) (sym e) ∙ o.stands in
          let told = node-switch-circuit n host j w a b s.tree.circuit node is g in
          let r = trace-of n host depth j (length w) w a s.fabric s.tree node is (omega arith) in
          let apart = ap are_apart r.cables ∙ switch-apart n host j w a s.tree.circuit told is in
          stays-core Mapper (Reached w) (Host host) a.v r.steps v (pos 0) r.way r.lift apart refl (record { in_part = own-part n host; kept = host-kept n host }) (subst (λ u. OfVertex u v (pos 0)) e own) inside
