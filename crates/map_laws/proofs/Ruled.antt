-- The map of a journal keeps the rules of maps, where the journal is true of a fabric.
use Rattle.std.proofs.Common.{◌≡◌, ◌<◌, ℕ, List, map, length, true, Some, sym, ◌∙◌, subst, ap, arith}
use Rattle.std.specs.Prelude.{ℤ, pos, ◌+ℤ◌, ◌-ℤ◌, neg_ℤ, slice_get}
use Rattle.std.specs.List.{AllByRecursion}
use Rattle.std.proofs.lemmas.Int.{ints}
use Rattle.std.proofs.lemmas.List.{length-map}
use Rattle.net_defs.specs.declared.vertex.End.{End}
use Rattle.net_defs.specs.Network.{Network, IsFabric, Apart, has_port}
use Rattle.net_defs.specs.Route.{host_port}
use Rattle.net_defs.specs.Turn.{IsTurn}
use Rattle.journal_defs.specs.declared.entry.Entry.{Entry}
use Rattle.journal_defs.specs.Counting.{numbers_below}
use Rattle.journal_defs.specs.Tree.{Node, Leads, host_of}
use Rattle.journal_defs.specs.Replicates.{Replicates}
use Rattle.journal_defs.specs.Replicates.Replicates.{turned as other_way, along, one_host, behind}
use Rattle.journal_defs.specs.Truth.{IsTrueWhereFound, standing}
use Rattle.net_defs.proofs.Cabling.{host-port}
use Rattle.journal_defs.proofs.Members.{IsMember, member-place}
use Rattle.journal_defs.proofs.Standing.{host-stands, stand, same_end-of, leads-crosses, port-below, turn-between, offset_is_unique}
use Rattle.map_defs.specs.declared.vertex.MapCable.{MapCable}
use Rattle.map_defs.specs.NetMap.{NetMap, MapPort, IsMap, IsCabled, IsNearPort, AreNearPorts, first_end, second_end, map_ends, host_of_vertex, switches_of}
use Rattle.map_defs.specs.NetMap.IsCabled.{forth, back}
use Rattle.map_defs.specs.Quotient.{IsQuotient}
use Rattle.map_laws.proofs.Truly.{port-there}
use Rattle.map_laws.proofs.Crossing.{below-ports}
use Rattle.map_laws.specs.Certificate.{QuotientIsMap}
use Rattle.map_laws.proofs.Least.{vertex-below, below-vertex, vertex-host, class-one, below-get, get-map}
use Rattle.map_laws.proofs.Listed.{host-below, hosts-apart, ports-apart, all-ends, near-ports, switches-numbered}

-- the vertex and port of the fabric that an end of a cable stands for
record RealEnd (n : Network) (host : ℕ) (us : List Node) (d : MapPort) : Type 0 where
  pub node : Node
  pub there : slice_get us d.v ≡ Some node
  pub at : End
  pub stands : standing n host node ≡ Some at
  pub port : ℕ
  pub sum : pos port ≡ pos at.p +ℤ d.p
  pub has : has_port n (record { v = at.v; p = port }) ≡ true

real_sum : (a p o : ℤ) (l c d : ℕ) → a ≡ p +ℤ o → pos l ≡ pos c +ℤ p → pos c ≡ pos d +ℤ o → pos l ≡ pos d +ℤ a
real_sum a p o l c d e f g = omega (arith, ints)

same_port-apart : (d p q o u : ℤ) → d ≡ p +ℤ o → d ≡ q +ℤ u → q ≡ p +ℤ (o +ℤ neg_ℤ u)
same_port-apart d p q o u e f = omega (arith, ints)

far-sum : (i l o u e f : ℤ) → e ≡ i +ℤ o → f ≡ l +ℤ u → l -ℤ i ≡ o +ℤ neg_ℤ u → e ≡ f
far-sum i l o u e f a b c = omega (arith, ints)

one_map_port : (v w : ℕ) (p q : ℤ) → v ≡ w → p ≡ q → ◌≡◌ {A = MapPort} (record { v = v; p = p }) (record { v = w; p = q })
one_map_port v w p q a b = λ i. record { v = a i; p = b i }

module _ (n : Network) (host : ℕ) (j : List Entry) (m : NetMap) (fabric : IsFabric n) (found : IsTrueWhereFound n host j) (q : IsQuotient host j m) where
  cabled-real : (d e : MapPort) → IsCabled m d e → RealEnd n host q.least d
  cabled-real d e c =
      let led = (q.cabled d e).0 c in
      let from = stand n host j led.from led.is_from.least_node led.offset_from fabric found led.is_from.one_class in
      let to = stand n host j led.to led.is_to.least_node led.offset_to fabric found led.is_to.one_class in
      let over = leads-crosses n host j led.from led.to led.p led.i from.at_u to.at_u fabric led.leads from.is_at_u to.is_at_u in
      record {
        node = led.is_from.least_node;
        there = led.is_from.there;
        at = from.at_v;
        stands = from.is_at_v;
        port = over.leaves;
        sum = real_sum d.p led.p led.offset_from over.leaves from.at_u.p from.at_v.p led.leaves over.leaves_by from.apart;
        has = subst (λ v. has_port n (record { v = v; p = over.leaves }) ≡ true) from.one_vertex (port-there n (record { v = from.at_u.v; p = over.leaves }) (record { v = to.at_u.v; p = over.enters }) fabric over.cable);
      }

  -- a port of the map has one far end
  pub one-far : (d e f : MapPort) → IsCabled m d e → IsCabled m d f → e ≡ f
  one-far d e f a b =
      let k = (q.cabled d e).0 a in
      let l = (q.cabled d f).0 b in
      let one : k.is_from.least_node ≡ l.is_from.least_node = (let two : Some k.is_from.least_node ≡ Some l.is_from.least_node = sym k.is_from.there ∙ l.is_from.there in cc) in
      let other : Replicates host j k.is_from.least_node l.from (neg_ℤ l.offset_from) = subst (λ u. Replicates host j u l.from (neg_ℤ l.offset_from)) (sym one) (other_way l.is_from.one_class) in
      let from : Replicates host j k.from l.from (k.offset_from +ℤ neg_ℤ l.offset_from) = along k.is_from.one_class other in
      let port : l.p ≡ k.p +ℤ (k.offset_from +ℤ neg_ℤ l.offset_from) = same_port-apart d.p k.p l.p k.offset_from l.offset_from k.leaves l.leaves in
      let to : Replicates host j k.to l.to (l.i -ℤ k.i) = behind from k.leads (subst (λ p. Leads j l.from p l.to l.i) port l.leads) in
      let vertex : e.v ≡ f.v = class-one host j m q e.v f.v k.is_to.least_node l.is_to.least_node ((neg_ℤ k.offset_to +ℤ (l.i -ℤ k.i)) +ℤ l.offset_to) k.is_to.there l.is_to.there (along (along (other_way k.is_to.one_class) to) l.is_to.one_class) in
      let least : k.is_to.least_node ≡ l.is_to.least_node = (let two : Some k.is_to.least_node ≡ Some l.is_to.least_node = sym k.is_to.there ∙ ap (slice_get q.least) vertex ∙ l.is_to.there in cc) in
      let back_to : Replicates host j k.is_to.least_node l.to (neg_ℤ l.offset_to) = subst (λ u. Replicates host j u l.to (neg_ℤ l.offset_to)) (sym least) (other_way l.is_to.one_class) in
      let offset : l.i -ℤ k.i ≡ k.offset_to +ℤ neg_ℤ l.offset_to = offset_is_unique n host j k.to l.to (l.i -ℤ k.i) (k.offset_to +ℤ neg_ℤ l.offset_to) fabric found to (along k.is_to.one_class back_to) in
      one_map_port e.v f.v e.p f.p vertex (far-sum k.i l.i k.offset_to l.offset_to e.p f.p k.enters l.enters offset)

  each_end : (P : MapPort → Type 0) → ((d e : MapPort) → IsCabled m d e → P d) → AllByRecursion P (map_ends m.cables)
  each_end P holds = all-ends P m.cables (λ c i. let place = member-place c m.cables i in (holds (first_end c) (second_end c) (forth place.0 place.1), holds (second_end c) (first_end c) (back place.0 place.1)))

  cabled_vertices : AllByRecursion (λ d. d.v < length m.vertices) (map_ends m.cables)
  cabled_vertices = each_end (λ d. d.v < length m.vertices) (λ d e c. let r = cabled-real d e c in vertex-below host j m q d.v r.node r.there)

  host_ports : AllByRecursion (λ d. (h : ℕ) → host_of_vertex m d.v ≡ Some h → d.p ≡ pos 0) (map_ends m.cables)
  host_ports = each_end (λ d. (h : ℕ) → host_of_vertex m d.v ≡ Some h → d.p ≡ pos 0) (λ d e c h is. by d (cabled-real d e c) h is)
    where
      none : (p a : ℕ) (x : ℤ) → p ≡ 0 → a ≡ 0 → pos p ≡ pos a +ℤ x → x ≡ pos 0
      none p a x e f g = omega (arith, ints)

      by : (d : MapPort) → RealEnd n host q.least d → (h : ℕ) → host_of_vertex m d.v ≡ Some h → d.p ≡ pos 0
      by d r h is =
          let host : host_of host j r.node ≡ Some h = sym (vertex-host host j m q d.v r.node r.there) ∙ is in
          let own : r.at ≡ host_port h = same_end-of n _ r.node r.at (host_port h) r.stands (host-stands n _ j r.node h fabric found host) in
          let port : r.port ≡ 0 = host-port n h r.port (subst (λ (x : End). has_port n (record { v = x.v; p = r.port }) ≡ true) own r.has) in
          none r.port r.at.p d.p port (ap (λ (x : End). x.p) own) r.sum

  ports_in_range : AllByRecursion (λ d. IsTurn d.p) (map_ends m.cables)
  ports_in_range = each_end (λ d. IsTurn d.p) (λ d e c. let r = cabled-real d e c in turn-between r.port r.at.p d.p (below-ports n (record { v = r.at.v; p = r.port }) fabric r.has) (port-below n host r.node r.at fabric r.stands) r.sum)

  ports_near : AreNearPorts (map_ends m.cables)
  ports_near = near-ports (RealEnd n host q.least) near (map_ends m.cables) (each_end (RealEnd n host q.least) cabled-real)
    where
      between : (a b c : ℕ) (x y : ℤ) → pos a ≡ pos c +ℤ x → pos b ≡ pos c +ℤ y → pos a ≡ pos b +ℤ (x -ℤ y)
      between a b c x y e f = omega (arith, ints)

      near : (d e : MapPort) → RealEnd n host q.least d → RealEnd n host q.least e → IsNearPort d e
      near d e r s v =
          let one : r.node ≡ s.node = (let two : Some r.node ≡ Some s.node = sym r.there ∙ ap (slice_get q.least) v ∙ s.there in cc) in
          let at : r.at ≡ s.at = same_end-of n host r.node r.at s.at r.stands (ap (standing n host) one ∙ s.stands) in
          turn-between r.port s.port (d.p -ℤ e.p) (below-ports n (record { v = r.at.v; p = r.port }) fabric r.has) (below-ports n (record { v = s.at.v; p = s.port }) fabric s.has) (between r.port s.port s.at.p d.p e.p (r.sum ∙ ap (λ (x : End). pos x.p +ℤ d.p) at) s.sum)

  ports_once : Apart (map_ends m.cables)
  ports_once = ports-apart m.cables q.cables_in_order one_end
    where
      cabled : (c : MapCable) → IsMember c m.cables → IsCabled m (first_end c) (second_end c) × IsCabled m (second_end c) (first_end c)
      cabled c i = let place = member-place c m.cables i in (forth place.0 place.1, back place.0 place.1)

      one_end : (c d : MapCable) → IsMember c m.cables → IsMember d m.cables → (first_end c ≡ first_end d → second_end c ≡ second_end d) × (first_end c ≡ second_end d → second_end c ≡ first_end d) × (second_end c ≡ second_end d → first_end c ≡ first_end d)
      one_end c d i k =
          let a = cabled c i in
          let b = cabled d k in (
            (λ e. one-far (first_end d) (second_end c) (second_end d) (subst (λ x. IsCabled m x (second_end c)) e a.0) b.0),
            (λ e. one-far (second_end d) (second_end c) (first_end d) (subst (λ x. IsCabled m x (second_end c)) e a.0) b.1),
            (λ e. one-far (second_end d) (first_end c) (first_end d) (subst (λ x. IsCabled m x (first_end c)) e a.1) b.1),
          )

  pub quotient_hosts : (v w h : ℕ) → host_of_vertex m v ≡ Some h → host_of_vertex m w ≡ Some h → v ≡ w
  quotient_hosts v w h a b = by (hosted v h a) (hosted w h b)
    where
      hosted : (i h : ℕ) → host_of_vertex m i ≡ Some h → (u : Node) × (slice_get q.least i ≡ Some u) × (host_of host j u ≡ Some h)
      hosted i h e = let u = node-at i h e in (u.0, u.1, sym (vertex-host host j m q i u.0 u.1) ∙ e)
        where
          node-at : (i h : ℕ) → host_of_vertex m i ≡ Some h → (u : Node) × (slice_get q.least i ≡ Some u)
          node-at i h e = below-vertex host j m q i (host-below m.vertices i h e)

      by : (u : Node) × (slice_get q.least v ≡ Some u) × (host_of host j u ≡ Some h) → (x : Node) × (slice_get q.least w ≡ Some x) × (host_of host j x ≡ Some h) → v ≡ w
      by x y = class-one host j m q v w x.0 y.0 (pos 0) x.1 y.1 (one_host x.2 y.2)

  pub ruled : IsMap m
  ruled = record {
    hosts_once = hosts-apart m.vertices quotient_hosts;
    switches_numbered = ap switches_of q.vertices ∙ switches-numbered (map (host_of host j) q.least) ∙ ap (λ vs. numbers_below (length (switches_of vs))) (sym q.vertices);
    one_mark_each = ap length q.unmarked ∙ length-map m.vertices (λ v. true);
    hosts_marked = λ v h e. let x = below-get m.vertices v (host-below m.vertices v h e) in ap (λ c. slice_get c v) q.unmarked ∙ get-map (λ v. true) m.vertices v x.0 x.1;
    cabled_vertices = cabled_vertices;
    ports_once = ports_once;
    host_ports = host_ports;
    ports_in_range = ports_in_range;
    ports_near = ports_near;
  }

pub quotient_is_map : QuotientIsMap
quotient_is_map n host j m fabric found q = ruled n host j m fabric found q
