-- A map of what asks found stands over the fabric, whatever probes were lost.
use Rattle.std.proofs.Common.{◌≡◌, ◌<◌, ℕ, List, length, Option, Some, None, refl, sym, ◌∙◌, ap, subst, arith}
use Rattle.std.specs.Prelude.{ℤ, pos, ◌+ℤ◌, slice_get}
use Rattle.std.proofs.lemmas.Int.{ints}
use Rattle.net_defs.specs.declared.vertex.Vertex.{Vertex}
use Rattle.net_defs.specs.declared.vertex.Vertex.TheVariants.{Host, Switch}
use Rattle.net_defs.specs.declared.vertex.End.{End}
use Rattle.net_defs.specs.Network.{Network, IsFabric}
use Rattle.net_defs.specs.Route.{host_port}
use Rattle.journal_defs.specs.declared.entry.Entry.{Entry}
use Rattle.journal_defs.specs.Tree.{Node, IsNode, host_of}
use Rattle.journal_defs.specs.Truth.{IsTrueWhereFound, standing}
use Rattle.journal_defs.specs.Part.{IsInPart}
use Rattle.journal_defs.proofs.Standing.{node-stands, host-stands, stand, same_end-of, leads-crosses}
use Rattle.map_defs.specs.NetMap.{NetMap, MapPort, IsCabled, host_of_vertex}
use Rattle.map_defs.specs.Quotient.{IsQuotient}
use Rattle.map_defs.specs.Sameness.{Joined, address_of}
use Rattle.map_laws.proofs.Closing.{in-part}
use Rattle.map_laws.proofs.Assembly.{vertex_of_end, port_of_end, end_at, image_by, offset_by, joined-moved}
use Rattle.map_laws.proofs.Least.{below-vertex, vertex-host}
use Rattle.circ_laws.proofs.Lifts.{node-host}
use Rattle.print_laws.specs.Standing.{StandsOver}

-- a vertex of the map with its least node
record Placed (n : Network) (host : ℕ) (j : List Entry) (us : List Node) (v : ℕ) : Type 0 where
  node : Node
  there : slice_get us v ≡ Some node
  is_node : IsNode j node
  at : End
  stands : standing n host node ≡ Some at

leaving_port : (p a o : ℤ) (l d c : ℕ) → p ≡ a +ℤ o → pos l ≡ pos c +ℤ a → pos c ≡ pos d +ℤ o → p +ℤ pos d ≡ pos l
leaving_port p a o l d c e f g = omega (arith, ints)

module _ (n : Network) (host : ℕ) (j : List Entry) (m : NetMap) (fabric : IsFabric n) (found : IsTrueWhereFound n host j) (q : IsQuotient host j m) where
  placed-at : (v : ℕ) (u : Node) → slice_get q.least v ≡ Some u → Placed n host j q.least v
  placed-at v u e =
      let least = q.each_least v u e in
      let s = node-stands n host j u found least.node in
      record { node = u; there = e; is_node = least.node; at = s.at; stands = s.is }

  placed : (v : ℕ) → v < length m.vertices → Placed n host j q.least v
  placed v l = let u = below-vertex host j m q v l in placed-at v u.0 u.1

  image-is : (v : ℕ) (p : Placed n host j q.least v) → image_by n host q.least v ≡ p.at.v
  image-is v p = ap (λ o. vertex_of_end host (end_at n host o)) p.there ∙ ap (vertex_of_end host) p.stands

  offset-is : (v : ℕ) (p : Placed n host j q.least v) → offset_by n host q.least v ≡ pos p.at.p
  offset-is v p = ap (λ o. port_of_end (end_at n host o)) p.there ∙ ap port_of_end p.stands

  image_in : (v : ℕ) → v < length m.vertices → IsInPart n host (image_by n host q.least v)
  image_in v l = let p = placed v l in subst (IsInPart n host) (sym (image-is v p)) (in-part n host p.node p.at p.stands)

  -- a node stands at a host exactly where it is that host
  node-address : (v : ℕ) (p : Placed n host j q.least v) → address_of p.at.v ≡ host_of host j p.node
  node-address v p = by (host_of host j p.node) refl p.at.v refl
    where
      by : (o : Option ℕ) → host_of host j p.node ≡ o → (x : Vertex) → p.at.v ≡ x → address_of p.at.v ≡ host_of host j p.node
      by o is (Host h) e = ap address_of e ∙ sym (node-host n host j p.node p.at h found p.is_node p.stands e)
      by None is (Switch s) e = ap address_of e ∙ sym is
      by (Some h) is (Switch s) e =
          let own : p.at ≡ host_port h = same_end-of n host p.node p.at (host_port h) p.stands (host-stands n host j p.node h fabric found is) in
          let bad : Switch s ≡ Host h = sym e ∙ ap (λ (d : End). d.v) own in
          cc

  addresses : (v : ℕ) → v < length m.vertices → address_of (image_by n host q.least v) ≡ host_of_vertex m v
  addresses v l = let p = placed v l in ap address_of (image-is v p) ∙ node-address v p ∙ sym (vertex-host host j m q v p.node p.there)

  host_offsets : (v a : ℕ) → v < length m.vertices → host_of_vertex m v ≡ Some a → offset_by n host q.least v ≡ pos 0
  host_offsets v a l e =
      let p = placed v l in
      let is : host_of host j p.node ≡ Some a = sym (vertex-host host j m q v p.node p.there) ∙ e in
      let own : p.at ≡ host_port a = same_end-of n host p.node p.at (host_port a) p.stands (host-stands n host j p.node a fabric found is) in
      offset-is v p ∙ ap (λ (d : End). pos d.p) own

  cabled-joined : (d e : MapPort) → IsCabled m d e → Joined n (image_by n host q.least d.v) (d.p +ℤ offset_by n host q.least d.v) (image_by n host q.least e.v) (e.p +ℤ offset_by n host q.least e.v)
  unfolding placed-at
  cabled-joined d e c =
      let led = (q.cabled d e).0 c in
      let at_v = placed-at d.v led.is_from.least_node led.is_from.there in
      let at_w = placed-at e.v led.is_to.least_node led.is_to.there in
      let from = stand n host j led.from led.is_from.least_node led.offset_from fabric found led.is_from.one_class in
      let to = stand n host j led.to led.is_to.least_node led.offset_to fabric found led.is_to.one_class in
      let over = leads-crosses n host j led.from led.to led.p led.i from.at_u to.at_u fabric led.leads from.is_at_u to.is_at_u in
      let own_v : from.at_v ≡ at_v.at = same_end-of n host led.is_from.least_node from.at_v at_v.at from.is_at_v at_v.stands in
      let own_w : to.at_v ≡ at_w.at = same_end-of n host led.is_to.least_node to.at_v at_w.at to.is_at_v at_w.stands in
      let port_v : d.p +ℤ pos from.at_v.p ≡ pos over.leaves = leaving_port d.p led.p led.offset_from over.leaves from.at_v.p from.at_u.p led.leaves over.leaves_by from.apart in
      let port_w : e.p +ℤ pos to.at_v.p ≡ pos over.enters = leaving_port e.p led.i led.offset_to over.enters to.at_v.p to.at_u.p led.enters over.enters_by to.apart in
      joined-moved n (image_by n host q.least d.v) (image_by n host q.least e.v) from.at_u.v to.at_u.v over.leaves over.enters (d.p +ℤ offset_by n host q.least d.v) (e.p +ℤ offset_by n host q.least e.v)
      (image-is d.v at_v ∙ ap (λ (x : End). x.v) (sym own_v) ∙ sym from.one_vertex) (ap (λ o. d.p +ℤ o) (offset-is d.v at_v ∙ ap (λ (x : End). pos x.p) (sym own_v)) ∙ port_v)
      (image-is e.v at_w ∙ ap (λ (x : End). x.v) (sym own_w) ∙ sym to.one_vertex) (ap (λ o. e.p +ℤ o) (offset-is e.v at_w ∙ ap (λ (x : End). pos x.p) (sym own_w)) ∙ port_w) over.cable

  pub quotient-stands : StandsOver n host m
  quotient-stands = record {
    image = image_by n host q.least;
    offset = offset_by n host q.least;
    image_in = image_in;
    addresses = addresses;
    host_offsets = host_offsets;
    cables = cabled-joined;
  }
