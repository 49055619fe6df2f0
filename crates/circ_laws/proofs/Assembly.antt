-- The map of a whole tree without what is outside is the core.
use Rattle.std.proofs.Common.{◌≡◌, ◌<◌, ℕ, List, length, Bool, true, false, Option, Some, None, sym, ◌∙◌, subst, ap, true≢false, refl, arith}
use Rattle.std.specs.Prelude.{ℤ, pos, ◌+ℤ◌}
use Rattle.std.proofs.lemmas.Int.{ints}
use Rattle.net_defs.specs.declared.vertex.Vertex.{Vertex}
use Rattle.net_defs.specs.declared.vertex.Vertex.TheVariants.{Host, Switch}
use Rattle.net_defs.specs.declared.vertex.End.{End}
use Rattle.net_defs.specs.Network.{Network, far, same_vertex}
use Rattle.net_defs.proofs.Ends.{same_vertex-true, same_vertex-refl}
use Rattle.journal_defs.specs.declared.entry.Entry.{Entry}
use Rattle.journal_defs.specs.Tree.{Node}
use Rattle.journal_defs.specs.Tree.Node.{Mapper}
use Rattle.journal_defs.specs.Truth.{standing}
use Rattle.journal_defs.proofs.Standing.{node-stands}
use Rattle.map_defs.specs.NetMap.{NetMap, IsCabled, host_of_vertex}
use Rattle.map_defs.specs.Core.{is_outside}
use Rattle.map_defs.specs.Sameness.{Joined, address_of, IsSame}
use Rattle.map_laws.proofs.Least.{below-vertex, vertex-below}
use Rattle.map_laws.proofs.Assembly.{joined-ports, joined-moved, end_at, first-passes, image_by, is_over, offset_by, origin_by, port_of_end, vertex_of_end}
use Rattle.circ_laws.proofs.Sheets.{StandsAt, from-stands, mapper-stands, to-stands}
use Rattle.circ_laws.proofs.Listed.{list-sheet}
use Rattle.circ_defs.specs.PathList.{Ear}
use Rattle.circ_defs.specs.Cores.{IsCore}
use Rattle.circ_defs.specs.CircuitMap.{graph_of_core, graph_of_inside}
use Rattle.circ_defs.proofs.Sides.{core-touched}
use Rattle.circ_defs.proofs.Cables.{far-joins, joins-far}
use Rattle.circ_laws.specs.Laws.{InsideIsCore}
use Rattle.circ_laws.proofs.Ends.{FabricEnd, OverEnd, Setting, cable-link, core-number, found, host-over, link-cable, number-cabled, one-port, over-host}
use Rattle.circ_laws.proofs.Inside.{core-inside, numbered, through}
use Rattle.circ_laws.proofs.Outside.{inside-core}

port_sum : (x : ℕ) (p o : ℤ) (a : ℕ) → pos x ≡ pos a +ℤ p → o ≡ pos a → p +ℤ o ≡ pos x
port_sum x p o a e f = omega (arith, ints)

sum_port : (x : ℕ) (p o : ℤ) (a : ℕ) → p +ℤ o ≡ pos x → o ≡ pos a → pos x ≡ pos a +ℤ p
sum_port x p o a e f = omega (arith, ints)

module _ (n : Network) (host depth : ℕ) (j : List Entry) (es : List Ear) (m : NetMap) (s : Setting n host depth j es m) where
  abbrev us : List Node
  us = s.quotient.least

  record Placed (v : ℕ) : Type 0 where
    pub at : End
    pub over : OverEnd n host depth j es m s v at

  placed : (v : ℕ) → v < length m.vertices → Placed v
  placed v l =
      let u = below-vertex host j m s.quotient v l in
      let c = node-stands n host j u.0 (found n host depth j es m s) (s.quotient.each_least v u.0 u.1).node in
      record { at = c.at; over = record { node = u.0; there = u.1; stands = c.is } }

  image-is : (v : ℕ) (a : End) → OverEnd n host depth j es m s v a → image_by n host us v ≡ a.v
  image-is v a o = ap (λ x. vertex_of_end host (end_at n host x)) o.there ∙ ap (vertex_of_end host) o.stands

  offset-is : (v : ℕ) (a : End) → OverEnd n host depth j es m s v a → offset_by n host us v ≡ pos a.p
  offset-is v a o = ap (λ x. port_of_end (end_at n host x)) o.there ∙ ap port_of_end o.stands

  abbrev IsInside : ℕ → Type 0
  IsInside v = (v < length m.vertices) × (is_outside m v ≡ false)

  image_in : (v : ℕ) → IsInside v → IsCore n host (image_by n host us v)
  image_in v i = let p = placed v i.0 in subst (IsCore n host) (sym (image-is v p.at p.over)) (inside-core n host depth j es m s v p.at p.over i.1)

  -- over each vertex of the core there is a node
  record Covered (x : Vertex) : Type 0 where
    pub node : Node
    pub stands : StandsAt n host j node x

  covered : (x : Vertex) → IsCore n host x → Covered x
  covered x core = by (same_vertex (Host host) x) refl
    where
      by : (b : Bool) → same_vertex (Host host) x ≡ b → Covered x
      by true e = record { node = Mapper; stands = subst (StandsAt n host j Mapper) (same_vertex-true (Host host) x e) (mapper-stands n host j) }
      by false e =
          let t = through n host depth j es m s x (core-touched n host es x s.fabric s.paths core (λ p. true≢false (sym (subst (λ y. same_vertex (Host host) y ≡ true) p (same_vertex-refl (Host host))) ∙ e))) in
          record { node = t.node; stands = t.stands }

  record Originated (x : Vertex) : Type 0 where
    pub at : End
    pub over : OverEnd n host depth j es m s (origin_by n host us x) at
    pub vertex : at.v ≡ x
    pub below : origin_by n host us x < length m.vertices

  originated : (x : Vertex) → IsCore n host x → Originated x
  originated x core =
      let c = covered x core in
      let k = numbered n host depth j es m s c.node x c.stands in
      let test : is_over n host x k.over.node ≡ true = ap (λ o. same_vertex (vertex_of_end host o) x) k.over.stands ∙ ap (λ y. same_vertex y x) k.vertex ∙ same_vertex-refl x in
      let p = first-passes (is_over n host x) us k.has.vertex k.over.node k.over.there test in
      let least = (s.quotient.each_least (origin_by n host us x) p.node p.there).node in
      let at = node-stands n host j p.node (found n host depth j es m s) least in
      record {
        at = at.at;
        over = record { node = p.node; there = p.there; stands = at.is };
        vertex = ap (vertex_of_end host) (sym at.is) ∙ same_vertex-true (vertex_of_end host (standing n host p.node)) x p.passes;
        below = vertex-below host j m s.quotient (origin_by n host us x) p.node p.there;
      }

  origin_in : (x : Vertex) → IsCore n host x → IsInside (origin_by n host us x)
  origin_in x core = let o = originated x core in (o.below, core-inside n host depth j es m s (origin_by n host us x) o.at o.over (subst (IsCore n host) (sym o.vertex) core))

  image_origin : (x : Vertex) → IsCore n host x → image_by n host us (origin_by n host us x) ≡ x
  image_origin x core = let o = originated x core in image-is (origin_by n host us x) o.at o.over ∙ o.vertex

  origin_image : (v : ℕ) → IsInside v → origin_by n host us (image_by n host us v) ≡ v
  origin_image v i =
      let p = placed v i.0 in
      let core = image_in v i in
      let o = originated (image_by n host us v) core in
      core-number n host depth j es m s (origin_by n host us (image_by n host us v)) v o.at p.at o.over p.over (o.vertex ∙ image-is v p.at p.over) (subst (IsCore n host) (sym o.vertex) core)

  addresses : (v : ℕ) → IsInside v → address_of (image_by n host us v) ≡ host_of_vertex m v
  addresses v i = let p = placed v i.0 in ap address_of (image-is v p.at p.over) ∙ by p p.at.v refl
    where
      by : (p : Placed v) (x : Vertex) → p.at.v ≡ x → address_of p.at.v ≡ host_of_vertex m v
      by p (Host h) e = ap address_of e ∙ sym (over-host n host depth j es m s v h p.at p.over e)
      by p (Switch b) e = ap address_of e ∙ none (host_of_vertex m v) refl
        where
          none : (o : Option ℕ) → host_of_vertex m v ≡ o → None ≡ host_of_vertex m v
          none None f = sym f
          none (Some h) f = let own = host-over n host depth j es m s v h p.at p.over f in let two : Switch b ≡ Host h = sym e ∙ ap (λ (y : End). y.v) own in cc

  host_offsets : (v a : ℕ) → IsInside v → host_of_vertex m v ≡ Some a → offset_by n host us v ≡ pos 0
  host_offsets v a i e = let p = placed v i.0 in offset-is v p.at p.over ∙ ap (λ (d : End). pos d.p) (host-over n host depth j es m s v a p.at p.over e)

  cabled-joined : (v w : ℕ) (a b : ℤ) → IsInside v → IsInside w → IsCabled m (record { v = v; p = a }) (record { v = w; p = b }) → Joined n (image_by n host us v) (a +ℤ offset_by n host us v) (image_by n host us w) (b +ℤ offset_by n host us w)
  cabled-joined v w a b k l c =
      let r = cable-link n host depth j es m s (record { v = v; p = a }) (record { v = w; p = b }) c in
      let x = r.from_end in
      let y = r.to_end in
      joined-moved n (image_by n host us v) (image_by n host us w) r.from.v r.to.v r.from.p r.to.p (a +ℤ offset_by n host us v) (b +ℤ offset_by n host us w)
      (image-is v x.at x.over ∙ sym x.vertex) (port_sum r.from.p a (offset_by n host us v) x.at.p x.port (offset-is v x.at x.over))
      (image-is w y.at y.over ∙ sym y.vertex) (port_sum r.to.p b (offset_by n host us w) y.at.p y.port (offset-is w y.at y.over))
      (joins-far n r.cable r.from r.to s.fabric r.joins)

  -- the map has each cable of the core
  core-cabled : (v w : ℕ) (a b : ℤ) (d e : End) → FabricEnd n host depth j es m s (record { v = v; p = a }) d → FabricEnd n host depth j es m s (record { v = w; p = b }) e → far n d ≡ Some e → IsCore n host d.v → IsCore n host e.v → IsCabled m (record { v = v; p = a }) (record { v = w; p = b })
  core-cabled v w a b d e x y cable core other =
      let k = far-joins n d e cable in
      let sheet = list-sheet n host depth j es s.fabric s.tree s.paths.list s.deep in
      let on = sheet.sheet.over k.cable d e (s.paths.all k.cable (record { from = d; to = e; joins = k.joins; first = core; second = other })) k.joins in
      let f = from-stands n host j on.from on.to d e on.crossed in
      let t = to-stands n host j on.from on.to d e on.crossed in
      let i = numbered n host depth j es m s on.from d.v f in
      let l = numbered n host depth j es m s on.to e.v t in
      let c = link-cable n host depth j es m s on.from on.to d e i.has.vertex l.has.vertex i.has.offset l.has.offset on.crossed i.has.is_of l.has.is_of in
      let one_v : c.from.v ≡ v = c.from_is ∙ core-number n host depth j es m s i.has.vertex v i.at x.at i.over x.over (i.vertex ∙ x.vertex) (subst (IsCore n host) (sym i.vertex) core) in
      let one_w : c.to.v ≡ w = c.to_is ∙ core-number n host depth j es m s l.has.vertex w l.at y.at l.over y.over (l.vertex ∙ y.vertex) (subst (IsCore n host) (sym l.vertex) other) in
      let from : c.from ≡ record { v = v; p = a } = one-port n host depth j es m s c.from (record { v = v; p = a }) d one_v c.from_end x in
      let to : c.to ≡ record { v = w; p = b } = one-port n host depth j es m s c.to (record { v = w; p = b }) e one_w c.to_end y in
      subst (λ z. IsCabled m z (record { v = w; p = b })) from (subst (IsCabled m c.from) to (number-cabled m c.number c.from c.to c.cabled))

  joined-cabled : (v w : ℕ) (a b : ℤ) → IsInside v → IsInside w → Joined n (image_by n host us v) (a +ℤ offset_by n host us v) (image_by n host us w) (b +ℤ offset_by n host us w) → IsCabled m (record { v = v; p = a }) (record { v = w; p = b })
  joined-cabled v w a b k l c =
      let p = placed v k.0 in
      let q = placed w l.0 in
      let r = joined-ports n (image_by n host us v) (a +ℤ offset_by n host us v) (image_by n host us w) (b +ℤ offset_by n host us w) c in
      core-cabled v w a b (record { v = image_by n host us v; p = r.from }) (record { v = image_by n host us w; p = r.to })
      (record { at = p.at; over = p.over; vertex = image-is v p.at p.over; port = sum_port r.from a (offset_by n host us v) p.at.p r.is_from (offset-is v p.at p.over) })
      (record { at = q.at; over = q.over; vertex = image-is w q.at q.over; port = sum_port r.to b (offset_by n host us w) q.at.p r.is_to (offset-is w q.at q.over) })
      r.cable (image_in v k) (image_in w l)

  pub assembled : IsSame (graph_of_inside m) (graph_of_core n host)
  assembled = record {
    image = image_by n host us;
    origin = origin_by n host us;
    offset = offset_by n host us;
    image_in = image_in;
    origin_in = origin_in;
    origin_image = origin_image;
    image_origin = image_origin;
    addresses = addresses;
    host_offsets = host_offsets;
    cables = λ v w a b k l. (cabled-joined v w a b k l, joined-cabled v w a b k l);
  }

pub inside_is_core : InsideIsCore
inside_is_core n host depth j es m f tree paths deep q = assembled n host depth j es m (record { fabric = f; tree = tree; paths = paths; deep = deep; quotient = q })
