-- From a search to the map renumbered.
use Rattle.std.proofs.Common.{◌≡◌, ◌<◌, ◌*◌, ◌⊎◌, inl, inr, ℕ, List, map, length, Option, Some, None, unwrap_or, ap, sym, ◌∙◌, subst, arith}
use Rattle.std.specs.Prelude.{ℤ, pos, ◌+ℤ◌, ◌-ℤ◌, neg_ℤ, ◌↔◌, slice_get, slice_index_or}
use Rattle.std.proofs.lemmas.Int.{ints}
use Rattle.std.proofs.lemmas.List.{length-map}
use Rattle.std.proofs.lemmas.Option.{get_or_from_slice_get, slice_get-get_or}
use Rattle.journal_defs.specs.Tree.{Node}
use Rattle.map_defs.specs.declared.vertex.MapVertex.{MapVertex}
use Rattle.map_defs.specs.declared.vertex.MapCable.{MapCable}
use Rattle.map_defs.specs.NetMap.{NetMap, MapPort, IsMap, IsCabled, IsConnected, AreInOrder, first_end, second_end, host_at, host_of_vertex}
use Rattle.map_defs.specs.NetMap.IsCabled.{forth, back}
use Rattle.map_defs.specs.Quotient.{named}
use Rattle.map_defs.specs.Sameness.{IsSame, graph_of_map}
use Rattle.map_defs.proofs.Ports.{far_is_cabled}
use Rattle.map_laws.proofs.Least.{below-get, get-map, named-length, named-host}
use Rattle.fabric_map.proofs.Ends.{port-holds}
use Rattle.map_quotient.specs.InOrder.{in_order}
use Rattle.map_renumber.specs.Canon.{start_port, IsPortOf, IsMoved, IsRenumbered, IsCanon, is_of_core}
use Rattle.map_renumber.proofs.Levels.{far-back}
use Rattle.map_renumber.specs.Search.{IsSearch, IsBehind, turn_at, number_of, entry_of, moved_port, moved_cable}
use Rattle.map_quotient.proofs.Places.{one-there, get-less}
use Rattle.map_quotient.proofs.Ordered.{below-in_order, ordered-only, ordered-each}
use Rattle.map_quotient.proofs.Vertices.{map-place}
use Rattle.map_renumber.proofs.Covers.{all-found}

moved_again : (p a : ℤ) → p ≡ (p -ℤ a) +ℤ a
moved_again p a = omega (arith, ints)

moved_to : (p q a : ℤ) → p ≡ q +ℤ a → q ≡ p -ℤ a
moved_to p q a e = omega (arith, ints)

less_is_neg : (p a : ℤ) → p -ℤ a ≡ p +ℤ neg_ℤ a
less_is_neg p a = omega (arith, ints)

module _ (m : NetMap) (is_map : IsMap m) (h : ℕ) (host : host_of_vertex m 0 ≡ Some h) (connected : IsConnected m) (found : List MapPort) (numbers : List (Option ℕ)) (ways : List Node) (s : IsSearch m found numbers ways (length m.vertices) 0) where
  abbrev pub image : ℕ → ℕ
  image = number_of numbers

  -- each vertex has a number, with its entry port
  renumbered : (x : ℕ) → x < length m.vertices → IsRenumbered found x
  renumbered x l = let f = all-found m is_map h host found numbers ways s connected x l in record { number = f.0; entry = f.1; there = f.2 }

  image-is : (x v : ℕ) (p : ℤ) → slice_get found v ≡ Some (record { v = x; p = p }) → (image x ≡ v) × (entry_of found (image x) ≡ p)
  image-is x v p e = (number, entry)
    where
      number : image x ≡ v
      number = ap (λ (o : Option ℕ). unwrap_or o 0) (get_or_from_slice_get numbers x (Some v) None (s.placed v (record { v = x; p = p }) e))

      entry : entry_of found (image x) ≡ p
      entry = ap (entry_of found) number ∙ ap (λ (y : MapPort). y.p) (get_or_from_slice_get found v (record { v = x; p = p }) start_port e)

  pub image-there : (x : ℕ) → x < length m.vertices → slice_get found (image x) ≡ Some (record { v = x; p = entry_of found (image x) })
  image-there x l =
      let r = renumbered x l in
      let i = image-is x r.number r.entry r.there in
      ap (slice_get found) i.0 ∙ r.there ∙ ap Some (λ k. record { v = x; p = sym i.1 k })

  -- a host is entered by port 0
  pub host-entry : (x a : ℕ) → x < length m.vertices → host_of_vertex m x ≡ Some a → entry_of found (image x) ≡ pos 0
  host-entry x a l is =
      let w = below-get ways (image x) (let b = get-less found (image x) (record { v = x; p = entry_of found (image x) }) (image-there x l) in let n = s.one_each in omega arith) in
      by w.0 (s.behind (image x) w.0 (record { v = x; p = entry_of found (image x) }) w.1 (image-there x l))
    where
      by : (u : Node) → (image x ≡ 0) ⊎ IsBehind m found ways (length m.vertices) 0 u (record { v = x; p = entry_of found (image x) }) → entry_of found (image x) ≡ pos 0
      by u (inl z) = ap (λ (y : MapPort). y.p) (one-there found 0 (record { v = x; p = entry_of found (image x) }) start_port (subst (λ n. slice_get found n ≡ Some (record { v = x; p = entry_of found (image x) })) z (image-there x l)) s.start_entry)
      by u (inr b) =
          port-holds (λ (y : MapPort). (g : ℕ) → host_of_vertex m y.v ≡ Some g → y.p ≡ pos 0) m.cables (record { v = x; p = entry_of found (image x) }) (record { v = b.entry.v; p = b.entry.p +ℤ turn_at b.place }) is_map.host_ports (far-back m (record { v = b.entry.v; p = b.entry.p +ℤ turn_at b.place }) (record { v = x; p = entry_of found (image x) }) is_map b.far) a is

  pub cabled-low : (d e : MapPort) → IsCabled m d e → d.v < length m.vertices
  cabled-low d e c = port-holds (λ x. x.v < length m.vertices) m.cables d e is_map.cabled_vertices ((far_is_cabled m d e is_map).1 c)

  turned : (k : NetMap) (d e : MapPort) → IsCabled k d e → IsCabled k e d
  turned k d e (forth i q) = back i q
  turned k d e (back i q) = forth i q

  -- a port by its new number is that port
  port-of : (d : MapPort) → d.v < length m.vertices → IsPortOf found (moved_port found numbers d) d
  port-of d l = record { entry = entry_of found (image d.v); there = image-there d.v l; port = moved_again d.p (entry_of found (image d.v)) }

  of-port : (d from : MapPort) → IsPortOf found d from → moved_port found numbers from ≡ d
  of-port d from i =
      let q = image-is from.v d.v i.entry i.there in
      let p : from.p -ℤ entry_of found (image from.v) ≡ d.p = ap (λ z. from.p -ℤ z) q.1 ∙ sym (moved_to from.p d.p i.entry i.port) in
      λ k. record { v = q.0 k; p = p k }

  module _ (loose : NetMap) (cables : loose.cables ≡ map (moved_cable found numbers) m.cables) where
    one-moved : (k : ℕ) (c : MapCable) → slice_get loose.cables k ≡ Some c → (b : MapCable) × (slice_get m.cables k ≡ Some b) × (moved_cable found numbers b ≡ c)
    one-moved k c e = map-place (moved_cable found numbers) m.cables k c (ap (λ (l : List MapCable). slice_get l k) (sym cables) ∙ e)

    moved-only : (d e : MapPort) → IsCabled loose d e → IsMoved m found d e
    moved-only d e (forth k {c = c} q) =
        let b = one-moved k c q in
        let joint : IsCabled m (first_end b.0) (second_end b.0) = forth k b.1 in
        subst (λ (y : MapCable). IsMoved m found (first_end y) (second_end y)) b.2 (record { from = first_end b.0; to = second_end b.0; is_from = port-of (first_end b.0) (cabled-low (first_end b.0) (second_end b.0) joint); is_to = port-of (second_end b.0) (cabled-low (second_end b.0) (first_end b.0) (turned m (first_end b.0) (second_end b.0) joint)); cabled = joint })
    moved-only d e (back k {c = c} q) =
        let b = one-moved k c q in
        let joint : IsCabled m (first_end b.0) (second_end b.0) = forth k b.1 in
        subst (λ (y : MapCable). IsMoved m found (second_end y) (first_end y)) b.2 (record { from = second_end b.0; to = first_end b.0; is_from = port-of (second_end b.0) (cabled-low (second_end b.0) (first_end b.0) (turned m (first_end b.0) (second_end b.0) joint)); is_to = port-of (first_end b.0) (cabled-low (first_end b.0) (second_end b.0) joint); cabled = back k b.1 })

    joined-moved : (a b : MapPort) → IsCabled m a b → IsCabled loose (moved_port found numbers a) (moved_port found numbers b)
    joined-moved a b (forth k {c = c} q) = forth k (ap (λ (l : List MapCable). slice_get l k) cables ∙ get-map (moved_cable found numbers) m.cables k c q)
    joined-moved a b (back k {c = c} q) = back k (ap (λ (l : List MapCable). slice_get l k) cables ∙ get-map (moved_cable found numbers) m.cables k c q)

    moved-each : (d e : MapPort) → IsMoved m found d e → IsCabled loose d e
    moved-each d e i = subst (λ x. IsCabled loose x e) (of-port d i.from i.is_from) (subst (IsCabled loose (moved_port found numbers i.from)) (of-port e i.to i.is_to) (joined-moved i.from i.to i.cabled))

    module _ (loose_map : IsMap loose) (vertices : loose.vertices ≡ named 0 (map (λ (d : MapPort). host_of_vertex m d.v) found)) (marks : loose.core ≡ map (λ (d : MapPort). is_of_core m d.v) found) (k : NetMap) (ordered : k ≡ in_order loose) where
      cabled-k : (d e : MapPort) → IsCabled k d e ↔ IsMoved m found d e
      cabled-k d e = (
        (λ q. moved-only d e (ordered-only loose loose_map d e (subst (λ (y : NetMap). IsCabled y d e) ordered q))),
        (λ i. subst (λ (y : NetMap). IsCabled y d e) (sym ordered) (ordered-each loose loose_map d e (moved-each d e i))),
      )

      vertices-k : k.vertices ≡ named 0 (map (λ (d : MapPort). host_of_vertex m d.v) found)
      vertices-k = ap (λ (y : NetMap). y.vertices) ordered ∙ vertices

      pub is-canon : IsCanon m k
      is-canon = record {
        ways = ways;
        entries = found;
        one_each = s.one_each;
        each_least = λ v u d a b. record { enters = s.enters v u d a b; least = λ x q e. s.least v u d x q a b e };
        in_order = s.rising;
        covered = renumbered;
        vertices = vertices-k;
        core = ap (λ (y : NetMap). y.core) ordered ∙ marks;
        cabled = cabled-k;
        cables_in_order = subst AreInOrder (sym (ap (λ (y : NetMap). y.cables) ordered)) (below-in_order loose (31 * length loose.vertices));
      }

      count-k : length k.vertices ≡ length found
      count-k = ap length vertices-k ∙ named-length 0 (map (λ (d : MapPort). host_of_vertex m d.v) found) ∙ length-map found (λ (d : MapPort). host_of_vertex m d.v)

      -- the vertex that has a number
      abbrev origin : ℕ → ℕ
      origin v = (slice_index_or found v start_port).v

      abbrev offset : ℕ → ℤ
      offset x = neg_ℤ (entry_of found (image x))

      image-low : (x : ℕ) → x < length m.vertices → image x < length k.vertices
      image-low x l = let b = get-less found (image x) (record { v = x; p = entry_of found (image x) }) (image-there x l) in let c = count-k in omega arith

      origin-there : (v : ℕ) → v < length k.vertices → slice_get found v ≡ Some (record { v = origin v; p = entry_of found v })
      origin-there v l = slice_get-get_or found v start_port (let c = count-k in omega arith)

      origin-low : (v : ℕ) → v < length k.vertices → origin v < length m.vertices
      origin-low v l = let b = get-less numbers (origin v) (Some v) (s.placed v (record { v = origin v; p = entry_of found v }) (origin-there v l)) in let c = s.counted in omega arith

      origin-image : (x : ℕ) → x < length m.vertices → origin (image x) ≡ x
      origin-image x l = ap (λ (y : MapPort). y.v) (get_or_from_slice_get found (image x) (record { v = x; p = entry_of found (image x) }) start_port (image-there x l))

      image-origin : (v : ℕ) → v < length k.vertices → image (origin v) ≡ v
      image-origin v l = (image-is (origin v) v (entry_of found v) (origin-there v l)).0

      addresses : (x : ℕ) → x < length m.vertices → host_of_vertex k (image x) ≡ host_of_vertex m x
      addresses x l =
          ap (λ (vs : List MapVertex). host_at (slice_get vs (image x))) vertices-k
          ∙ named-host 0 (map (λ (d : MapPort). host_of_vertex m d.v) found) (image x) (host_of_vertex m x) (get-map (λ (d : MapPort). host_of_vertex m d.v) found (image x) (record { v = x; p = entry_of found (image x) }) (image-there x l))

      -- a port by its offset is the port by its number
      by_offset : (x : ℕ) (p : ℤ) → ◌≡◌ {A = MapPort} (moved_port found numbers (record { v = x; p = p })) (record { v = image x; p = p +ℤ offset x })
      by_offset x p = λ i. record { v = image x; p = less_is_neg p (entry_of found (image x)) i }

      pub is-same : IsSame (graph_of_map m) (graph_of_map k)
      is-same = record {
        image = image;
        origin = origin;
        offset = offset;
        image_in = image-low;
        origin_in = origin-low;
        origin_image = origin-image;
        image_origin = image-origin;
        addresses = addresses;
        host_offsets = λ x a l is. ap neg_ℤ (host-entry x a l is);
        cables = λ x y p q l r. (
          (λ c. (cabled-k (record { v = image x; p = p +ℤ offset x }) (record { v = image y; p = q +ℤ offset y })).1 (record { from = record { v = x; p = p }; to = record { v = y; p = q }; is_from = subst (λ (d : MapPort). IsPortOf found d (record { v = x; p = p })) (by_offset x p) (port-of (record { v = x; p = p }) l); is_to = subst (λ (d : MapPort). IsPortOf found d (record { v = y; p = q })) (by_offset y q) (port-of (record { v = y; p = q }) r); cabled = c })),
          (λ c. back_from x y p q l r ((cabled-k (record { v = image x; p = p +ℤ offset x }) (record { v = image y; p = q +ℤ offset y })).0 c)),
        );
      }
        where
          from-is : (x : ℕ) (p : ℤ) (d : MapPort) → x < length m.vertices → IsPortOf found (record { v = image x; p = p +ℤ offset x }) d → d ≡ record { v = x; p = p }
          from-is x p d l i =
              let one : ◌≡◌ {A = MapPort} (record { v = d.v; p = i.entry }) (record { v = x; p = entry_of found (image x) }) = one-there found (image x) (record { v = d.v; p = i.entry }) (record { v = x; p = entry_of found (image x) }) i.there (image-there x l) in
              let entry = ap (λ (y : MapPort). y.p) one in
              let port : d.p ≡ p = i.port ∙ ap (λ z. (p +ℤ offset x) +ℤ z) entry ∙ again p (entry_of found (image x)) in
              λ n. record { v = (one n).v; p = port n }
            where
              again : (p a : ℤ) → (p +ℤ neg_ℤ a) +ℤ a ≡ p
              again p a = omega (arith, ints)

          back_from : (x y : ℕ) (p q : ℤ) → x < length m.vertices → y < length m.vertices → IsMoved m found (record { v = image x; p = p +ℤ offset x }) (record { v = image y; p = q +ℤ offset y }) → IsCabled m (record { v = x; p = p }) (record { v = y; p = q })
          back_from x y p q l r i = subst (λ d. IsCabled m d (record { v = y; p = q })) (from-is x p i.from l i.is_from) (subst (IsCabled m i.from) (from-is y q i.to r i.is_to) i.cabled)
