-- A map keeps the rules of maps, and the far end of each port, when its cables are put in order.
use Rattle.std.proofs.Common.{◌≡◌, ◌<◌, ◌≤◌, ◌+◌, ◌-◌, ◌*◌, ◌/◌, ◌%◌, pos, ◌-ℤ◌, ℕ, zero, suc, List, [], ◌∷◌, ◌++◌, length, Option, Some, None, refl, ap, sym, ◌∙◌, subst, arith}
use Rattle.map_defs.specs.declared.vertex.MapCable.{MapCable}
use Rattle.map_defs.specs.NetMap.{NetMap, MapPort, IsMap, map_far}
use Rattle.map_defs.proofs.Ports.{far_is_cabled}
use Rattle.fabric_map.specs.Growing.{IsFabricMap, with_cable, with_cables}
use Rattle.fabric_map.proofs.Grown.{map-cable}
use Rattle.port_align.specs.Ends.{IsOutside}
use Rattle.fabric_map.specs.Table.{port_at}
use Rattle.map_quotient.specs.InOrder.{port_of_place, rising_cable, cable_from, cables_below, in_order}
use Rattle.map_quotient.proofs.Ordered.{ordered_to, ordered-next, ordered-skip, ordered-only, ordered-each}
use Rattle.map_quotient.proofs.Taken.{next-taken}

-- without cables the rules are kept
bare-map : (m : NetMap) → IsFabricMap m → IsFabricMap (ordered_to m 0)
bare-map m f = record {
  is_map = record {
    hosts_once = f.is_map.hosts_once;
    switches_numbered = f.is_map.switches_numbered;
    one_mark_each = f.is_map.one_mark_each;
    hosts_marked = f.is_map.hosts_marked;
    cabled_vertices = tt;
    ports_once = tt;
    host_ports = tt;
    ports_in_range = tt;
    ports_near = tt;
  };
  few_vertices = f.few_vertices;
  few_cables = omega arith;
}

-- and with each cable that is taken
ordered-map : (m : NetMap) → IsFabricMap m → (k : ℕ) → IsFabricMap (ordered_to m k)
ordered-map m f zero = bare-map m f
ordered-map m f (suc k) = subst (λ n. IsFabricMap (ordered_to m n)) (let e : k + 1 ≡ suc k = omega arith in e) (by (cable_from m (port_of_place k)) refl (ordered-map m f k))
  where
    by : (o : Option MapCable) → cable_from m (port_of_place k) ≡ o → IsFabricMap (ordered_to m k) → IsFabricMap (ordered_to m (k + 1))
    by None e old = subst IsFabricMap (ordered-skip m (ordered_to m k) k refl e) old
    by (Some c) e old = subst IsFabricMap (ordered-next m (ordered_to m k) (with_cable (ordered_to m k) c) k c refl e refl) (map-cable (ordered_to m k) c old (next-taken m k c f e))

pub in-order-map : (m : NetMap) → IsFabricMap m → IsFabricMap (in_order m)
in-order-map m f = ordered-map m f (31 * length m.vertices)

-- no far end changes
pub far-same : (m : NetMap) → IsFabricMap m → (d : MapPort) → map_far (in_order m) d ≡ map_far m d
far-same m f d = by (map_far (in_order m) d) (map_far m d) refl refl
  where
    new : IsMap (in_order m)
    new = (in-order-map m f).is_map

    by : (o p : Option MapPort) → map_far (in_order m) d ≡ o → map_far m d ≡ p → o ≡ p
    by None None a b = refl
    by (Some e) p a b = sym ((far_is_cabled m d e f.is_map).1 (ordered-only m f.is_map d e ((far_is_cabled (in_order m) d e new).0 a))) ∙ b
    by None (Some e) a b = sym a ∙ (far_is_cabled (in_order m) d e new).1 (ordered-each m f.is_map d e ((far_is_cabled m d e f.is_map).0 b))

-- the cables of the first places, with the next
pub cables-next : (m : NetMap) (k : ℕ) (old new : List MapCable) (c : MapCable) → old ≡ cables_below m k → cable_from m (port_of_place k) ≡ Some c → new ≡ old ++ c ∷ [] → new ≡ cables_below m (k + 1)
cables-next m k old new c is from added = ap (λ (n : NetMap). n.cables) (ordered-next m (ordered_to m k) (with_cables m new) k c refl from (ap (with_cables m) (added ∙ ap (λ cs. cs ++ c ∷ []) is)))

pub cables-skip : (m : NetMap) (k : ℕ) (old : List MapCable) → old ≡ cables_below m k → cable_from m (port_of_place k) ≡ None → old ≡ cables_below m (k + 1)
cables-skip m k old is from = is ∙ ap (λ (n : NetMap). n.cables) (ordered-skip m (ordered_to m k) k refl from)

-- places without a cable add none
pub cables-none : (m : NetMap) (k gap : ℕ) → ((i : ℕ) → k ≤ i → i < k + gap → map_far m (port_of_place i) ≡ None) → cables_below m k ≡ cables_below m (k + gap)
cables-none m k zero none = let same : k ≡ k + 0 = omega arith in ap (cables_below m) same
cables-none m k (suc gap) none =
    let before : cables_below m k ≡ cables_below m (k + gap) = cables-none m k gap (λ i low high. none i low (omega (arith, high))) in
    let last : cable_from m (port_of_place (k + gap)) ≡ None = ap (rising_cable (port_of_place (k + gap))) (none (k + gap) (omega arith) (omega arith)) in
    let end : k + gap + 1 ≡ k + suc gap = omega arith in
    cables-skip m (k + gap) (cables_below m k) before last ∙ ap (cables_below m) end

-- a place outside of its vertex's span has none
pub outside-none : (m : NetMap) (v first end k : ℕ) → ((i : ℕ) → i < 31 → IsOutside first end i → map_far m (port_at v i) ≡ None) → 31 * v ≤ k → k < 31 * v + 31 → IsOutside first end (k - 31 * v) → map_far m (port_of_place k) ≡ None
outside-none m v first end k bare low high out =
    let number : k / 31 ≡ v = omega (arith, low, high) in
    let place : k % 31 ≡ k - 31 * v = omega (arith, low, high) in
    let same : port_of_place k ≡ port_at v (k - 31 * v) = (λ j. record { v = number j; p = pos (place j) -ℤ pos 15 }) in
    ap (map_far m) same ∙ bare (k - 31 * v) (omega (arith, low, high)) out
