-- A side with a host right at its vertex.
use Rattle.std.proofs.Common.{◌≡◌, ◌≢◌, ◌<◌, ◌⊎◌, inl, inr, ℕ, List, length, true, false, not, ◌&&◌, Some, is_some, get_or, refl, ap, sym, ◌∙◌, nat_eq}
use Rattle.std.specs.Prelude.{slice_get}
use Rattle.std.specs.List.{AllByRecursion}
use Rattle.std.proofs.lemmas.Bool.{and_parts, or_cases}
use Rattle.std.proofs.lemmas.Bool.Decides.{Decides-eqb}
use Rattle.std.proofs.lemmas.Option.{slice_get-get_or}
use Rattle.journal_defs.specs.Edges.Steps.{start, step}
use Rattle.map_defs.specs.declared.vertex.MapCable.{MapCable}
use Rattle.map_defs.specs.NetMap.{NetMap, IsMap, host_of_vertex}
use Rattle.map_defs.specs.Core.{without, side, is_hostless}
use Rattle.core_map.specs.Marks.{joins_host}
use Rattle.core_map.proofs.Covering.{cable-edge}
use Rattle.core_map.proofs.Marking.{any-some}
use Rattle.core_map.proofs.Sides.{cables-low, reached-within}
use Rattle.core_map.proofs.Spreading.{all-without}

module _ (m : NetMap) (k i v : ℕ) (c : MapCable) (r : IsMap m) (l : v < length m.vertices) (there : slice_get m.cables i ≡ Some c) (apart : i ≢ k) where
  low : AllByRecursion (λ (d : MapCable). (d.v < length m.vertices) × (d.w < length m.vertices)) (without m.cables k)
  low = all-without (λ d. (d.v < length m.vertices) × (d.w < length m.vertices)) m.cables k (cables-low (length m.vertices) m.cables r.cabled_vertices)

  host-beside : (w : ℕ) → ((c.v ≡ v) × (c.w ≡ w)) ⊎ ((c.w ≡ v) × (c.v ≡ w)) → is_some (host_of_vertex m w) ≡ true → is_hostless m (side m k v) ≡ false
  host-beside w ends host =
      ap not (any-some (λ u. is_some (host_of_vertex m u)) (side m k v) w
      (reached-within (length m.vertices) (without m.cables k) v w 1 low l (step start (cable-edge m.cables k i v w apart (record { cable = c; there = there; ends = ends }))))
      host)

  -- a cable to a host that isn't the one taken away
  pub near-host : joins_host m c v ≡ true → is_hostless m (side m k v) ≡ false
  near-host j = by (or_cases (nat_eq c.v v && is_some (host_of_vertex m c.w)) (nat_eq c.w v && is_some (host_of_vertex m c.v)) j)
    where
      by : ((nat_eq c.v v && is_some (host_of_vertex m c.w)) ≡ true) ⊎ ((nat_eq c.w v && is_some (host_of_vertex m c.v)) ≡ true) → is_hostless m (side m k v) ≡ false
      by (inl e) = let p = and_parts (nat_eq c.v v) (is_some (host_of_vertex m c.w)) e in host-beside c.w (inl ((Decides-eqb c.v v).0 p.0, refl)) p.1
      by (inr e) = let p = and_parts (nat_eq c.w v) (is_some (host_of_vertex m c.v)) e in host-beside c.v (inr ((Decides-eqb c.w v).0 p.0, refl)) p.1

-- the cable at a place of the map's cables
pub near-host-at : (m : NetMap) (cs : List MapCable) (k i v : ℕ) (d : MapCable) → cs ≡ m.cables → IsMap m → v < length m.vertices → i < length cs → i ≢ k → joins_host m (get_or cs i d) v ≡ true → is_hostless m (side m k v) ≡ false
near-host-at m cs k i v d e r l below apart j = near-host m k i v (get_or cs i d) r l (ap (λ (ds : List MapCable). slice_get ds i) (sym e) ∙ slice_get-get_or cs i d below) apart j
