-- The far end of a port of a map is what a cable joins to it.
use Rattle.std.proofs.Common.{◌≡◌, ◌≢◌, ℕ, zero, suc, List, [], ◌∷◌, Bool, true, false, Some, subst, refl, ◌⊎◌, inl, inr, if◌then◌else◌}
use Rattle.std.specs.Prelude.{slice_get}
use Rattle.std.specs.Ordering.{int_eq}
use Rattle.std.specs.List.{AllByRecursion}
use Rattle.std.proofs.lemmas.Bool.{and_parts, and_from}
use Rattle.std.proofs.lemmas.Bool.Decides.{Decides-eqb, Decides-int_eq}
use Rattle.net_defs.specs.Network.{Apart}
use Rattle.map_defs.specs.declared.vertex.MapCable.{MapCable}
use Rattle.map_defs.specs.NetMap.{NetMap, MapPort, IsMap, IsCabled, first_end, second_end, same_port, far_port, map_far, map_ends}
use Rattle.map_defs.specs.NetMap.IsCabled.{forth, back}
use Rattle.map_defs.specs.Laws.{FarIsCabled}

pub same_port-true : (d e : MapPort) → same_port d e ≡ true → d ≡ e
same_port-true d e t =
    let two = and_parts _ (int_eq d.p e.p) t in
    let v : d.v ≡ e.v = (Decides-eqb d.v e.v).0 two.0 in
    let p : d.p ≡ e.p = (Decides-int_eq d.p e.p).0 two.1 in
    λ i. record { v = v i; p = p i }

pub same_port-refl : (d : MapPort) → same_port d d ≡ true
same_port-refl d = and_from _ (int_eq d.p d.p) ((Decides-eqb d.v d.v).1 refl) ((Decides-int_eq d.p d.p).1 refl)

pub same_port-false : (d e : MapPort) → d ≢ e → same_port d e ≡ false
same_port-false d e differ = by (same_port d e) refl
  where
    by : (b : Bool) → same_port d e ≡ b → same_port d e ≡ false
    by true t = absurd (differ (same_port-true d e t))
    by false t = t

-- a cable at a place joins two ports, one way or the other
record Found (cs : List MapCable) (d e : MapPort) : Type 0 where
  pub place : ℕ
  pub cable : MapCable
  pub there : slice_get cs place ≡ Some cable
  pub ends : ((first_end cable ≡ d) × (second_end cable ≡ e)) ⊎ ((second_end cable ≡ d) × (first_end cable ≡ e))

far-found : (cs : List MapCable) (d e : MapPort) → far_port cs d ≡ Some e → Found cs d e
far-found [] d e f = cc
far-found (c ∷ cs) d e f = by (same_port (first_end c) d) (same_port (second_end c) d) refl refl f (far-found cs d e)
  where
    by : (s t : Bool) → same_port (first_end c) d ≡ s → same_port (second_end c) d ≡ t → (if s then Some (second_end c) else if t then Some (first_end c) else far_port cs d) ≡ Some e → (far_port cs d ≡ Some e → Found cs d e) → Found (c ∷ cs) d e
    by true t p q g rest = record { place = 0; cable = c; there = refl; ends = inl (same_port-true (first_end c) d p, (let o : second_end c ≡ e = cc in o)) }
    by false true p q g rest = record { place = 0; cable = c; there = refl; ends = inr (same_port-true (second_end c) d q, (let o : first_end c ≡ e = cc in o)) }
    by false false p q g rest = let h = rest g in record { place = suc h.place; cable = h.cable; there = h.there; ends = h.ends }

found-cabled : (m : NetMap) (d e : MapPort) → Found m.cables d e → IsCabled m d e
found-cabled m d e h = by h.ends
  where
    by : ((first_end h.cable ≡ d) × (second_end h.cable ≡ e)) ⊎ ((second_end h.cable ≡ d) × (first_end h.cable ≡ e)) → IsCabled m d e
    by (inl p) = subst (λ x. IsCabled m x e) p.0 (subst (λ x. IsCabled m (first_end h.cable) x) p.1 (forth h.place h.there))
    by (inr p) = subst (λ x. IsCabled m x e) p.0 (subst (λ x. IsCabled m (second_end h.cable) x) p.1 (back h.place h.there))

-- what holds of each end holds of both ends of a cable at a place
place-holds : (P : MapPort → Type 0) (cs : List MapCable) (k : ℕ) (c : MapCable) → AllByRecursion P (map_ends cs) → slice_get cs k ≡ Some c → P (first_end c) × P (second_end c)
place-holds P [] k c all e = cc
place-holds P (x ∷ cs) zero c all e = let one : x ≡ c = cc in (subst (λ y. P (first_end y)) one all.0, subst (λ y. P (second_end y)) one all.1.0)
place-holds P (x ∷ cs) (suc k) c all e = place-holds P cs k c all.1.1 e

place-far : (cs : List MapCable) (k : ℕ) (c : MapCable) → Apart (map_ends cs) → slice_get cs k ≡ Some c → (far_port cs (first_end c) ≡ Some (second_end c)) × (far_port cs (second_end c) ≡ Some (first_end c))
place-far [] k c apart e = cc
place-far (x ∷ cs) zero c apart e = let one : x ≡ c = cc in subst (λ y. (far_port (x ∷ cs) (first_end y) ≡ Some (second_end y)) × (far_port (x ∷ cs) (second_end y) ≡ Some (first_end y))) one (rw (same_port-refl (first_end x)) refl, rw (same_port-false (first_end x) (second_end x) apart.0.0, same_port-refl (second_end x)) refl)
place-far (x ∷ cs) (suc k) c apart e =
    let rest = place-far cs k c apart.1.1 e in
    let a = place-holds (λ y. first_end x ≢ y) cs k c apart.0.1 e in
    let b = place-holds (λ y. second_end x ≢ y) cs k c apart.1.0 e in
    (rw (same_port-false (first_end x) (first_end c) a.0, same_port-false (second_end x) (first_end c) b.0) rest.0, rw (same_port-false (first_end x) (second_end c) a.1, same_port-false (second_end x) (second_end c) b.1) rest.1)

cabled-far : (m : NetMap) (d e : MapPort) → IsMap m → IsCabled m d e → map_far m d ≡ Some e
cabled-far m d e r (forth k {c = c} p) = (place-far m.cables k c r.ports_once p).0
cabled-far m d e r (back k {c = c} p) = (place-far m.cables k c r.ports_once p).1

pub far_is_cabled : FarIsCabled
far_is_cabled m d e r = (λ f. found-cabled m d e (far-found m.cables d e f), cabled-far m d e r)
