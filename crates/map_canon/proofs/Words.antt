-- The vertex of a map that a line names is found.
use Rattle.std.proofs.Common.{◌≡◌, ◌≢◌, ◌<◌, ◌≤◌, ◌+◌, ℕ, zero, suc, List, [], ◌∷◌, Bool, true, false, length, nat_eq, Some, option_map, refl, ap, ◌∙◌, subst, arith, if◌then◌else◌}
use Rattle.std.specs.Prelude.{position, slice_get}
use Rattle.std.specs.List.{AllByRecursion}
use Rattle.std.proofs.lemmas.Bool.Decides.{nat_tests, Decides-eqb}
use Rattle.net_defs.specs.Network.{Apart}
use Rattle.map_defs.specs.declared.vertex.MapVertex.{MapVertex}
use Rattle.map_defs.specs.declared.vertex.MapVertex.TheVariants.{Host, Switch}
use Rattle.map_defs.specs.NetMap.{NetMap, hosts_of}
use Rattle.map_defs.specs.Routing.{is_host_named}
use Rattle.fabric_file.proofs.Cutting.{position-cons}
use Rattle.map_canon.specs.Declaring.{is_switch_numbered, vertex_in}

-- what holds of each address holds of a host's
host-holds : (P : ℕ → Type 0) (vs : List MapVertex) (v h : ℕ) → AllByRecursion P (hosts_of vs) → slice_get vs v ≡ Some (Host h) → P h
host-holds P [] v h all e = cc
host-holds P (Host g ∷ vs) zero h all e = let same : g ≡ h = cc in subst P same all.0
host-holds P (Host g ∷ vs) (suc v) h all e = host-holds P vs v h all.1 e
host-holds P (Switch s ∷ vs) zero h all e = cc
host-holds P (Switch s ∷ vs) (suc v) h all e = host-holds P vs v h all e

found-next : {X : Type 0} (p : X → Bool) (x : X) (xs : List X) (k : ℕ) → p x ≡ false → position p xs ≡ Some k → position p (x ∷ xs) ≡ Some (suc k)
found-next p x xs k t rest =
    let plus : 1 + k ≡ suc k = omega arith in
    position-cons p x xs ∙ (λ j. if t j then Some 0 else option_map (λ n. 1 + n) (rest j)) ∙ ap Some plus

found-here : {X : Type 0} (p : X → Bool) (x : X) (xs : List X) → p x ≡ true → position p (x ∷ xs) ≡ Some 0
found-here p x xs t = position-cons p x xs ∙ (λ j. if t j then Some 0 else option_map (λ n. 1 + n) (position p xs))

-- a host is found at its vertex
pub found-host : (vs : List MapVertex) (v h : ℕ) → Apart (hosts_of vs) → slice_get vs v ≡ Some (Host h) → position (is_host_named h) vs ≡ Some v
found-host [] v h apart e = cc
found-host (Host g ∷ vs) zero h apart e = let same : g ≡ h = cc in found-here (is_host_named h) (Host g) vs ((Decides-eqb g h).1 same)
found-host (Host g ∷ vs) (suc v) h apart e = by (nat_eq g h) refl (found-host vs v h apart.1 e)
  where
    by : (t : Bool) → nat_eq g h ≡ t → position (is_host_named h) vs ≡ Some v → position (is_host_named h) (Host g ∷ vs) ≡ Some (suc v)
    by true t rest = absurd (host-holds (λ x. g ≢ x) vs v h apart.0 e ((Decides-eqb g h).0 t))
    by false t rest = found-next (is_host_named h) (Host g) vs v t rest
found-host (Switch s ∷ vs) zero h apart e = cc
found-host (Switch s ∷ vs) (suc v) h apart e = found-next (is_host_named h) (Switch s) vs v refl (found-host vs v h apart e)

-- switches numbered in their order, from a number on
abbrev pub AreNumbered : ℕ → List MapVertex → Type 0
AreNumbered k [] = Unit {0}
AreNumbered k (Host h ∷ vs) = AreNumbered k vs
AreNumbered k (Switch s ∷ vs) = (s ≡ k) × AreNumbered (k + 1) vs

pub number-least : (vs : List MapVertex) (k v s : ℕ) → AreNumbered k vs → slice_get vs v ≡ Some (Switch s) → k ≤ s
number-least [] k v s all e = cc
number-least (Host h ∷ vs) k zero s all e = cc
number-least (Host h ∷ vs) k (suc v) s all e = number-least vs k v s all e
number-least (Switch t ∷ vs) k zero s all e = let same : t ≡ s = cc in let own = all.0 in omega arith
number-least (Switch t ∷ vs) k (suc v) s all e = let l = number-least vs (k + 1) v s all.1 e in omega arith

pub number-most : (vs : List MapVertex) (k v s : ℕ) → AreNumbered k vs → slice_get vs v ≡ Some (Switch s) → s < k + length vs
number-most [] k v s all e = cc
number-most (Host h ∷ vs) k zero s all e = cc
number-most (Host h ∷ vs) k (suc v) s all e = let l = number-most vs k v s all e in omega arith
number-most (Switch t ∷ vs) k zero s all e = let same : t ≡ s = cc in let own = all.0 in omega arith
number-most (Switch t ∷ vs) k (suc v) s all e = let l = number-most vs (k + 1) v s all.1 e in omega arith

pub found-switch : (vs : List MapVertex) (k v s : ℕ) → AreNumbered k vs → slice_get vs v ≡ Some (Switch s) → position (is_switch_numbered s) vs ≡ Some v
found-switch [] k v s all e = cc
found-switch (Host h ∷ vs) k zero s all e = cc
found-switch (Host h ∷ vs) k (suc v) s all e = found-next (is_switch_numbered s) (Host h) vs v refl (found-switch vs k v s all e)
found-switch (Switch t ∷ vs) k zero s all e = let same : t ≡ s = cc in found-here (is_switch_numbered s) (Switch t) vs ((Decides-eqb t s).1 same)
found-switch (Switch t ∷ vs) k (suc v) s all e =
    let own = all.0 in
    let l = number-least vs (k + 1) v s all.1 e in
    let other : nat_eq t s ≡ false = grind (arith, nat_tests) in
    found-next (is_switch_numbered s) (Switch t) vs v other (found-switch vs (k + 1) v s all.1 e)

-- the vertex that a line names is there
pub found : (m : NetMap) (v : ℕ) (x : MapVertex) → Apart (hosts_of m.vertices) → AreNumbered 0 m.vertices → slice_get m.vertices v ≡ Some x → vertex_in m x ≡ Some v
found m v (Host h) apart numbered e = found-host m.vertices v h apart e
found m v (Switch s) apart numbered e = found-switch m.vertices 0 v s numbered e
