-- A right map has no more hosts and switches than the fabric: its vertices stand for different ones.
use Rattle.std.proofs.Common.{◌≡◌, ◌≢◌, ◌<◌, ◌≤◌, ℕ, zero, suc, List, [], ◌∷◌, length, true, Option, Some, None, sym, ◌∙◌, subst, ap, refl, arith, inl, inr}
use Rattle.std.specs.Prelude.{slice_get}
use Rattle.std.proofs.lemmas.Bool.{false≢true}
use Rattle.std.proofs.lemmas.Bool.Decides.{nat_tests}
use Rattle.net_defs.specs.declared.vertex.Vertex.{Vertex}
use Rattle.net_defs.specs.declared.vertex.Vertex.TheVariants.{Host, Switch}
use Rattle.net_defs.specs.Network.{Network, IsFabric, Apart, has_vertex}
use Rattle.journal_defs.proofs.Distance.{path-vertex}
use Rattle.journal_defs.proofs.Members.{IsMember, all-from-members}
use Rattle.map_defs.specs.declared.vertex.MapVertex.{MapVertex}
use Rattle.map_defs.specs.declared.vertex.MapVertex.TheVariants.{Host as MapHost, Switch as MapSwitch}
use Rattle.map_defs.specs.NetMap.{NetMap, host_at, switch_at, host_of_vertex, is_switch_vertex, hosts_of, switches_of}
use Rattle.map_defs.specs.Sameness.{IsMapOfPart, address_of}
use Rattle.map_defs.proofs.Levels.{switch-there}
use Rattle.map_laws.proofs.Pigeons.{few-below}
use Rattle.map_laws.specs.Certificate.{IsNoLarger, RightMapIsNoLarger}
use Rattle.map_laws.proofs.Listed.{host-below, hosts-apart, member-host}

-- a vertex by its address
pub address-host : (v : Vertex) (h : ℕ) → address_of v ≡ Some h → v ≡ Host h
address-host (Host g) h e = let one : g ≡ h = cc in ap Host one
address-host (Switch s) h e = cc

abbrev number_of : Vertex → ℕ
number_of (Host h) = h
number_of (Switch s) = s

address-switch : (v : Vertex) → address_of v ≡ None → v ≡ Switch (number_of v)
address-switch (Host h) e = cc
address-switch (Switch s) e = refl

-- the switches for which the switches of a map stand
abbrev switch_images : (ℕ → Vertex) → List MapVertex → List ℕ
switch_images f [] = []
switch_images f (MapHost h ∷ vs) = switch_images (λ i. f (suc i)) vs
switch_images f (MapSwitch s ∷ vs) = number_of (f 0) ∷ switch_images (λ i. f (suc i)) vs

images-length : (f : ℕ → Vertex) (vs : List MapVertex) → length (switch_images f vs) ≡ length (switches_of vs)
images-length f [] = refl
images-length f (MapHost h ∷ vs) = images-length (λ i. f (suc i)) vs
images-length f (MapSwitch s ∷ vs) = ap suc (images-length (λ i. f (suc i)) vs)

image-member : (f : ℕ → Vertex) (vs : List MapVertex) (x : ℕ) → IsMember x (switch_images f vs) → (v : ℕ) × (switch_at (slice_get vs v) ≡ true) × (number_of (f v) ≡ x)
image-member f [] x i = absurd i
image-member f (MapHost h ∷ vs) x i = let p = image-member (λ i. f (suc i)) vs x i in (suc p.0, p.1, p.2)
image-member f (MapSwitch s ∷ vs) x (inl e) = (zero, refl, sym e)
image-member f (MapSwitch s ∷ vs) x (inr i) = let p = image-member (λ i. f (suc i)) vs x i in (suc p.0, p.1, p.2)

less : (v w : ℕ) → suc v ≡ suc w → v ≡ w
less v w e = omega arith

images-apart : (f : ℕ → Vertex) (vs : List MapVertex) → ((v w : ℕ) → switch_at (slice_get vs v) ≡ true → switch_at (slice_get vs w) ≡ true → number_of (f v) ≡ number_of (f w) → v ≡ w) → Apart (switch_images f vs)
images-apart f [] once = tt
images-apart f (MapHost h ∷ vs) once = images-apart (λ i. f (suc i)) vs (λ v w a b e. less v w (once (suc v) (suc w) a b e))
images-apart f (MapSwitch s ∷ vs) once = (all-from-members (λ y. number_of (f 0) ≢ y) (switch_images (λ i. f (suc i)) vs) other, images-apart (λ i. f (suc i)) vs (λ v w a b e. less v w (once (suc v) (suc w) a b e)))
  where
    other : (y : ℕ) → IsMember y (switch_images (λ i. f (suc i)) vs) → number_of (f 0) ≢ y
    other y i e = let p = image-member (λ i. f (suc i)) vs y i in let z : 0 ≡ suc p.0 = once 0 (suc p.0) refl p.1 (e ∙ sym p.2) in absurd (omega arith)

switch-no_host : (o : Option MapVertex) → switch_at o ≡ true → host_at o ≡ None
switch-no_host None e = absurd (false≢true e)
switch-no_host (Some (MapHost h)) e = absurd (false≢true e)
switch-no_host (Some (MapSwitch s)) e = refl

module _ (n : Network) (host : ℕ) (m : NetMap) (fabric : IsFabric n) (there : has_vertex n (Host host) ≡ true) (same : IsMapOfPart n host m) where
  image-there : (v : ℕ) → v < length m.vertices → has_vertex n (same.image v) ≡ true
  image-there v l = let i = same.image_in v l in path-vertex n (Host host) (same.image v) i.cables fabric there i.path

  image-one : (v w : ℕ) → v < length m.vertices → w < length m.vertices → same.image v ≡ same.image w → v ≡ w
  image-one v w k l e = sym (same.origin_image v k) ∙ ap same.origin e ∙ same.origin_image w l

  image-host : (v h : ℕ) → host_of_vertex m v ≡ Some h → same.image v ≡ Host h
  image-host v h e = address-host (same.image v) h (same.addresses v (host-below m.vertices v h e) ∙ e)

  image-switch : (v : ℕ) → is_switch_vertex m v ≡ true → same.image v ≡ Switch (number_of (same.image v))
  image-switch v e = address-switch (same.image v) (same.addresses v (switch-there m.vertices v e) ∙ switch-no_host (slice_get m.vertices v) e)

  few_hosts : length (hosts_of m.vertices) ≤ length n.hosts
  few_hosts = few-below (length n.hosts) (hosts_of m.vertices) (hosts-apart m.vertices once) (all-from-members (λ h. h < length n.hosts) (hosts_of m.vertices) below)
    where
      once : (v w h : ℕ) → host_of_vertex m v ≡ Some h → host_of_vertex m w ≡ Some h → v ≡ w
      once v w h a b = image-one v w (host-below m.vertices v h a) (host-below m.vertices w h b) (image-host v h a ∙ sym (image-host w h b))

      below : (h : ℕ) → IsMember h (hosts_of m.vertices) → h < length n.hosts
      below h i =
          let p = member-host m.vertices h i in
          let t : has_vertex n (Host h) ≡ true = ap (has_vertex n) (sym (image-host p.0 h p.1)) ∙ image-there p.0 (host-below m.vertices p.0 h p.1) in
          grind (arith, nat_tests, t)

  few_switches : length (switches_of m.vertices) ≤ length n.switches
  few_switches = subst (λ k. k ≤ length n.switches) (images-length same.image m.vertices) (few-below (length n.switches) (switch_images same.image m.vertices) (images-apart same.image m.vertices once) (all-from-members (λ s. s < length n.switches) (switch_images same.image m.vertices) below))
    where
      once : (v w : ℕ) → is_switch_vertex m v ≡ true → is_switch_vertex m w ≡ true → number_of (same.image v) ≡ number_of (same.image w) → v ≡ w
      once v w a b e = image-one v w (switch-there m.vertices v a) (switch-there m.vertices w b) (image-switch v a ∙ ap Switch e ∙ sym (image-switch w b))

      below : (s : ℕ) → IsMember s (switch_images same.image m.vertices) → s < length n.switches
      below s i =
          let p = image-member same.image m.vertices s i in
          let t : has_vertex n (Switch s) ≡ true = ap (λ k. has_vertex n (Switch k)) (sym p.2) ∙ ap (has_vertex n) (sym (image-switch p.0 p.1)) ∙ image-there p.0 (switch-there m.vertices p.0 p.1) in
          grind (arith, nat_tests, t)

  pub no_larger : IsNoLarger n m
  no_larger = record { hosts = few_hosts; switches = few_switches }

pub right_map_is_no_larger : RightMapIsNoLarger
right_map_is_no_larger n host m fabric there same = no_larger n host m fabric there same
