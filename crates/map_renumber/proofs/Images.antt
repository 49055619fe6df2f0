-- Walks from vertex 0 of two maps that are the same up to offset.
use Rattle.std.proofs.Common.{◌≡◌, ◌≢◌, ◌<◌, inl, inr, ℕ, zero, suc, List, [], ◌∷◌, Bool, true, false, length, Option, Some, None, option_and_then, refl, ap, sym, ◌∙◌, subst, arith, if◌then◌else◌}
use Rattle.std.specs.Prelude.{ℤ, pos, ◌+ℤ◌, ◌-ℤ◌, slice_get, option_map}
use Rattle.std.proofs.lemmas.Int.{ints}
use Rattle.net_defs.specs.Network.{Apart}
use Rattle.journal_defs.specs.Tree.{Node}
use Rattle.journal_defs.specs.Tree.Node.{Mapper, Reached}
use Rattle.journal_defs.proofs.Members.{IsMember, all-member}
use Rattle.map_defs.specs.declared.vertex.MapVertex.{MapVertex}
use Rattle.map_defs.specs.declared.vertex.MapVertex.TheVariants.{Host, Switch}
use Rattle.map_defs.specs.NetMap.{NetMap, MapPort, IsMap, IsCabled, host_at, switch_at, hosts_of, host_of_vertex, is_switch_vertex, map_far}
use Rattle.map_defs.specs.Routing.{led_to, next_port, turned_to}
use Rattle.map_defs.specs.Sameness.{IsSame, graph_of_map}
use Rattle.map_defs.proofs.Ports.{far_is_cabled}
use Rattle.map_laws.proofs.Least.{below-get}
use Rattle.fabric_map.proofs.Ends.{port-holds}
use Rattle.map_renumber.specs.Canon.{entered, start_port}
use Rattle.map_renumber.proofs.Levels.{far-back}

-- a host stands once
host-member : (vs : List MapVertex) (v h : ℕ) → host_at (slice_get vs v) ≡ Some h → IsMember h (hosts_of vs)
host-member [] v h e = cc
host-member (Host g ∷ vs) zero h e = inl (let one : h ≡ g = cc in one)
host-member (Host g ∷ vs) (suc v) h e = inr (host-member vs v h e)
host-member (Switch s ∷ vs) zero h e = cc
host-member (Switch s ∷ vs) (suc v) h e = host-member vs v h e

pub host-one : (vs : List MapVertex) (v w h : ℕ) → Apart (hosts_of vs) → host_at (slice_get vs v) ≡ Some h → host_at (slice_get vs w) ≡ Some h → v ≡ w
host-one [] v w h apart a b = cc
host-one (Host g ∷ vs) zero zero h apart a b = refl
host-one (Host g ∷ vs) zero (suc w) h apart a b = absurd (all-member (λ y. g ≢ y) h (hosts_of vs) apart.0 (host-member vs w h b) (let one : g ≡ h = cc in one))
host-one (Host g ∷ vs) (suc v) zero h apart a b = absurd (all-member (λ y. g ≢ y) h (hosts_of vs) apart.0 (host-member vs v h a) (let one : g ≡ h = cc in one))
host-one (Host g ∷ vs) (suc v) (suc w) h apart a b = ap suc (host-one vs v w h apart.1 a b)
host-one (Switch s ∷ vs) zero w h apart a b = cc
host-one (Switch s ∷ vs) (suc v) zero h apart a b = cc
host-one (Switch s ∷ vs) (suc v) (suc w) h apart a b = ap suc (host-one vs v w h apart a b)

pub host-below : (vs : List MapVertex) (v h : ℕ) → host_at (slice_get vs v) ≡ Some h → v < length vs
host-below [] v h e = cc
host-below (x ∷ vs) zero h e = omega arith
host-below (x ∷ vs) (suc v) h e = let l = host-below vs v h e in omega arith

-- a vertex is a switch where it is no host
switch-same : (x y : Option MapVertex) (a b : MapVertex) → x ≡ Some a → y ≡ Some b → host_at y ≡ host_at x → switch_at y ≡ switch_at x
switch-same (Some (Host g)) (Some (Host h)) a b p q e = refl
switch-same (Some (Host g)) (Some (Switch t)) a b p q e = cc
switch-same (Some (Switch s)) (Some (Host h)) a b p q e = cc
switch-same (Some (Switch s)) (Some (Switch t)) a b p q e = refl
switch-same None y a b p q e = cc
switch-same (Some x) None a b p q e = cc

turn-after : (p t o : ℤ) → (p +ℤ o) +ℤ t ≡ (p +ℤ t) +ℤ o
turn-after p t o = omega (arith, ints)

from-offset : (p o : ℤ) → (p -ℤ o) +ℤ o ≡ p
from-offset p o = omega (arith, ints)

by-nothing : (o : ℤ) → o ≡ pos 0 → pos 0 +ℤ o ≡ pos 0
by-nothing o e = omega (arith, ints)

module _ (m n : NetMap) (rules_m : IsMap m) (rules_n : IsMap n) (same : IsSame (graph_of_map m) (graph_of_map n)) where
  -- the port that stands for a port
  abbrev pub image_of : MapPort → MapPort
  image_of d = record { v = same.image d.v; p = d.p +ℤ same.offset d.v }

  -- a port of a vertex, or none
  abbrev pub IsInside : Option MapPort → Type 0
  IsInside None = Unit {0}
  IsInside (Some d) = d.v < length m.vertices

  pub far-inside : (d e : MapPort) → map_far m d ≡ Some e → e.v < length m.vertices
  far-inside d e far = port-holds (λ (x : MapPort). x.v < length m.vertices) m.cables e d rules_m.cabled_vertices (far-back m d e rules_m far)

  far-inside_n : (d e : MapPort) → map_far n d ≡ Some e → e.v < length n.vertices
  far-inside_n d e far = port-holds (λ (x : MapPort). x.v < length n.vertices) n.cables e d rules_n.cabled_vertices (far-back n d e rules_n far)

  -- each port stands for one
  pub from-image : (y : MapPort) → y.v < length n.vertices → (x : MapPort) × (x.v < length m.vertices) × (image_of x ≡ y)
  from-image y l =
      let o = same.origin y.v in
      let vertex : same.image o ≡ y.v = same.image_origin y.v l in
      let port : (y.p -ℤ same.offset o) +ℤ same.offset o ≡ y.p = from-offset y.p (same.offset o) in
      (record { v = o; p = y.p -ℤ same.offset o }, same.origin_in y.v l, (λ i. record { v = vertex i; p = port i }))

  far-image : (d : MapPort) → d.v < length m.vertices → map_far n (image_of d) ≡ option_map image_of (map_far m d)
  far-image d low = by (map_far m d) (map_far n (image_of d)) refl refl
    where
      by : (x y : Option MapPort) → map_far m d ≡ x → map_far n (image_of d) ≡ y → y ≡ option_map image_of x
      by None None p q = refl
      by (Some e) y p q = sym q ∙ (far_is_cabled n (image_of d) (image_of e) rules_n).1 ((same.cables d.v e.v d.p e.p low (far-inside d e p)).0 ((far_is_cabled m d e rules_m).0 p))
      by None (Some f) p q =
          let x = from-image f (far-inside_n (image_of d) f q) in
          let there : IsCabled n (image_of d) (image_of x.0) = subst (IsCabled n (image_of d)) (sym x.2) ((far_is_cabled n (image_of d) f rules_n).0 q) in
          let far : map_far m d ≡ Some x.0 = (far_is_cabled m d x.0 rules_m).1 ((same.cables d.v x.0.v d.p x.0.p low x.1).1 there) in
          let none : None ≡ Some x.0 = sym p ∙ far in
          cc

  switch-image : (v : ℕ) → v < length m.vertices → is_switch_vertex n (same.image v) ≡ is_switch_vertex m v
  switch-image v l =
      let a = below-get m.vertices v l in
      let b = below-get n.vertices (same.image v) (same.image_in v l) in
      switch-same (slice_get m.vertices v) (slice_get n.vertices (same.image v)) a.0 b.0 a.1 b.1 (same.addresses v l)

  turned-image : (x : MapPort) (t : ℤ) → x.v < length m.vertices → turned_to n (image_of x) t ≡ option_map image_of (turned_to m x t)
  turned-image x t l = by (is_switch_vertex m x.v) (is_switch_vertex n (same.image x.v)) (switch-image x.v l)
    where
      by : (a b : Bool) → b ≡ a → (if b then Some (record { v = same.image x.v; p = (x.p +ℤ same.offset x.v) +ℤ t }) else None) ≡ option_map image_of (if a then Some (record { v = x.v; p = x.p +ℤ t }) else None)
      by true true e = ap Some (λ i. record { v = same.image x.v; p = turn-after x.p t (same.offset x.v) i })
      by true false e = cc
      by false true e = cc
      by false false e = refl

  next-image : (d : MapPort) (t : ℤ) → d.v < length m.vertices → next_port n (image_of d) t ≡ option_map image_of (next_port m d t)
  next-image d t l = ap (option_and_then (λ e. turned_to n e t)) (far-image d l) ∙ by (map_far m d) refl
    where
      by : (x : Option MapPort) → map_far m d ≡ x → option_and_then (λ e. turned_to n e t) (option_map image_of x) ≡ option_map image_of (option_and_then (λ e. turned_to m e t) x)
      by None p = refl
      by (Some x) p = turned-image x t (far-inside d x p)

  next-inside : (d : MapPort) (t : ℤ) → IsInside (next_port m d t)
  next-inside d t = by (map_far m d) refl
    where
      turned : (x : MapPort) → x.v < length m.vertices → (a : Bool) → IsInside (if a then Some (record { v = x.v; p = x.p +ℤ t }) else None)
      turned x l true = l
      turned x l false = tt

      by : (x : Option MapPort) → map_far m d ≡ x → IsInside (option_and_then (λ e. turned_to m e t) x)
      by None p = tt
      by (Some x) p = turned x (far-inside d x p) (is_switch_vertex m x.v)

  led-image : (w : List ℤ) (o : Option MapPort) → IsInside o → led_to n (option_map image_of o) w ≡ option_map image_of (led_to m o w)
  led-image w None i = refl
  led-image [] (Some d) i = far-image d i
  led-image (t ∷ w) (Some d) i = ap (λ o. led_to n o w) (next-image d t i) ∙ led-image w (next_port m d t) (next-inside d t)

  led-inside : (w : List ℤ) (o : Option MapPort) → IsInside o → IsInside (led_to m o w)
  led-inside w None i = tt
  led-inside [] (Some d) i = by (map_far m d) refl
    where
      by : (x : Option MapPort) → map_far m d ≡ x → IsInside x
      by None p = tt
      by (Some x) p = far-inside d x p
  led-inside (t ∷ w) (Some d) i = led-inside w (next_port m d t) (next-inside d t)

  module _ (h : ℕ) (host_m : host_of_vertex m 0 ≡ Some h) (host_n : host_of_vertex n 0 ≡ Some h) where
    start-low : 0 < length m.vertices
    start-low = host-below m.vertices 0 h host_m

    start-image : image_of start_port ≡ start_port
    start-image =
        let v : same.image 0 ≡ 0 = host-one n.vertices (same.image 0) 0 h rules_n.hosts_once (same.addresses 0 start-low ∙ host_m) host_n in
        let p : pos 0 +ℤ same.offset 0 ≡ pos 0 = by-nothing (same.offset 0) (same.host_offsets 0 h start-low host_m) in
        λ i. record { v = v i; p = p i }

    -- a node enters the vertex that stands for the one that it enters
    pub entered-image : (u : Node) → entered n u ≡ option_map image_of (entered m u)
    entered-image Mapper = ap Some (sym start-image)
    entered-image (Reached w) = ap (λ d. led_to n (Some d) w) (sym start-image) ∙ led-image w (Some start_port) start-low

    pub entered-inside : (u : Node) → IsInside (entered m u)
    entered-inside Mapper = start-low
    entered-inside (Reached w) = led-inside w (Some start_port) start-low
