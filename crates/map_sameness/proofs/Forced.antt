-- If a map is right, its vertices are paired as they must be.
use Rattle.std.proofs.Common.{◌≡◌, ◌<◌, ℕ, suc, true, length, Some, refl, ap, sym, ◌∙◌, subst, arith}
use Rattle.std.specs.Prelude.{ℤ, pos, negsuc, ◌+ℤ◌, ◌-ℤ◌, is_some}
use Rattle.std.proofs.lemmas.Bool.{false≢true}
use Rattle.std.proofs.lemmas.Bool.Decides.{Decides-eqb}
use Rattle.std.proofs.lemmas.Int.{ints}
use Rattle.std.proofs.lemmas.List.Quantifiers.{position-Some}
use Rattle.std.proofs.lemmas.Option.{slice_get-get_or}
use Rattle.net_defs.specs.declared.vertex.Vertex.{Vertex}
use Rattle.net_defs.specs.declared.vertex.Vertex.TheVariants.{Host, Switch}
use Rattle.net_defs.specs.declared.vertex.End.{End}
use Rattle.net_defs.specs.Network.{Network, far}
use Rattle.journal_defs.specs.Part.{IsInPart}
use Rattle.journal_defs.specs.Part.Path.{here, over as over_cable}
use Rattle.map_defs.specs.declared.vertex.MapVertex.{MapVertex}
use Rattle.map_defs.specs.declared.vertex.MapVertex.TheVariants.{Host as MapHost, Switch as MapSwitch}
use Rattle.map_defs.specs.NetMap.{NetMap, MapPort, IsMap, map_far, host_at, host_of_vertex}
use Rattle.map_defs.specs.Routing.{is_host_named, vertex_of_host}
use Rattle.map_defs.specs.Sameness.{IsMapOfPart, Joined, address_of}
use Rattle.map_defs.proofs.Ports.{far_is_cabled}
use Rattle.fabric_map.proofs.Ends.{far-holds}
use Rattle.fabric_map.proofs.Listings.{position-any, host-any}
use Rattle.map_sameness.specs.Standing.{Stands}
use Rattle.map_sameness.specs.Standing.Stands.{start, over}

-- ---- cables of a fabric
-- a cable of a fabric joins two ports
pub record IsJoined (n : Network) (x : Vertex) (p : ℤ) (y : Vertex) (q : ℤ) : Type 0 where
  pub low : ℕ
  pub high : ℕ
  pub is_low : p ≡ pos low
  pub is_high : q ≡ pos high
  pub cable : far n (record { v = x; p = low }) ≡ Some (record { v = y; p = high })

pub joined-far : (n : Network) (x : Vertex) (p : ℤ) (y : Vertex) (q : ℤ) → Joined n x p y q → IsJoined n x p y q
joined-far n x (pos p) y (pos q) j = record { low = p; high = q; is_low = refl; is_high = refl; cable = j }
joined-far n x (pos p) y (negsuc q) j = absurd j
joined-far n x (negsuc p) y q j = absurd j

pub far-joined : (n : Network) (x y : Vertex) (low : ℕ) (e : End) (p q : ℤ) → far n (record { v = x; p = low }) ≡ Some e → p ≡ pos low → e.v ≡ y → q ≡ pos e.p → Joined n x p y q
far-joined n x y low e p q f a b c =
    subst (λ z. Joined n x z y q) (sym a) (subst (λ z. Joined n x (pos low) y z) (sym c) (subst (λ z. Joined n x (pos low) z (pos e.p)) b f))

-- ---- hosts
pub host-vertex : (x : Vertex) (h : ℕ) → address_of x ≡ Some h → x ≡ Host h
host-vertex (Host g) h e = let one : g ≡ h = cc in ap Host one
host-vertex (Switch s) h e = cc

named-host : (x : MapVertex) (a : ℕ) → is_host_named a x ≡ true → host_at (Some x) ≡ Some a
named-host (MapHost h) a e = ap Some ((Decides-eqb h a).0 e)
named-host (MapSwitch s) a e = absurd (false≢true e)

-- the vertex of a host is that host
pub host-found : (m : NetMap) (a v : ℕ) → vertex_of_host m a ≡ Some v → (v < length m.vertices) × (host_of_vertex m v ≡ Some a)
host-found m a v e =
    let p = position-Some (is_host_named a) m.vertices v (MapSwitch 0) e in
    (p.0, ap host_at (slice_get-get_or m.vertices v (MapSwitch 0) p.0) ∙ named-host _ a p.1)

-- a host is found
pub host-is_found : (m : NetMap) (v a : ℕ) → host_of_vertex m v ≡ Some a → is_some (vertex_of_host m a) ≡ true
host-is_found m v a e = position-any (is_host_named a) m.vertices ∙ host-any a m.vertices v e

-- ---- what stands for what
-- a vertex that stands for one is joined to the mapper's host there
pub stands-in : (n : Network) (host : ℕ) (m : NetMap) (v : ℕ) (x : Vertex) (o : ℤ) → Stands n host m v x o → IsInPart n host x
stands-in n host m v x o (start e) = record { cables = 0; path = here }
stands-in n host m v x o (over s p e d far_at led) =
    let before = stands-in n host m _ _ _ s in
    record { cables = suc before.cables; path = over_cable before.path p e.p far_at }

from-offset : (p : ℕ) (o : ℤ) → (pos p -ℤ o) +ℤ o ≡ pos p
from-offset p o = omega (arith, ints)

offset-is : (q o : ℤ) (p : ℕ) → q +ℤ o ≡ pos p → o ≡ pos p -ℤ q
offset-is q o p e = omega (arith, ints)

-- a vertex stands for its image, by its offset
pub record IsForced (n : Network) (host : ℕ) (m : NetMap) (s : IsMapOfPart n host m) (v : ℕ) (x : Vertex) (o : ℤ) : Type 0 where
  pub below : v < length m.vertices
  pub image : s.image v ≡ x
  pub offset : s.offset v ≡ o

module _ (n : Network) (host : ℕ) (m : NetMap) (rules : IsMap m) (s : IsMapOfPart n host m) where
  far-below : (d e : MapPort) → map_far m d ≡ Some e → e.v < length m.vertices
  far-below d e f = far-holds (λ (x : MapPort). x.v < length m.vertices) m.cables d e rules.cabled_vertices f

  pub forced : (v : ℕ) (x : Vertex) (o : ℤ) → Stands n host m v x o → IsForced n host m s v x o
  forced v x o (start e) =
      let h = host-found m host v e in
      record {
        below = h.0;
        image = host-vertex (s.image v) host (s.addresses v h.0 ∙ h.1);
        offset = s.host_offsets v host h.0 h.1;
      }
  forced v x o (over {v = u} {x = y} {offset = a} before p e d far_at led) =
      let f = forced u y a before in
      let below = far-below (record { v = u; p = pos p -ℤ a }) d led in
      let cabled = (far_is_cabled m (record { v = u; p = pos p -ℤ a }) d rules).0 led in
      let j = joined-far n (s.image u) ((pos p -ℤ a) +ℤ s.offset u) (s.image d.v) (d.p +ℤ s.offset d.v) ((s.cables u d.v (pos p -ℤ a) d.p f.below below).0 cabled) in
      let low : pos j.low ≡ pos p = sym j.is_low ∙ ap (λ z. (pos p -ℤ a) +ℤ z) f.offset ∙ from-offset p a in
      let one : j.low ≡ p = omega (arith, ints, low) in
      let led_to : Some e ≡ Some (record { v = s.image d.v; p = j.high }) =
      sym far_at ∙ sym (ap (λ (z : Vertex). far n (record { v = z; p = p })) f.image) ∙ sym (ap (λ k. far n (record { v = s.image u; p = k })) one) ∙ j.cable in
      let same : e ≡ record { v = s.image d.v; p = j.high } = cc in
      record {
        below = below;
        image = sym (ap (λ (z : End). z.v) same);
        offset = offset-is d.p (s.offset d.v) e.p (j.is_high ∙ ap pos (sym (ap (λ (z : End). z.p) same)));
      }
