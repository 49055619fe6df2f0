-- Turns lead from a host in a right map where they lead in the fabric.
use Rattle.std.proofs.Common.{◌≡◌, ◌<◌, ℕ, zero, suc, List, [], ◌∷◌, length, true, Option, Some, None, sym, ◌∙◌, subst, ap, refl, arith, get_or}
use Rattle.std.specs.Prelude.{ℤ, pos, ◌+ℤ◌, slice_get, position, option_and_then, option_map}
use Rattle.std.proofs.lemmas.Bool.{false≢true}
use Rattle.std.proofs.lemmas.Bool.Decides.{Decides-eqb}
use Rattle.std.proofs.lemmas.List.Quantifiers.{position-Some}
use Rattle.std.proofs.lemmas.Int.{ints}
use Rattle.net_defs.specs.declared.vertex.Vertex.{Vertex}
use Rattle.net_defs.specs.declared.vertex.Vertex.TheVariants.{Host, Switch}
use Rattle.net_defs.specs.declared.vertex.End.{End}
use Rattle.net_defs.specs.declared.place.Place.TheVariants.{Host as AtHost}
use Rattle.net_defs.specs.Network.{Network, IsFabric, far, has_port}
use Rattle.net_defs.specs.Route.{place, place_at, place_at_vertex, entered_after, turned, exit_at, next_exit, host_port, IsEntered}
use Rattle.net_defs.proofs.Places.{far-there}
use Rattle.net_defs.proofs.Cabling.{entered-there, host-port}
use Rattle.map_defs.specs.declared.vertex.MapVertex.{MapVertex}
use Rattle.map_defs.specs.declared.vertex.MapVertex.TheVariants.{Host as MapHost, Switch as MapSwitch}
use Rattle.map_defs.specs.NetMap.{NetMap, MapPort, IsMap, map_far, host_at, host_of_vertex}
use Rattle.map_defs.specs.Routing.{led_to, next_port, LeadsTo, is_host_named, vertex_of_host, port_of_host}
use Rattle.map_defs.specs.Sameness.{IsMapOfPart, address_of}
use Rattle.map_laws.specs.Leading.{HasHost, RoutesLeadInTheFabric}
use Rattle.map_laws.proofs.Listed.{host-below}
use Rattle.map_laws.proofs.Size.{address-host}
use Rattle.map_laws.proofs.Meeting.{Meets, FarPair, Pair, far-pair, next-pair, start-pair, host-port-of}
use Rattle.map_laws.proofs.Meeting.FarPair.{cabled, uncabled}
use Rattle.map_laws.proofs.Meeting.Pair.{meets, no_port, no_cable}

-- the port of a host is a port of that host
named-exactly : (h : ℕ) (vs : List MapVertex) (v : ℕ) → position (is_host_named h) vs ≡ Some v → host_at (slice_get vs v) ≡ Some h
named-exactly h vs v e = named vs v (position-Some (is_host_named h) vs v (MapSwitch 0) e).0 (position-Some (is_host_named h) vs v (MapSwitch 0) e).1
  where
    host : (x : MapVertex) → is_host_named h x ≡ true → host_at (Some x) ≡ Some h
    host (MapHost a) p = ap Some ((Decides-eqb a h).0 p)
    host (MapSwitch s) p = absurd (false≢true p)

    named : (us : List MapVertex) (k : ℕ) → k < length us → is_host_named h (get_or us k (MapSwitch 0)) ≡ true → host_at (slice_get us k) ≡ Some h
    named [] k l p = absurd (omega arith)
    named (x ∷ us) zero l p = host x p
    named (x ∷ us) (suc k) l p = named us k (omega arith) p

pub port-host : (m : NetMap) (h : ℕ) (d : MapPort) → port_of_host m h ≡ Some d → (host_of_vertex m d.v ≡ Some h) × (d.p ≡ pos 0)
port-host m h d e = by (vertex_of_host m h) refl e
  where
    by : (o : Option ℕ) → vertex_of_host m h ≡ o → option_map (λ v. record { v = v; p = pos 0 }) o ≡ Some d → (host_of_vertex m d.v ≡ Some h) × (d.p ≡ pos 0)
    by None f g = cc
    by (Some v) f g =
        let one : ◌≡◌ {A = MapPort} (record { v = v; p = pos 0 }) d = cc in
        (ap (λ (z : MapPort). host_of_vertex m z.v) (sym one) ∙ named-exactly h m.vertices v f, ap (λ (z : MapPort). z.p) (sym one))

-- a walk that is at a host has entered it
at-host : (o : Option End) (b : ℕ) → place_at o ≡ AtHost b → (y : End) × (o ≡ Some y) × (y.v ≡ Host b)
at-host None b e = cc
at-host (Some y) b e = (y, refl, by y.v e)
  where
    by : (v : Vertex) → place_at_vertex v y.p ≡ AtHost b → v ≡ Host b
    by (Host a) f = let one : a ≡ b = cc in ap Host one
    by (Switch s) f = cc

turned-next : (n : Network) (x : Option End) (t : ℤ) → turned n (option_and_then (far n) x) t ≡ option_and_then (far n) (next_exit n x t)
turned-next n None t = refl
turned-next n (Some e) t = by (far n e)
  where
    by : (o : Option End) → turned n o t ≡ option_and_then (far n) (option_and_then (λ (y : End). exit_at n y.v y.p t) o)
    by None = refl
    by (Some y) = refl

zero-port : (a : ℕ) (p o : ℤ) → pos a ≡ p +ℤ o → a ≡ 0 → o ≡ pos 0 → p ≡ pos 0
zero-port a p o e f g = omega (arith, ints)

module _ (n : Network) (host : ℕ) (m : NetMap) (fabric : IsFabric n) (rules : IsMap m) (same : IsMapOfPart n host m) where
  -- where turns lead on the map and in the fabric
  pub data Landed : Option MapPort → Option End → Type 0 where
    lands : {e : MapPort} {y : End} → Meets n host m fabric rules same e y → Landed (Some e) (Some y)
    lost : Landed None None

  over-cable : (d : Option MapPort) (x : Option End) → Pair n host m fabric rules same d x → Landed (led_to m d []) (option_and_then (far n) x)
  over-cable d x (meets {d = c} {x = y} at) = by (far-pair n host m fabric rules same c y at)
    where
      by : FarPair n host m fabric rules same c y → Landed (map_far m c) (far n y)
      by (cabled {e = e} {y = z} f g k) = subst (λ o. Landed o (far n y)) (sym f) (subst (Landed (Some e)) (sym g) (lands k))
      by (uncabled f g) = subst (λ o. Landed o (far n y)) (sym f) (subst (Landed None) (sym g) lost)
  over-cable d x (no_port {x = y} f) = subst (Landed None) (sym f) lost
  over-cable d x (no_cable {d = c} {x = y} f g) = subst (λ o. Landed o (option_and_then (far n) y)) (sym f) (subst (Landed None) (sym g) lost)

  pub landing : (turns : List ℤ) (d : Option MapPort) (x : Option End) → Pair n host m fabric rules same d x → Landed (led_to m d turns) (entered_after n (option_and_then (far n) x) turns)
  landing [] d x p = over-cable d x p
  landing (t ∷ ts) None x p =
      subst (λ o. Landed None (entered_after n o ts)) (sym (turned-next n x t)) (landing ts None (next_exit n x t) (next-pair n host m fabric rules same None x t p))
  landing (t ∷ ts) (Some d) x p =
      subst (λ o. Landed (led_to m (next_port m d t) ts) (entered_after n o ts)) (sym (turned-next n x t)) (landing ts (next_port m d t) (next_exit n x t) (next-pair n host m fabric rules same (Some d) x t p))

  image-of-host : (v a : ℕ) → host_of_vertex m v ≡ Some a → same.image v ≡ Host a
  image-of-host v a e = address-host (same.image v) a (same.addresses v (host-below m.vertices v a e) ∙ e)

  there : (a b : ℕ) (turns : List ℤ) → HasHost m a → LeadsTo m a b turns → place n a turns ≡ AtHost b
  there a b turns h l = by (led_to m (port_of_host m a) turns) (entered_after n (far n (host_port a)) turns) l.led (landing turns (port_of_host m a) (Some (host_port a)) (start-pair n host m fabric rules same a h))
    where
      by : (o : Option MapPort) (p : Option End) → o ≡ Some l.at → Landed o p → place_at p ≡ AtHost b
      by o p e (lands {e = d} {y = y} k) =
          let one : d ≡ l.at = (let two : Some d ≡ Some l.at = e in cc) in
          let image : y.v ≡ Host b = k.vertex ∙ ap (λ (z : MapPort). same.image z.v) one ∙ image-of-host l.at.v b (port-host m b l.at l.is_at).0 in
          ap (λ v. place_at_vertex v y.p) image
      by o p e (lost) = cc

  led-back : (a b : ℕ) (turns : List ℤ) → HasHost m a → place n a turns ≡ AtHost b → LeadsTo m a b turns
  led-back a b turns h e =
      let at = at-host (entered_after n (far n (host_port a)) turns) b e in
      by (led_to m (port_of_host m a) turns) (entered_after n (far n (host_port a)) turns) refl refl at.0 at.1 at.2 (landing turns (port_of_host m a) (Some (host_port a)) (start-pair n host m fabric rules same a h))
    where
      found : (d : MapPort) (y : End) → Meets n host m fabric rules same d y → entered_after n (far n (host_port a)) turns ≡ Some y → y.v ≡ Host b → led_to m (port_of_host m a) turns ≡ Some d → LeadsTo m a b turns
      found d y k entered v led =
          let image : same.image d.v ≡ Host b = sym k.vertex ∙ v in
          let named : host_of_vertex m d.v ≡ Some b = sym (same.addresses d.v k.in_map) ∙ ap address_of image in
          let has : HasHost m b = record { vertex = d.v; there = named } in
          let p = host-port-of m b has in
          let vertex : p.vertex ≡ d.v = sym (same.origin_image p.vertex p.below) ∙ ap same.origin (image-of-host p.vertex b p.host ∙ sym image) ∙ same.origin_image d.v k.in_map in
          let port : has_port n y ≡ true = subst (IsEntered n) entered (entered-there n (far n (host_port a)) turns fabric (far-there n (host_port a) fabric)) in
          let low : y.p ≡ 0 = host-port n b y.p (subst (λ w. has_port n (record { v = w; p = y.p }) ≡ true) v port) in
          let zeroth : d.p ≡ pos 0 = zero-port y.p d.p (same.offset d.v) k.port low (same.host_offsets d.v b k.in_map named) in
          let own : ◌≡◌ {A = MapPort} (record { v = p.vertex; p = pos 0 }) d = one_port p.vertex d.v (pos 0) d.p vertex (sym zeroth) in
          record { at = d; is_at = p.is ∙ ap Some own; led = led }
        where
          one_port : (v w : ℕ) (p q : ℤ) → v ≡ w → p ≡ q → ◌≡◌ {A = MapPort} (record { v = v; p = p }) (record { v = w; p = q })
          one_port v w p q a b = λ i. record { v = a i; p = b i }

      by : (o : Option MapPort) (p : Option End) → led_to m (port_of_host m a) turns ≡ o → entered_after n (far n (host_port a)) turns ≡ p → (y : End) → p ≡ Some y → y.v ≡ Host b → Landed o p → LeadsTo m a b turns
      by o p f e y g v (lands {e = d} {y = z} k) =
          let one : z ≡ y = (let two : Some z ≡ Some y = g in cc) in
          found d z k e (ap (λ (w : End). w.v) one ∙ v) f
      by o p f e y g v (lost) = cc

pub routes_lead_in_the_fabric : RoutesLeadInTheFabric
routes_lead_in_the_fabric n host a b m turns fabric rules same h = (there n host m fabric rules same a b turns h, led-back n host m fabric rules same a b turns h)
