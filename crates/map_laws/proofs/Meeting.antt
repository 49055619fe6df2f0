-- A port of a right map and the port of the fabric that it stands for: their cables lead to ports that meet in the same way.
use Rattle.std.proofs.Common.{◌≡◌, ◌<◌, ◌+◌, ℕ, zero, suc, List, [], ◌∷◌, length, Bool, true, false, not, Option, Some, None, sym, ◌∙◌, subst, ap, true≢false, refl, arith, if◌then◌else◌, nat_lt, cond}
use Rattle.std.specs.Prelude.{ℤ, pos, ◌+ℤ◌, neg_ℤ, slice_get, option_and_then, option_map}
use Rattle.std.specs.List.{position_or_len}
use Rattle.std.proofs.lemmas.Bool.{false≢true}
use Rattle.std.proofs.lemmas.Bool.Decides.{Decides-eqb, nat_tests}
use Rattle.std.proofs.lemmas.Int.{ints}
use Rattle.net_defs.specs.declared.vertex.Vertex.{Vertex}
use Rattle.net_defs.specs.declared.vertex.Vertex.TheVariants.{Host, Switch}
use Rattle.net_defs.specs.declared.vertex.End.{End}
use Rattle.net_defs.specs.Network.{Network, IsFabric, far, has_port}
use Rattle.net_defs.specs.Route.{exit_at, next_exit, host_port}
use Rattle.journal_defs.specs.Part.{IsInPart}
use Rattle.journal_defs.specs.Part.Path.{over as by_cable}
use Rattle.net_defs.proofs.Cabling.{exit-leaves}
use Rattle.journal_defs.proofs.Members.{all-member}
use Rattle.map_defs.specs.declared.vertex.MapVertex.{MapVertex}
use Rattle.map_defs.specs.declared.vertex.MapVertex.TheVariants.{Host as MapHost, Switch as MapSwitch}
use Rattle.map_defs.specs.NetMap.{NetMap, MapPort, IsMap, IsCabled, map_far, map_ends, host_at, switch_at, host_of_vertex, is_switch_vertex}
use Rattle.map_defs.specs.NetMap.IsCabled.{forth, back}
use Rattle.map_defs.specs.Routing.{turned_to, next_port, is_host_named, vertex_of_host, port_of_host}
use Rattle.map_defs.specs.Sameness.{IsMapOfPart, Joined, address_of}
use Rattle.map_defs.proofs.Leading.{far-end}
use Rattle.map_defs.proofs.Ports.{far_is_cabled}
use Rattle.map_laws.proofs.Truly.{port-there}
use Rattle.map_laws.proofs.Crossing.{exit-is}
use Rattle.map_laws.specs.Leading.{HasHost}
use Rattle.map_laws.proofs.Assembly.{joined-ports, joined-moved}
use Rattle.map_laws.proofs.Size.{address-host}

-- a cable, read the other way
pub cabled-back : (m : NetMap) (d e : MapPort) → IsCabled m d e → IsCabled m e d
cabled-back m d e (forth k p) = back k p
cabled-back m d e (back k p) = forth k p

-- the place of a host
pub named-place : (vs : List MapVertex) (v h : ℕ) → host_at (slice_get vs v) ≡ Some h → (position_or_len (is_host_named h) vs < length vs) × (host_at (slice_get vs (position_or_len (is_host_named h) vs)) ≡ Some h)
named-place [] v h e = cc
named-place (x ∷ vs) v h e = by x (is_host_named h x) refl v e (λ w g. named-place vs w h g)
  where
    named : (y : MapVertex) → is_host_named h y ≡ true → host_at (Some y) ≡ Some h
    named (MapHost g) t = ap Some ((Decides-eqb g h).0 t)
    named (MapSwitch s) t = absurd (false≢true t)

    own : (y : MapVertex) → host_at (Some y) ≡ Some h → is_host_named h y ≡ true
    own (MapHost g) t = let one : g ≡ h = cc in (Decides-eqb g h).1 one
    own (MapSwitch s) t = cc

    by : (y : MapVertex) (b : Bool) → is_host_named h y ≡ b → (w : ℕ) → host_at (slice_get (y ∷ vs) w) ≡ Some h → ((w : ℕ) → host_at (slice_get vs w) ≡ Some h → (position_or_len (is_host_named h) vs < length vs) × (host_at (slice_get vs (position_or_len (is_host_named h) vs)) ≡ Some h)) → (cond (not b) (1 + position_or_len (is_host_named h) vs) 0 < length (y ∷ vs)) × (host_at (slice_get (y ∷ vs) (cond (not b) (1 + position_or_len (is_host_named h) vs) 0)) ≡ Some h)
    by y true t w g rest = ((let l : 0 < suc (length vs) = omega arith in l), named y t)
    by y false t zero g rest = absurd (true≢false (sym (own y g) ∙ t))
    by y false t (suc w) g rest =
        let r = rest w g in
        let next : suc (position_or_len (is_host_named h) vs) ≡ 1 + position_or_len (is_host_named h) vs = omega arith in
        ((let l = r.0 in omega arith), subst (λ i. host_at (slice_get (y ∷ vs) i) ≡ Some h) next r.1)

-- the port of a host of the map
pub record HostPort (m : NetMap) (a : ℕ) : Type 0 where
  pub vertex : ℕ
  pub is : port_of_host m a ≡ Some (record { v = vertex; p = pos 0 })
  pub below : vertex < length m.vertices
  pub host : host_of_vertex m vertex ≡ Some a

pub host-port-of : (m : NetMap) (a : ℕ) → HasHost m a → HostPort m a
host-port-of m a h =
    let two = named-place m.vertices h.vertex a h.there in
    let t : nat_lt (position_or_len (is_host_named a) m.vertices) (length m.vertices) ≡ true = grind (arith, nat_tests, two.0) in
    let at : vertex_of_host m a ≡ Some (position_or_len (is_host_named a) m.vertices) = rw t refl in
    record { vertex = position_or_len (is_host_named a) m.vertices; is = ap (option_map (λ v. record { v = v; p = pos 0 })) at; below = two.0; host = two.1 }

-- a vertex that isn't a host is a switch
pub other-switch : (vs : List MapVertex) (v : ℕ) → v < length vs → host_at (slice_get vs v) ≡ None → switch_at (slice_get vs v) ≡ true
other-switch [] v l e = absurd (omega arith)
other-switch (MapHost h ∷ vs) zero l e = cc
other-switch (MapSwitch s ∷ vs) zero l e = refl
other-switch (x ∷ vs) (suc v) l e = other-switch vs v (omega arith) e

pub host-not_switch : (o : Option MapVertex) (a : ℕ) → host_at o ≡ Some a → switch_at o ≡ false
host-not_switch None a f = refl
host-not_switch (Some (MapHost h)) a f = refl
host-not_switch (Some (MapSwitch s)) a f = cc

-- a turn that doesn't leave its switch leads nowhere
exit-none : (n : Network) (s a p : ℕ) (t : ℤ) → exit_at n (Switch s) a t ≡ None → pos p ≡ pos a +ℤ t → has_port n (record { v = Switch s; p = p }) ≡ true → ⊥
exit-none n s a p t none e h = let some = exit-is n s a p t e h in let two : ◌≡◌ {A = Option End} None (Some (record { v = Switch s; p = p })) = sym none ∙ some in cc

pos-one : (a b : ℕ) (z : ℤ) → pos a ≡ z → z ≡ pos b → a ≡ b
pos-one a b z e f = omega (arith, ints)

pub after_turn : (a : ℕ) (p o t : ℤ) (c : ℕ) → pos a ≡ p +ℤ o → pos c ≡ pos a +ℤ t → pos c ≡ (p +ℤ t) +ℤ o
after_turn a p o t c e f = omega (arith, ints)

again : (b : ℕ) (o : ℤ) → (pos b +ℤ neg_ℤ o) +ℤ o ≡ pos b
again b o = omega (arith, ints)

nothing_added : (o : ℤ) → o ≡ pos 0 → pos 0 ≡ pos 0 +ℤ o
nothing_added o e = omega (arith, ints)

before_turn : (a : ℕ) (p o t : ℤ) (c : ℕ) → pos a ≡ p +ℤ o → (p +ℤ t) +ℤ o ≡ pos c → pos c ≡ pos a +ℤ t
before_turn a p o t c e f = omega (arith, ints)

module _ (n : Network) (host : ℕ) (m : NetMap) (fabric : IsFabric n) (rules : IsMap m) (same : IsMapOfPart n host m) where
  -- a port of the map stands for a port of the fabric
  pub record Meets (d : MapPort) (x : End) : Type 0 where
    pub in_map : d.v < length m.vertices
    pub vertex : x.v ≡ same.image d.v
    pub port : pos x.p ≡ d.p +ℤ same.offset d.v

  -- their cables lead on to ports that meet, or there is none
  pub data FarPair (d : MapPort) (x : End) : Type 0 where
    cabled : {e : MapPort} {y : End} → map_far m d ≡ Some e → far n x ≡ Some y → Meets e y → FarPair d x
    uncabled : map_far m d ≡ None → far n x ≡ None → FarPair d x

  -- the cable of the fabric for which a cable of the map stands
  record Image (d e : MapPort) : Type 0 where
    pub from : ℕ
    pub to : ℕ
    pub is_from : d.p +ℤ same.offset d.v ≡ pos from
    pub other : e.v < length m.vertices
    pub is_to : e.p +ℤ same.offset e.v ≡ pos to
    pub cable : far n (record { v = same.image d.v; p = from }) ≡ Some (record { v = same.image e.v; p = to })

  cable-image : (d e : MapPort) → d.v < length m.vertices → map_far m d ≡ Some e → Image d e
  cable-image d e l f =
      let c = (far_is_cabled m d e rules).0 f in
      let back_far = (far_is_cabled m e d rules).1 (cabled-back m d e c) in
      let k : e.v < length m.vertices = all-member (λ (x : MapPort). x.v < length m.vertices) e (map_ends m.cables) rules.cabled_vertices (far-end m.cables e d back_far) in
      let ports = joined-ports n (same.image d.v) (d.p +ℤ same.offset d.v) (same.image e.v) (e.p +ℤ same.offset e.v) ((same.cables d.v e.v d.p e.p l k).0 c) in
      record { from = ports.from; to = ports.to; is_from = ports.is_from; other = k; is_to = ports.is_to; cable = ports.cable }

  met-cable : (d e : MapPort) (x : End) → Meets d x → map_far m d ≡ Some e → FarPair d x
  met-cable d e x at f =
      let i = cable-image d e at.in_map f in
      let port : x.p ≡ i.from = pos-one x.p i.from (d.p +ℤ same.offset d.v) at.port i.is_from in
      let y : End = record { v = same.image e.v; p = i.to } in
      let there : far n x ≡ Some y = ap (far n) (one_end x.v (same.image d.v) x.p i.from at.vertex port) ∙ i.cable in
      cabled f there (record { in_map = i.other; vertex = refl; port = sym i.is_to })
    where
      one_end : (v w : Vertex) (p q : ℕ) → v ≡ w → p ≡ q → ◌≡◌ {A = End} (record { v = v; p = p }) (record { v = w; p = q })
      one_end v w p q a b = λ k. record { v = a k; p = b k }

  -- where the port of the map has no cable, neither has that of the fabric
  met-none : (d : MapPort) (x y : End) → Meets d x → map_far m d ≡ None → far n x ≡ Some y → ⊥
  met-none d x y at none f =
      let v = at.vertex in
      let way = same.image_in d.v at.in_map in
      let there : far n (record { v = same.image d.v; p = x.p }) ≡ Some y = ap (λ w. far n (record { v = w; p = x.p })) (sym v) ∙ f in
      let part : IsInPart n host y.v = record { cables = suc way.cables; path = by_cable way.path x.p y.p there } in
      let w = same.origin y.v in
      let l = same.origin_in y.v part in
      let image : same.image w ≡ y.v = same.image_origin y.v part in
      let b : ℤ = pos y.p +ℤ neg_ℤ (same.offset w) in
      let joined : Joined n (same.image d.v) (d.p +ℤ same.offset d.v) (same.image w) (b +ℤ same.offset w) = joined-moved n (same.image d.v) (same.image w) (same.image d.v) y.v x.p y.p (d.p +ℤ same.offset d.v) (b +ℤ same.offset w) refl (sym at.port) image (again y.p (same.offset w)) there in
      let other : MapPort = record { v = w; p = b } in
      let cable : IsCabled m d other = (same.cables d.v w d.p b at.in_map l).1 joined in
      let two : None ≡ Some other = sym none ∙ (far_is_cabled m d other rules).1 cable in
      cc

  pub far-pair : (d : MapPort) (x : End) → Meets d x → FarPair d x
  far-pair d x at = by (map_far m d) (far n x) refl refl
    where
      by : (o : Option MapPort) (p : Option End) → map_far m d ≡ o → far n x ≡ p → FarPair d x
      by (Some e) p f g = met-cable d e x at f
      by None None f g = uncabled f g
      by None (Some y) f g = absurd (met-none d x y at f g)

  -- what is left of a walk: ports that meet, or no cable on either side
  pub data Pair : Option MapPort → Option End → Type 0 where
    meets : {d : MapPort} {x : End} → Meets d x → Pair (Some d) (Some x)
    no_port : {x : Option End} → option_and_then (far n) x ≡ None → Pair None x
    no_cable : {d : MapPort} {x : Option End} → map_far m d ≡ None → option_and_then (far n) x ≡ None → Pair (Some d) x

  turn-pair : (e : MapPort) (y : End) (t : ℤ) → Meets e y → Pair (turned_to m e t) (exit_at n y.v y.p t)
  turn-pair e y t at = by y.v refl
    where
      as_host : (h : ℕ) → y.v ≡ Host h → is_switch_vertex m e.v ≡ false
      as_host h v = host-not_switch (slice_get m.vertices e.v) h (sym (same.addresses e.v at.in_map) ∙ ap address_of (sym at.vertex ∙ v))

      as_switch : (s : ℕ) → y.v ≡ Switch s → is_switch_vertex m e.v ≡ true
      as_switch s v = other-switch m.vertices e.v at.in_map (sym (same.addresses e.v at.in_map) ∙ ap address_of (sym at.vertex ∙ v))

      next : MapPort
      next = record { v = e.v; p = e.p +ℤ t }

      exits : (s : ℕ) → y.v ≡ Switch s → (o : Option End) → exit_at n (Switch s) y.p t ≡ o → Pair (Some (record { v = e.v; p = e.p +ℤ t })) o
      exits s v (Some x) f =
          let l = exit-leaves n (Switch s) y.p t x f in
          meets (record { in_map = at.in_map; vertex = ap (λ (z : End). z.v) l.is ∙ sym v ∙ at.vertex; port = ap (λ (z : End). pos z.p) l.is ∙ after_turn y.p e.p (same.offset e.v) t l.port at.port l.sum })
      exits s v None f = no_cable (out_of_range (map_far m (record { v = e.v; p = e.p +ℤ t })) refl) refl
        where
          out_of_range : (o : Option MapPort) → map_far m (record { v = e.v; p = e.p +ℤ t }) ≡ o → map_far m (record { v = e.v; p = e.p +ℤ t }) ≡ None
          out_of_range None g = g
          out_of_range (Some z) g =
              let i = cable-image (record { v = e.v; p = e.p +ℤ t }) z at.in_map g in
              let has = port-there n (record { v = same.image e.v; p = i.from }) (record { v = same.image z.v; p = i.to }) fabric i.cable in
              let vertex : same.image e.v ≡ Switch s = sym at.vertex ∙ v in
              absurd (exit-none n s y.p i.from t f (before_turn y.p e.p (same.offset e.v) t i.from at.port i.is_from) (subst (λ w. has_port n (record { v = w; p = i.from }) ≡ true) vertex has))

      by : (v : Vertex) → y.v ≡ v → Pair (turned_to m e t) (exit_at n y.v y.p t)
      by (Host h) v =
          subst (λ w. Pair (turned_to m e t) (exit_at n w y.p t)) (sym v) (subst (λ b. Pair (if b then Some (record { v = e.v; p = e.p +ℤ t }) else None) None) (sym (as_host h v)) (no_port refl))
      by (Switch s) v =
          subst (λ w. Pair (turned_to m e t) (exit_at n w y.p t)) (sym v) (subst (λ b. Pair (if b then Some (record { v = e.v; p = e.p +ℤ t }) else None) (exit_at n (Switch s) y.p t)) (sym (as_switch s v)) (exits s v (exit_at n (Switch s) y.p t) refl))

  -- the next port to leave by, on the map
  abbrev pub next_of : Option MapPort → ℤ → Option MapPort
  next_of None t = None
  next_of (Some d) t = next_port m d t

  exit-stuck : (x : Option End) (t : ℤ) → option_and_then (far n) x ≡ None → next_exit n x t ≡ None
  exit-stuck x t e = ap (option_and_then (λ (y : End). exit_at n y.v y.p t)) e

  -- ports that meet are left by the same turn
  pub next-pair : (d : Option MapPort) (x : Option End) (t : ℤ) → Pair d x → Pair (next_of d t) (next_exit n x t)
  next-pair d x t (meets {d = c} {x = y} at) = by (far-pair c y at)
    where
      by : FarPair c y → Pair (next_port m c t) (next_exit n (Some y) t)
      by (cabled {e = e} {y = z} f g k) =
          subst (λ o. Pair (option_and_then (λ u. turned_to m u t) o) (next_exit n (Some y) t)) (sym f) (subst (λ o. Pair (turned_to m e t) (option_and_then (λ (u : End). exit_at n u.v u.p t) o)) (sym g) (turn-pair e z t k))
      by (uncabled f g) =
          subst (λ o. Pair (option_and_then (λ u. turned_to m u t) o) (next_exit n (Some y) t)) (sym f) (no_port (ap (option_and_then (far n)) (exit-stuck (Some y) t g)))
  next-pair d x t (no_port {x = y} f) = no_port (ap (option_and_then (far n)) (exit-stuck y t f))
  next-pair d x t (no_cable {d = c} {x = y} f g) =
      subst (λ o. Pair (option_and_then (λ u. turned_to m u t) o) (next_exit n y t)) (sym f) (no_port (ap (option_and_then (far n)) (exit-stuck y t g)))

  -- the port of a host of the map stands for that of the host
  pub start-pair : (a : ℕ) → HasHost m a → Pair (port_of_host m a) (Some (host_port a))
  start-pair a h =
      let p = host-port-of m a h in
      let image : same.image p.vertex ≡ Host a = address-host (same.image p.vertex) a (same.addresses p.vertex p.below ∙ p.host) in
      let zeroth : same.offset p.vertex ≡ pos 0 = same.host_offsets p.vertex a p.below p.host in
      subst (λ o. Pair o (Some (host_port a))) (sym p.is) (meets (record { in_map = p.below; vertex = sym image; port = nothing_added (same.offset p.vertex) zeroth }))
