-- All that cables join to the mapper's host was compared: then the map is right exactly where each vertex is paired.
use Rattle.std.proofs.Common.{◌≡◌, ◌<◌, ◌+◌, ◌⊎◌, inl, inr, ℕ, zero, suc, Bool, true, false, ◌&&◌, ◌||◌, not, List, [], ◌∷◌, length, nat_eq, Option, Some, None, refl, ap, sym, ◌∙◌, subst, arith}
use Rattle.std.specs.Prelude.{◌↔◌, ℤ, pos, negsuc, ◌+ℤ◌, ◌-ℤ◌, slice_get, slice_index_or, is_some, replicate}
use Rattle.std.specs.Ordering.{int_eq}
use Rattle.std.specs.List.{list_any, list_all}
use Rattle.std.proofs.lemmas.Bool.{false≢true, and_parts, and_from}
use Rattle.std.proofs.lemmas.Bool.Decides.{Decides-eqb, Decides-int_eq}
use Rattle.std.proofs.lemmas.Int.{ints}
use Rattle.std.proofs.lemmas.List.{length-replicate}
use Rattle.net_defs.specs.declared.vertex.Vertex.{Vertex}
use Rattle.net_defs.specs.declared.vertex.Vertex.TheVariants.{Host, Switch}
use Rattle.net_defs.specs.declared.vertex.End.{End}
use Rattle.net_defs.specs.Network.{Network, IsFabric, far}
use Rattle.journal_defs.specs.Part.{Path, IsInPart}
use Rattle.journal_defs.specs.Part.Path.{here, over as over_cable}
use Rattle.map_defs.specs.declared.vertex.MapVertex.{MapVertex}
use Rattle.map_defs.specs.declared.vertex.MapVertex.TheVariants.{Host as MapHost, Switch as MapSwitch}
use Rattle.map_defs.specs.NetMap.{NetMap, MapPort, IsMap, IsCabled, map_far, host_at, host_of_vertex}
use Rattle.map_defs.specs.Routing.{vertex_of_host}
use Rattle.map_defs.specs.Sameness.{IsMapOfPart, Joined, address_of}
use Rattle.map_defs.proofs.Ports.{far_is_cabled}
use Rattle.map_sameness.specs.declared.pairing.Image.{Image}
use Rattle.map_sameness.specs.Standing.Stands.{start}
use Rattle.map_sameness.specs.Pairing.{Pairs, image_of, origin_of, are_alike, with_pair, no_pairs, with_todo, taken_off, IsImage, IsPairing, is_todo, Grows, is_cabled_at, is_stray, HasStray, IsCompared, AreCompared, Meets, Compares}
use Rattle.map_sameness.proofs.Forced.{forced, stands-in, far-joined, joined-far, host-found, host-is_found}
use Rattle.map_sameness.proofs.Pairs.{far-inside, pair-kept, pair-grows, image-same, grows-itself}

-- ---- tables
below : (is : List (Option Image)) (v : ℕ) (i : Image) → slice_index_or is v None ≡ Some i → v < length is
below [] v i e = cc
below (j ∷ is) zero i e = omega arith
below (j ∷ is) (suc v) i e = let l = below is v i e in omega (arith, l)

each-some : (is : List (Option Image)) → list_all is_some is ≡ true → (v : ℕ) → v < length is → (i : Image) × (slice_index_or is v None ≡ Some i)
each-some [] all v l = absurd (omega arith)
each-some (None ∷ is) all v l = absurd (false≢true all)
each-some (Some j ∷ is) all zero l = (j, refl)
each-some (Some j ∷ is) all (suc v) l = each-some is all v (omega arith)

some-none : (is : List (Option Image)) → list_all is_some is ≡ false → (v : ℕ) × ((v < length is) × (slice_index_or is v None ≡ None))
some-none [] all = absurd (false≢true (sym all))
some-none (None ∷ is) all = (0, (omega arith, refl))
some-none (Some j ∷ is) all = let h = some-none is all in (suc h.0, ((let l = h.1.0 in omega (arith, l)), h.1.1))

abbrev none_of : (A : Type 0) → Option A
none_of A = None

none-at : {A : Type 0} (k v : ℕ) → slice_index_or (replicate k (none_of A)) v None ≡ None
none-at zero v = refl
none-at (suc k) zero = refl
none-at (suc k) (suc v) = none-at k v

-- ---- ports
some-in : {A : Type 0} (o : Option A) → is_some o ≡ true → (x : A) × (o ≡ Some x)
some-in None e = absurd (false≢true e)
some-in (Some x) e = (x, refl)

-- an image of a port that has a cable
record HasCable (n : Network) (x : Vertex) (p : ℤ) : Type 0 where
  pub at : ℕ
  pub end : End
  pub is : p ≡ pos at
  pub cable : far n (record { v = x; p = at }) ≡ Some end

has-cable : (n : Network) (x : Vertex) (p : ℤ) → is_cabled_at n x p ≡ true → HasCable n x p
has-cable n x (pos k) e = let h = some-in (far n (record { v = x; p = k })) e in record { at = k; end = h.0; is = refl; cable = h.1 }
has-cable n x (negsuc k) e = absurd (false≢true e)

is-cabled : (n : Network) (x : Vertex) (p : ℤ) (k : ℕ) (e : End) → p ≡ pos k → far n (record { v = x; p = k }) ≡ Some e → is_cabled_at n x p ≡ true
is-cabled n x p k e q f = ap (is_cabled_at n x) q ∙ ap is_some f

back-port : (a o : ℤ) (k : ℕ) → a +ℤ o ≡ pos k → pos k -ℤ o ≡ a
back-port a o k e = omega (arith, ints)

one-port : (a b o : ℤ) (k : ℕ) → a +ℤ o ≡ pos k → b +ℤ o ≡ pos k → a ≡ b
one-port a b o k e f = omega (arith, ints)

-- a port of the map that has a cable where its image has none
pub stray_wrong : (n : Network) (m : NetMap) (s : Pairs) (v : ℕ) (i : Image) → IsPairing n m s → image_of s v ≡ Some i → HasStray n m v i → IsMapOfPart n s.host m → ⊥
stray_wrong n m s v i p is stray same =
    let d : MapPort = record { v = v; p = stray.port } in
    let two = and_parts (is_some (map_far m d)) (not (is_cabled_at n i.vertex (stray.port +ℤ i.offset))) stray.stray in
    let led = some-in (map_far m d) two.0 in
    let f = forced n s.host m p.is_map same v i.vertex i.offset (p.stands v i is) in
    let cabled = (far_is_cabled m d led.0 p.is_map).0 led.1 in
    let inside = far-inside m d led.0 p.is_map led.1 in
    let j = joined-far n (same.image v) (stray.port +ℤ same.offset v) (same.image led.0.v) (led.0.p +ℤ same.offset led.0.v) ((same.cables v led.0.v stray.port led.0.p f.below inside.0).0 cabled) in
    let there : is_cabled_at n i.vertex (stray.port +ℤ i.offset) ≡ true =
    is-cabled n i.vertex (stray.port +ℤ i.offset) j.low (record { v = same.image led.0.v; p = j.high }) (ap (λ z. stray.port +ℤ z) (sym f.offset) ∙ j.is_low)
    (ap (λ (z : Vertex). far n (record { v = z; p = j.low })) (sym f.image) ∙ j.cable) in
    false≢true (sym (ap not there) ∙ two.1)

-- ---- one vertex more

pub compares : (n : Network) (m : NetMap) (s t : Pairs) (v : ℕ) (i : Image) → image_of s v ≡ Some i → ((p : ℤ) → is_stray n m v i p ≡ false) → ((p : ℕ) → Meets n m s t v i p) → Compares n m s t v
compares n m s t v i is cabled met = record {
  pairing = (met 0).pairing;
  grows = (met 0).grows;
  compared = λ j e. (
      let both : Some i ≡ Some j = sym is ∙ e in
      let one : i ≡ j = cc in
      subst (IsCompared n m t v) one (record { cabled = cabled; met = λ p. (met p).met }));
}

-- a vertex without image is compared at once
pub compares_none : (n : Network) (m : NetMap) (s : Pairs) (v : ℕ) → IsPairing n m s → None ≡ image_of s v → Compares n m s s v
compares_none n m s v p none = record { pairing = p; grows = grows-itself s; compared = λ i e. absurd (no-image i (none ∙ e)) }
  where
    no-image : (i : Image) → None ≡ Some i → ⊥
    no-image i e = cc

-- the vertices that are to be compared, once one was taken off
pub next-compared : (n : Network) (m : NetMap) (s r t : Pairs) (v : ℕ) → s ≡ with_todo r (taken_off (Some v) r.todo) → AreCompared n m s → Compares n m r t v → AreCompared n m t
next-compared n m s r t v taken all c = record {
  start = all.start;
  started = record { image = all.started.image; is = kept all.start all.started.image all.started.is; vertex = all.started.vertex ∙ ap Host (sym host) };
  each = λ u i e. by u i (c.grows.new u i e);
}
  where
    -- what doesn't ask for those to be compared is the same before and after
    kept : (u : ℕ) (i : Image) → image_of s u ≡ Some i → image_of t u ≡ Some i
    kept u i e = c.grows.images u i (sym (ap (λ (x : Pairs). image_of x u) taken) ∙ e)

    host : t.host ≡ s.host
    host = c.grows.host ∙ sym (ap (λ (x : Pairs). x.host) taken)

    compared-kept : (u : ℕ) (i : Image) → IsCompared n m s u i → IsCompared n m t u i
    compared-kept u i k = record {
      cabled = k.cabled;
      met = λ p e f. (
          let h = k.met p e f in
          record { other = h.other; image = h.image; far = h.far; is = kept h.other.v h.image h.is; vertex = h.vertex; port = h.port });
    }

    here-or : (u : ℕ) → is_todo s u ≡ true → (u ≡ v) ⊎ (is_todo r u ≡ true)
    here-or u e = on (nat_eq u v) refl (sym (ap (λ (x : Pairs). is_todo x u) taken) ∙ e)
      where
        on : (b : Bool) → nat_eq u v ≡ b → (nat_eq u v || is_todo r u) ≡ true → (u ≡ v) ⊎ (is_todo r u ≡ true)
        on true q f = inl ((Decides-eqb u v).0 q)
        on false q f = inr (sym (ap (λ b. b || is_todo r u) q) ∙ f)

    old : (u : ℕ) (i : Image) → image_of r u ≡ Some i → (u ≡ v) ⊎ (is_todo r u ≡ true) → (is_todo t u ≡ true) ⊎ IsCompared n m t u i
    old u i e (inl q) = inr (subst (λ w. IsCompared n m t w i) (sym q) (c.compared i (sym (ap (image_of r) q) ∙ e)))
    old u i e (inr h) = inl (c.grows.todo u h)

    earlier : (u : ℕ) (i : Image) → image_of r u ≡ Some i → (is_todo s u ≡ true) ⊎ IsCompared n m s u i → (is_todo t u ≡ true) ⊎ IsCompared n m t u i
    earlier u i e (inl h) = old u i e (here-or u h)
    earlier u i e (inr k) = inr (compared-kept u i k)

    by : (u : ℕ) (i : Image) → (image_of r u ≡ Some i) ⊎ (is_todo t u ≡ true) → (is_todo t u ≡ true) ⊎ IsCompared n m t u i
    by u i (inl e) = earlier u i e (all.each u i (ap (λ (x : Pairs). image_of x u) taken ∙ e))
    by u i (inr h) = inl h

-- the pairs stay when a vertex is taken off
pub pairing-taken : (n : Network) (m : NetMap) (s r : Pairs) (todo : List ℕ) → s ≡ with_todo r todo → IsPairing n m s → IsPairing n m r
pairing-taken n m s r todo taken p =
    let q = subst (IsPairing n m) taken p in
    record {
      is_fabric = q.is_fabric;
      is_map = q.is_map;
      images = q.images;
      hosts = q.hosts;
      switches = q.switches;
      stands = q.stands;
      small = q.small;
      alike = q.alike;
      origins = λ v i e. sym (origin i.vertex) ∙ q.origins v i e;
      found = λ x v e. (let f = q.found x v (origin x ∙ e) in record { image = f.image; is = f.is; vertex = f.vertex });
    }
  where
    origin : (x : Vertex) → origin_of (with_todo r todo) x ≡ origin_of r x
    origin (Host h) = refl
    origin (Switch k) = refl

-- ---- the mapper's host
host-alike : (o : Option MapVertex) (h : ℕ) → host_at o ≡ Some h → are_alike o (Host h) (pos 0) ≡ true
host-alike None h e = cc
host-alike (Some (MapHost g)) h e = let one : g ≡ h = cc in and_from (nat_eq g h) (int_eq (pos 0) (pos 0)) ((Decides-eqb g h).1 one) ((Decides-int_eq (pos 0) (pos 0)).1 refl)
host-alike (Some (MapSwitch k)) h e = cc

module _ (n : Network) (m : NetMap) (host v : ℕ) (is_fabric : IsFabric n) (is_map : IsMap m) (there : vertex_of_host m host ≡ Some v) where
  abbrev itself : Image
  itself = record { vertex = Host host; offset = pos 0 }

  abbrev none : Pairs
  none = no_pairs n m host

  no-image : (u : ℕ) (i : Image) → image_of none u ≡ Some i → ⊥
  no-image u i e = let bad : None ≡ Some i = sym (none-at (length m.vertices) u) ∙ e in cc

  no-origin : (x : Vertex) → origin_of none x ≡ None
  no-origin (Host h) = none-at (length n.hosts + (host + 1)) h
  no-origin (Switch k) = none-at (length n.switches) k

  unpaired-yet : IsPairing n m none
  unpaired-yet = record {
    is_fabric = is_fabric;
    is_map = is_map;
    images = length-replicate (length m.vertices) None;
    hosts = length-replicate (length n.hosts + (host + 1)) None;
    switches = length-replicate (length n.switches) None;
    stands = λ u i e. absurd (no-image u i e);
    small = λ u i e. absurd (no-image u i e);
    alike = λ u i e. absurd (no-image u i e);
    origins = λ u i e. absurd (no-image u i e);
    found = λ x u e. absurd (let bad : None ≡ Some u = sym (no-origin x) ∙ e in no-number u bad);
  }
    where
      no-number : (u : ℕ) → None ≡ Some u → ⊥
      no-number u e = cc

  pub start-low : v < length none.images
  start-low = let l = (host-found m host v there).0 in let k = unpaired-yet.images in omega (arith, l, k)

  pub start-place : host < length none.hosts
  start-place = let k = unpaired-yet.hosts in omega (arith, k)

  pub begun-pairing : IsPairing n m (with_pair none v itself)
  begun-pairing =
      pair-kept none v itself start-low start-place (none-at (length m.vertices) v) n m unpaired-yet (ap is_some (no-origin (Host host))) (start there)
      (record { least = omega (arith, ints); most = omega (arith, ints) }) (host-alike (slice_get m.vertices v) host (host-found m host v there).1)

  pub begun-compared : AreCompared n m (with_pair none v itself)
  begun-compared = record {
    start = v;
    started = record { image = itself; is = image-same none v itself start-low start-place (none-at (length m.vertices) v); vertex = refl };
    each = λ u i e. by u i (grown.new u i e);
  }
    where
      grown : Grows none (with_pair none v itself)
      grown = pair-grows none v itself start-low start-place (none-at (length m.vertices) v)

      by : (u : ℕ) (i : Image) → (image_of none u ≡ Some i) ⊎ (is_todo (with_pair none v itself) u ≡ true) → (is_todo (with_pair none v itself) u ≡ true) ⊎ IsCompared n m (with_pair none v itself) u i
      by u i (inl e) = absurd (no-image u i e)
      by u i (inr h) = inl h

-- a map without the mapper's host is wrong
pub no-host : (n : Network) (m : NetMap) (host : ℕ) → vertex_of_host m host ≡ None → IsMapOfPart n host m → ⊥
no-host n m host none same =
    let part : IsInPart n host (Host host) = record { cables = 0; path = here } in
    let w = same.origin (Host host) in
    let named : host_of_vertex m w ≡ Some host = sym (same.addresses w (same.origin_in (Host host) part)) ∙ ap address_of (same.image_origin (Host host) part) in
    false≢true (sym (ap is_some none) ∙ host-is_found m w host named)

-- ---- at the end
abbrev vertex_in : Option Image → Vertex
vertex_in None = Host 0
vertex_in (Some i) = i.vertex

abbrev offset_in : Option Image → ℤ
offset_in None = pos 0
offset_in (Some i) = i.offset

abbrev number_in : Option ℕ → ℕ
number_in None = 0
number_in (Some v) = v

alike-address : (o : Option MapVertex) (x : Vertex) (offset : ℤ) → are_alike o x offset ≡ true → address_of x ≡ host_at o
alike-address None x offset e = absurd (false≢true e)
alike-address (Some (MapHost h)) (Host g) offset e = ap Some (sym ((Decides-eqb h g).0 (and_parts (nat_eq h g) (int_eq offset (pos 0)) e).0))
alike-address (Some (MapHost h)) (Switch k) offset e = absurd (false≢true e)
alike-address (Some (MapSwitch k)) (Host g) offset e = absurd (false≢true e)
alike-address (Some (MapSwitch k)) (Switch g) offset e = refl

alike-offset : (o : Option MapVertex) (x : Vertex) (offset : ℤ) (h : ℕ) → are_alike o x offset ≡ true → host_at o ≡ Some h → offset ≡ pos 0
alike-offset None x offset h e f = cc
alike-offset (Some (MapHost g)) (Host k) offset h e f = (Decides-int_eq offset (pos 0)).0 (and_parts (nat_eq g k) (int_eq offset (pos 0)) e).1
alike-offset (Some (MapHost g)) (Switch k) offset h e f = absurd (false≢true e)
alike-offset (Some (MapSwitch k)) x offset h e f = cc

module _ (n : Network) (m : NetMap) (s : Pairs) (p : IsPairing n m s) (all : AreCompared n m s) (done : s.todo ≡ []) where
  compared : (v : ℕ) (i : Image) → image_of s v ≡ Some i → IsCompared n m s v i
  compared v i e = by (all.each v i e)
    where
      by : (is_todo s v ≡ true) ⊎ IsCompared n m s v i → IsCompared n m s v i
      by (inl t) = absurd (false≢true (sym (ap (list_any (nat_eq v)) done) ∙ t))
      by (inr c) = c

  -- each vertex of the part is an image
  reached : (x : Vertex) (k : ℕ) → Path n (Host s.host) k x → (v : ℕ) × IsImage s v x
  reached x k here = (all.start, all.started)
  reached x k (over_cable {v = y} path q r f) =
      let u = reached y _ path in
      let c = compared u.0 u.1.image u.1.is in
      let met = c.met q (record { v = x; p = r }) (ap (λ (z : Vertex). far n (record { v = z; p = q })) u.1.vertex ∙ f) in
      (met.other.v, record { image = met.image; is = met.is; vertex = met.vertex })

  -- a vertex that isn't paired
  apart : (v : ℕ) → v < length m.vertices → image_of s v ≡ None → IsMapOfPart n s.host m → ⊥
  apart v l none same =
      let part = same.image_in v l in
      let u = reached (same.image v) part.cables part.path in
      let f = forced n s.host m p.is_map same u.0 u.1.image.vertex u.1.image.offset (p.stands u.0 u.1.image u.1.is) in
      let one : u.0 ≡ v = sym (same.origin_image u.0 f.below) ∙ ap same.origin (f.image ∙ u.1.vertex) ∙ same.origin_image v l in
      let bad : None ≡ Some u.1.image = sym none ∙ ap (image_of s) (sym one) ∙ u.1.is in
      cc

  module _ (whole : (v : ℕ) → v < length m.vertices → (i : Image) × (image_of s v ≡ Some i)) where
    abbrev image : ℕ → Vertex
    image v = vertex_in (image_of s v)

    abbrev offset : ℕ → ℤ
    offset v = offset_in (image_of s v)

    abbrev origin : Vertex → ℕ
    origin x = number_in (origin_of s x)

    origin-is : (x : Vertex) (v : ℕ) → IsImage s v x → origin x ≡ v
    origin-is x v f = ap number_in (sym (ap (origin_of s) f.vertex) ∙ p.origins v f.image f.is)

    image-is : (x : Vertex) (v : ℕ) → IsImage s v x → image v ≡ x
    image-is x v f = ap vertex_in f.is ∙ f.vertex

    low-image : (v : ℕ) (i : Image) → image_of s v ≡ Some i → v < length m.vertices
    low-image v i e = let l = below s.images v i e in let k = p.images in omega (arith, l, k)

    forth : (v w : ℕ) (a b : ℤ) → v < length m.vertices → w < length m.vertices → IsCabled m (record { v = v; p = a }) (record { v = w; p = b }) → Joined n (image v) (a +ℤ offset v) (image w) (b +ℤ offset w)
    forth v w a b l k cabled =
        let d : MapPort = record { v = v; p = a } in
        let to : MapPort = record { v = w; p = b } in
        let i = whole v l in
        let c = compared v i.0 i.1 in
        let led : map_far m d ≡ Some to = (far_is_cabled m d to p.is_map).1 cabled in
        let not_stray : (true && not (is_cabled_at n i.0.vertex (a +ℤ i.0.offset))) ≡ false = sym (ap (λ o. is_some o && not (is_cabled_at n i.0.vertex (a +ℤ i.0.offset))) led) ∙ c.cabled a in
        let at = has-cable n i.0.vertex (a +ℤ i.0.offset) (is-true (is_cabled_at n i.0.vertex (a +ℤ i.0.offset)) not_stray) in
        let met = c.met at.at at.end at.cable in
        let same : Some met.other ≡ Some to = sym met.far ∙ ap (λ z. map_far m (record { v = v; p = z })) (back-port a i.0.offset at.at at.is) ∙ led in
        let one : met.other ≡ to = cc in
        let there : image_of s w ≡ Some met.image = ap (λ (x : MapPort). image_of s x.v) (sym one) ∙ met.is in
        far-joined n (image v) (image w) at.at at.end (a +ℤ offset v) (b +ℤ offset w)
        (ap (λ o. far n (record { v = vertex_in o; p = at.at })) i.1 ∙ at.cable)
        (ap (λ o. a +ℤ offset_in o) i.1 ∙ at.is)
        (sym met.vertex ∙ sym (ap vertex_in there))
        (ap (λ o. b +ℤ offset_in o) there ∙ ap (λ (x : MapPort). x.p +ℤ met.image.offset) (sym one) ∙ met.port)
      where
        is-true : (b : Bool) → (true && not b) ≡ false → b ≡ true
        is-true true e = refl
        is-true false e = absurd (false≢true (sym e))

    back : (v w : ℕ) (a b : ℤ) → v < length m.vertices → w < length m.vertices → Joined n (image v) (a +ℤ offset v) (image w) (b +ℤ offset w) → IsCabled m (record { v = v; p = a }) (record { v = w; p = b })
    back v w a b l k joined =
        let i = whole v l in
        let o = whole w k in
        let c = compared v i.0 i.1 in
        let j = joined-far n (image v) (a +ℤ offset v) (image w) (b +ℤ offset w) joined in
        let met = c.met j.low (record { v = image w; p = j.high }) (sym (ap (λ z. far n (record { v = vertex_in z; p = j.low })) i.1) ∙ j.cable) in
        let here_too : image_of s met.other.v ≡ Some met.image = met.is in
        let origins : Some met.other.v ≡ Some w =
        sym (p.origins met.other.v met.image met.is) ∙ ap (origin_of s) (met.vertex ∙ ap vertex_in o.1) ∙ p.origins w o.0 o.1 in
        let vertex : met.other.v ≡ w = cc in
        let images : Some met.image ≡ Some o.0 = sym met.is ∙ ap (image_of s) vertex ∙ o.1 in
        let one : met.image ≡ o.0 = cc in
        let port : met.other.p ≡ b =
        one-port met.other.p b o.0.offset j.high (ap (λ (x : Image). met.other.p +ℤ x.offset) (sym one) ∙ met.port) (sym (ap (λ z. b +ℤ offset_in z) o.1) ∙ j.is_high) in
        let from : pos j.low -ℤ i.0.offset ≡ a = back-port a i.0.offset j.low (sym (ap (λ z. a +ℤ offset_in z) i.1) ∙ j.is_low) in
        let to : met.other ≡ record { v = w; p = b } = λ t. record { v = vertex t; p = port t } in
        (far_is_cabled m (record { v = v; p = a }) (record { v = w; p = b }) p.is_map).0 (sym (ap (λ z. map_far m (record { v = v; p = z })) from) ∙ met.far ∙ ap Some to)

    assembled : IsMapOfPart n s.host m
    assembled = record {
      image = image;
      origin = origin;
      offset = offset;
      image_in = λ v l. (let i = whole v l in subst (IsInPart n s.host) (sym (ap vertex_in i.1)) (stands-in n s.host m v i.0.vertex i.0.offset (p.stands v i.0 i.1)));
      origin_in = λ x part. (let u = reached x part.cables part.path in subst (λ v. v < length m.vertices) (sym (origin-is x u.0 u.1)) (low-image u.0 u.1.image u.1.is));
      origin_image = λ v l. (let i = whole v l in origin-is (image v) v (record { image = i.0; is = i.1; vertex = sym (ap vertex_in i.1) }));
      image_origin = λ x part. (let u = reached x part.cables part.path in ap image (origin-is x u.0 u.1) ∙ image-is x u.0 u.1);
      addresses = λ v l. (let i = whole v l in ap (λ o. address_of (vertex_in o)) i.1 ∙ alike-address (slice_get m.vertices v) i.0.vertex i.0.offset (p.alike v i.0 i.1));
      host_offsets = λ v h l e. (let i = whole v l in ap offset_in i.1 ∙ alike-offset (slice_get m.vertices v) i.0.vertex i.0.offset h (p.alike v i.0 i.1) e);
      cables = λ v w a b l k. (forth v w a b l k, back v w a b l k);
    }

  pub decided : (list_all is_some s.images ≡ true) ↔ IsMapOfPart n s.host m
  decided = (all_paired, (λ same. none_apart (list_all is_some s.images) refl same))
    where
      all_paired : list_all is_some s.images ≡ true → IsMapOfPart n s.host m
      all_paired e = assembled (λ v l. each-some s.images e v (let k = p.images in omega (arith, l, k)))

      none_apart : (b : Bool) → list_all is_some s.images ≡ b → IsMapOfPart n s.host m → b ≡ true
      none_apart true e same = refl
      none_apart false e same = let h = some-none s.images e in absurd (apart h.0 (let l = h.1.0 in let k = p.images in omega (arith, l, k)) h.1.1 same)

-- nothing is left to be compared
pub all-compared : (n : Network) (m : NetMap) (s r : Pairs) (host : ℕ) (is : Bool) → s ≡ with_todo r (taken_off None r.todo) → r.todo ≡ [] → IsPairing n m s → AreCompared n m s → s.host ≡ host → is ≡ list_all is_some r.images
    → (is ≡ true) ↔ IsMapOfPart n host m
all-compared n m s r host is taken done p all same e =
    let at : s ≡ r = taken in
    subst (λ b. (b ≡ true) ↔ IsMapOfPart n host m) (sym e)
    (subst (λ h. (list_all is_some r.images ≡ true) ↔ IsMapOfPart n h m) (sym (ap (λ (x : Pairs). x.host) at) ∙ same)
    (decided n m r (subst (IsPairing n m) at p) (subst (AreCompared n m) at all) done))
