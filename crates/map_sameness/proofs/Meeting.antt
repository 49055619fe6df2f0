-- Where the far ends of a port and of its image are paired, and that else the map is wrong.
use Rattle.std.proofs.Common.{◌≡◌, ◌<◌, ℕ, zero, suc, Bool, true, false, not, List, [], ◌∷◌, length, nat_eq, nat_lt, Option, Some, None, refl, ap, sym, ◌∙◌, subst, arith, if◌then◌else◌, IfSome, Result, Ok, Err, IfOk, OnOk}
use Rattle.std.specs.Prelude.{ℤ, pos, ◌+ℤ◌, ◌-ℤ◌, slice_get, is_some}
use Rattle.std.specs.Ordering.{int_eq}
use Rattle.std.specs.Option.{option_map_or}
use Rattle.std.proofs.lemmas.Bool.{false≢true, and_parts, and_from}
use Rattle.std.proofs.lemmas.Bool.Decides.{Decides-eqb, Decides-int_eq, nat_tests}
use Rattle.std.proofs.lemmas.Int.{ints}
use Rattle.net_defs.specs.declared.vertex.Vertex.{Vertex}
use Rattle.net_defs.specs.declared.vertex.Vertex.TheVariants.{Host, Switch}
use Rattle.net_defs.specs.declared.vertex.End.{End}
use Rattle.net_defs.specs.Network.{Network, NamedSwitch, far, has_port, ports_of}
use Rattle.net_defs.specs.Turn.{IsTurn}
use Rattle.net_defs.proofs.Places.{far-there}
use Rattle.journal_defs.specs.Part.{IsInPart}
use Rattle.journal_defs.specs.Part.Path.{over as over_cable}
use Rattle.map_defs.specs.declared.vertex.MapVertex.{MapVertex}
use Rattle.map_defs.specs.declared.vertex.MapVertex.TheVariants.{Host as MapHost, Switch as MapSwitch}
use Rattle.map_defs.specs.NetMap.{NetMap, MapPort, map_far, host_at}
use Rattle.map_defs.specs.Sameness.{IsMapOfPart, Joined, address_of}
use Rattle.map_defs.proofs.Ports.{far_is_cabled}
use Rattle.fabric_map.specs.Table.{far_pair}
use Rattle.map_sameness.specs.declared.pairing.Image.{Image}
use Rattle.map_sameness.specs.Standing.{Stands}
use Rattle.map_sameness.specs.Standing.Stands.{over}
use Rattle.map_sameness.specs.Pairing.{Pairs, image_of, origin_of, HasPlace, are_alike, may_be_new, may_be_by, may_be, with_pair, paired_by, paired, IsSmall, IsPairing, IsMet, Meets}
use Rattle.map_sameness.proofs.Forced.{IsForced, forced, stands-in, far-joined}
use Rattle.map_sameness.proofs.Pairs.{images-same, images-itself, far-inside, image-same, pair-grows, pair-kept, grows-itself}

-- ---- a vertex with a cable is there
switch-there : (ws : List NamedSwitch) (k p : ℕ) → nat_lt p (option_map_or (λ w. w.ports) (slice_get ws k) 0) ≡ true → k < length ws
switch-there [] k p h = absurd (grind (arith, nat_tests))
switch-there (w ∷ ws) zero p h = omega arith
switch-there (w ∷ ws) (suc k) p h = let l = switch-there ws k p h in omega (arith, l)

host-there : (h k p : ℕ) → nat_lt p (if nat_lt h k then 1 else 0) ≡ true → h < k
host-there h k p e = by (nat_lt h k) refl e
  where
    by : (b : Bool) → nat_lt h k ≡ b → nat_lt p (if b then 1 else 0) ≡ true → h < k
    by true q f = grind (arith, nat_tests)
    by false q f = absurd (grind (arith, nat_tests))

pub place-of : (n : Network) (m : NetMap) (s : Pairs) (e d : End) → IsPairing n m s → far n d ≡ Some e → HasPlace s e.v
place-of n m s e d p f = by e.v e.p (subst (λ o. IfSome o (λ x. has_port n x ≡ true)) f (far-there n d p.is_fabric))
  where
    by : (x : Vertex) (q : ℕ) → nat_lt q (ports_of n x) ≡ true → HasPlace s x
    by (Host h) q t = let l = host-there h (length n.hosts) q t in let long = p.hosts in omega (arith, l, long)
    by (Switch k) q t = let l = switch-there n.switches k q t in let long = p.switches in omega (arith, l, long)

-- ---- what is right
sum-back : (q : ℕ) (t : ℤ) → t +ℤ (pos q -ℤ t) ≡ pos q
sum-back q t = omega (arith, ints)

some-false : {A : Type 0} (o : Option A) → not (is_some o) ≡ true → is_some o ≡ false
some-false None e = refl
some-false (Some x) e = absurd (false≢true e)

module _ (n : Network) (m : NetMap) (s : Pairs) (v : ℕ) (i : Image) (at : ℕ) (e : End) (d : MapPort) (p : IsPairing n m s) (is : image_of s v ≡ Some i) (small : IsSmall (pos e.p -ℤ d.p)) (far_at : far n (record { v = i.vertex; p = at }) ≡ Some e) (led : map_far m (record { v = v; p = pos at -ℤ i.offset }) ≡ Some d) where
  abbrev j : Image
  j = record { vertex = e.v; offset = pos e.p -ℤ d.p }

  stands : Stands n s.host m d.v e.v (pos e.p -ℤ d.p)
  stands = over (p.stands v i is) at e d far_at led

  inside : (d.v < length m.vertices) × IsTurn d.p
  inside = far-inside m (record { v = v; p = pos at -ℤ i.offset }) d p.is_map led

  low : d.v < length s.images
  low = let long = p.images in let l = inside.0 in omega (arith, long, l)

  only : (t : Pairs) (f : End) → far n (record { v = i.vertex; p = at }) ≡ Some f → IsMet m t (record { v = v; p = pos at -ℤ i.offset }) e → IsMet m t (record { v = v; p = pos at -ℤ i.offset }) f
  only t f g met = let both : Some e ≡ Some f = sym far_at ∙ g in let one : e ≡ f = cc in subst (IsMet m t (record { v = v; p = pos at -ℤ i.offset })) one met

  met-as : (t : Pairs) → image_of t d.v ≡ Some j → IsMet m t (record { v = v; p = pos at -ℤ i.offset }) e
  met-as t there = record { other = d; image = j; far = led; is = there; vertex = refl; port = sum-back e.p d.p }

  pub pair-meets : may_be m s d.v j ≡ true → Meets n m s (paired m s d.v j) v i at
  pair-meets may = by (image_of s d.v) refl may
    where
      new : image_of s d.v ≡ None → (b : Bool) → may_be_new m s d.v j ≡ b → b ≡ true → Meets n m s (if b then with_pair s d.v j else s) v i at
      new none false q t = absurd (false≢true t)
      new none true q t =
          let two = and_parts (are_alike (slice_get m.vertices d.v) e.v j.offset) (not (is_some (origin_of s e.v))) q in
          let kept = pair-kept s d.v j low (place-of n m s e (record { v = i.vertex; p = at }) p far_at) none n m p (some-false (origin_of s e.v) two.1) stands small two.0 in
          record {
            pairing = kept;
            grows = pair-grows s d.v j low (place-of n m s e (record { v = i.vertex; p = at }) p far_at) none;
            met = λ f g. only (with_pair s d.v j) f g (met-as (with_pair s d.v j) (image-there none));
          }
        where
          image-there : image_of s d.v ≡ None → image_of (with_pair s d.v j) d.v ≡ Some j
          image-there none = image-same s d.v j low (place-of n m s e (record { v = i.vertex; p = at }) p far_at) none

      by : (o : Option Image) → image_of s d.v ≡ o → may_be_by m s d.v j o ≡ true → Meets n m s (paired_by m s d.v j o) v i at
      by None none t = new none (may_be_new m s d.v j) refl t
      by (Some known) there t =
          let one = images-same known j t in
          record {
            pairing = p;
            grows = grows-itself s;
            met = λ f g. only s f g (met-as s (there ∙ ap Some one));
          }

  -- ---- what is wrong
  module _ (same : IsMapOfPart n s.host m) where
    here : IsForced n s.host m same d.v e.v (pos e.p -ℤ d.p)
    here = forced n s.host m p.is_map same d.v e.v (pos e.p -ℤ d.p) stands

    forced-image : (u : ℕ) (k : Image) → image_of s u ≡ Some k → IsForced n s.host m same u k.vertex k.offset
    forced-image u k there = forced n s.host m p.is_map same u k.vertex k.offset (p.stands u k there)

    alike : are_alike (slice_get m.vertices d.v) e.v (pos e.p -ℤ d.p) ≡ true
    alike = by (slice_get m.vertices d.v) e.v refl (below-some m.vertices d.v inside.0) (sym (ap address_of here.image) ∙ same.addresses d.v inside.0)
      where
        below-some : (vs : List MapVertex) (k : ℕ) → k < length vs → is_some (slice_get vs k) ≡ true
        below-some [] k l = absurd (omega arith)
        below-some (x ∷ vs) zero l = refl
        below-some (x ∷ vs) (suc k) l = below-some vs k (omega arith)

        by : (o : Option MapVertex) (x : Vertex) → slice_get m.vertices d.v ≡ o → is_some o ≡ true → address_of x ≡ host_at (slice_get m.vertices d.v) → are_alike o x (pos e.p -ℤ d.p) ≡ true
        by None x q t a = absurd (false≢true t)
        by (Some (MapHost h)) (Host g) q t a =
            let named : host_at (slice_get m.vertices d.v) ≡ Some h = ap host_at q in
            let both : Some g ≡ Some h = a ∙ named in
            let one : h ≡ g = cc in
            let none : pos e.p -ℤ d.p ≡ pos 0 = sym here.offset ∙ same.host_offsets d.v h inside.0 named in
            and_from (nat_eq h g) (int_eq (pos e.p -ℤ d.p) (pos 0)) ((Decides-eqb h g).1 one) ((Decides-int_eq (pos e.p -ℤ d.p) (pos 0)).1 none)
        by (Some (MapHost h)) (Switch k) q t a = let both : None ≡ Some h = a ∙ ap host_at q in cc
        by (Some (MapSwitch k)) (Host g) q t a = let both : Some g ≡ None = a ∙ ap host_at q in cc
        by (Some (MapSwitch k)) (Switch g) q t a = refl

    free : image_of s d.v ≡ None → (o : Option ℕ) → origin_of s e.v ≡ o → is_some o ≡ false
    free none None q = refl
    free none (Some u) q =
        let f = p.found e.v u q in
        let there = forced-image u f.image f.is in
        let one : u ≡ d.v =
        sym (same.origin_image u there.below) ∙ ap same.origin (there.image ∙ f.vertex ∙ sym here.image) ∙ same.origin_image d.v inside.0 in
        let bad : None ≡ Some f.image = sym none ∙ ap (image_of s) (sym one) ∙ f.is in
        cc

    may : (o : Option Image) → image_of s d.v ≡ o → may_be_by m s d.v j o ≡ true
    may None none = and_from (are_alike (slice_get m.vertices d.v) e.v j.offset) (not (is_some (origin_of s e.v))) alike (ap not (free none (origin_of s e.v) refl))
    may (Some known) there =
        let k = forced-image d.v known there in
        images-itself known j (sym k.image ∙ here.image) (sym k.offset ∙ here.offset)

  pub pair-wrong : may_be m s d.v j ≡ false → IsMapOfPart n s.host m → ⊥
  pair-wrong wrong same = false≢true (sym wrong ∙ may same (image_of s d.v) refl)

-- no cable at a port of the map, and one at its image
pub none-wrong : (n : Network) (m : NetMap) (s : Pairs) (v : ℕ) (i : Image) (at : ℕ) (e : End) → IsPairing n m s → image_of s v ≡ Some i → far n (record { v = i.vertex; p = at }) ≡ Some e
    → map_far m (record { v = v; p = pos at -ℤ i.offset }) ≡ None → IsMapOfPart n s.host m → ⊥
none-wrong n m s v i at e p is far_at none same =
    let f = forced n s.host m p.is_map same v i.vertex i.offset (p.stands v i is) in
    let part = stands-in n s.host m v i.vertex i.offset (p.stands v i is) in
    let there : IsInPart n s.host e.v = record { cables = suc part.cables; path = over_cable part.path at e.p far_at } in
    let w = same.origin e.v in
    let q = pos e.p -ℤ same.offset w in
    let joined : Joined n (same.image v) ((pos at -ℤ i.offset) +ℤ same.offset v) (same.image w) (q +ℤ same.offset w) =
    far-joined n (same.image v) (same.image w) at e ((pos at -ℤ i.offset) +ℤ same.offset v) (q +ℤ same.offset w) (ap (λ (z : Vertex). far n (record { v = z; p = at })) f.image ∙ far_at)
    (ap (λ z. (pos at -ℤ i.offset) +ℤ z) f.offset ∙ back at i.offset) (sym (same.image_origin e.v there)) (back e.p (same.offset w)) in
    let cabled = (same.cables v w (pos at -ℤ i.offset) q f.below (same.origin_in e.v there)).1 joined in
    let to : MapPort = record { v = w; p = q } in
    let bad : None ≡ Some to = sym none ∙ (far_is_cabled m (record { v = v; p = pos at -ℤ i.offset }) to p.is_map).1 cabled in
    cc
  where
    back : (a : ℕ) (o : ℤ) → (pos a -ℤ o) +ℤ o ≡ pos a
    back a o = omega (arith, ints)

-- no cable at a port of the fabric is met at once
pub none_meets : (n : Network) (m : NetMap) (s : Pairs) (v : ℕ) (i : Image) (at : ℕ) → IsPairing n m s → None ≡ far n (record { v = i.vertex; p = at }) → Meets n m s s v i at
none_meets n m s v i at p none = record {
  pairing = p;
  grows = grows-itself s;
  met = λ e f. absurd (no-far e (none ∙ f));
}
  where
    no-far : (e : End) → None ≡ Some e → ⊥
    no-far e f = cc

-- ---- as the map answers
far-known : (o : Option MapPort) (w : ℕ) (q : ℤ) → Some (w, q) ≡ far_pair o → o ≡ Some (record { v = w; p = q })
far-known None w q e = cc
far-known (Some d) w q e =
    let both : (let x : ℕ × ℤ = (w, q) in x) ≡ (d.v, d.p) = cc in
    let v : d.v ≡ w = sym (ap (λ (x : ℕ × ℤ). x.0) both) in
    let p : d.p ≡ q = sym (ap (λ (x : ℕ × ℤ). x.1) both) in
    λ t. Some (record { v = v t; p = p t })

pub far-none : (o : Option MapPort) → None ≡ far_pair o → o ≡ None
far-none None e = refl
far-none (Some d) e = cc

-- what is known once a far end of the map was to stand for one of the fabric
pub record IsAsked (n : Network) (m : NetMap) (s t : Pairs) (v : ℕ) (i : Image) (at : ℕ) (is : Bool) : Type 0 where
  pub end : End
  pub w : ℕ
  pub q : ℤ
  pub pairing : IsPairing n m s
  pub image : image_of s v ≡ Some i
  pub small : IsSmall (pos end.p -ℤ q)
  pub cable : Some end ≡ far n (record { v = i.vertex; p = at })
  pub led : Some (w, q) ≡ far_pair (map_far m (record { v = v; p = pos at -ℤ i.offset }))
  pub may : is ≡ may_be m s w (record { vertex = end.v; offset = pos end.p -ℤ q })
  pub after : t ≡ paired m s w (record { vertex = end.v; offset = pos end.p -ℤ q })

pub asked-met : (n : Network) (m : NetMap) (s t : Pairs) (v : ℕ) (i : Image) (at : ℕ) (is : Bool) → IsAsked n m s t v i at is → is ≡ true → Meets n m s t v i at
asked-met n m s t v i at is a e =
    let d : MapPort = record { v = a.w; p = a.q } in
    subst (λ u. Meets n m s u v i at) (sym a.after)
    (pair-meets n m s v i at a.end d a.pairing a.image a.small (sym a.cable) (far-known (map_far m (record { v = v; p = pos at -ℤ i.offset })) a.w a.q a.led) (sym a.may ∙ e))

pub asked-wrong : (n : Network) (m : NetMap) (s t : Pairs) (v : ℕ) (i : Image) (at : ℕ) (is : Bool) → IsAsked n m s t v i at is → is ≡ false → IsMapOfPart n s.host m → ⊥
asked-wrong n m s t v i at is a e same =
    let d : MapPort = record { v = a.w; p = a.q } in
    pair-wrong n m s v i at a.end d a.pairing a.image a.small (sym a.cable) (far-known (map_far m (record { v = v; p = pos at -ℤ i.offset })) a.w a.q a.led) (sym a.may ∙ e) same

-- what a call leaves where it answers, and where it answers with a test
pub both-on_ok : {T E : Type 0} (r : Result T E) (P : T → Type 0) (Q : Type 0) (R : T → Type 0) → ((x : T) → P x → Q → R x) → IfOk r P → OnOk r Q → IfOk r R
both-on_ok (Ok x) P Q R f p q = f x p q
both-on_ok (Err e) P Q R f p q = p

pub if_ok-weaker : {T E : Type 0} (r : Result T E) (P R : T → Type 0) → ((x : T) → P x → R x) → IfOk r P → IfOk r R
if_ok-weaker (Ok x) P R f p = f x p
if_ok-weaker (Err e) P R f p = p
