-- The channels that turns cross on a right map stand for those that they cross in the fabric.
use Rattle.std.proofs.Common.{◌≡◌, ◌+◌, ◌*◌, ℕ, suc, List, [], ◌∷◌, ◌++◌, Bool, true, false, Option, Some, None, sym, ◌∙◌, subst, ap, refl, arith, if◌then◌else◌}
use Rattle.std.specs.Prelude.{ℤ, pos, ◌+ℤ◌, slice_get, option_and_then, option_to_list}
use Rattle.std.proofs.lemmas.Int.{ints}
use Rattle.net_defs.specs.declared.vertex.End.{End}
use Rattle.net_defs.specs.declared.vertex.Cable.{Cable}
use Rattle.net_defs.specs.Network.{Network, IsFabric, far, far_end, ends_of, same_end}
use Rattle.net_defs.specs.Route.{channel_out, channel_from, crossing, next_exit, channels_after, host_port}
use Rattle.net_defs.proofs.Ends.{same_end-true}
use Rattle.map_defs.specs.NetMap.{NetMap, MapPort, IsMap, map_far}
use Rattle.map_defs.specs.Routing.{next_port, channel_at, channels_on, port_of_host}
use Rattle.map_defs.specs.Sameness.{IsMapOfPart}
use Rattle.map_defs.proofs.Channels.{channel-none, channel-one}
use Rattle.map_laws.specs.Leading.{IsChannelOf, AreMatched, ChannelsAreMatched, ChannelsAreOneToOne}
use Rattle.map_laws.proofs.Meeting.{Meets, FarPair, Pair, far-pair, next-pair, start-pair}
use Rattle.map_laws.proofs.Meeting.FarPair.{cabled, uncabled}
use Rattle.map_laws.proofs.Meeting.Pair.{meets, no_port, no_cable}

-- a port has a channel where it has a cable
far-channel : (k : ℕ) (cs : List Cable) (e y : End) → far_end cs e ≡ Some y → (c : ℕ) × (channel_out k cs e ≡ Some c)
far-channel k [] e y f = cc
far-channel k (x ∷ cs) e y f = by (same_end x.a e) (same_end x.b e) f (far-channel (k + 1) cs e y)
  where
    by : (s t : Bool) → (if s then Some x.b else if t then Some x.a else far_end cs e) ≡ Some y → (far_end cs e ≡ Some y → (c : ℕ) × (channel_out (k + 1) cs e ≡ Some c)) → (c : ℕ) × ((if s then Some (2 * k) else if t then Some (2 * k + 1) else channel_out (k + 1) cs e) ≡ Some c)
    by true t g rest = (2 * k, refl)
    by false true g rest = (2 * k + 1, refl)
    by false false g rest = rest g

far-no_channel : (k : ℕ) (cs : List Cable) (e : End) → far_end cs e ≡ None → channel_out k cs e ≡ None
far-no_channel k [] e f = refl
far-no_channel k (x ∷ cs) e f = by (same_end x.a e) (same_end x.b e) f (far-no_channel (k + 1) cs e)
  where
    by : (s t : Bool) → (if s then Some x.b else if t then Some x.a else far_end cs e) ≡ None → (far_end cs e ≡ None → channel_out (k + 1) cs e ≡ None) → (if s then Some (2 * k) else if t then Some (2 * k + 1) else channel_out (k + 1) cs e) ≡ None
    by true t g rest = cc
    by false true g rest = cc
    by false false g rest = rest g

-- a channel's number is the place of its port among the ends of the cables
record Placed (k : ℕ) (cs : List Cable) (e : End) (c : ℕ) : Type 0 where
  pub place : ℕ
  pub number : c ≡ 2 * k + place
  pub there : slice_get (ends_of cs) place ≡ Some e

channel-placed : (k : ℕ) (cs : List Cable) (e : End) (c : ℕ) → channel_out k cs e ≡ Some c → Placed k cs e c
channel-placed k [] e c is = cc
channel-placed k (x ∷ cs) e c is = by (same_end x.a e) (same_end x.b e) refl refl is (channel-placed (k + 1) cs e c)
  where
    by : (s t : Bool) → same_end x.a e ≡ s → same_end x.b e ≡ t → (if s then Some (2 * k) else if t then Some (2 * k + 1) else channel_out (k + 1) cs e) ≡ Some c → (channel_out (k + 1) cs e ≡ Some c → Placed (k + 1) cs e c) → Placed k (x ∷ cs) e c
    by true t p q g rest = let n : 2 * k ≡ c = cc in record { place = 0; number = omega (arith, n); there = ap Some (same_end-true x.a e p) }
    by false true p q g rest = let n : 2 * k + 1 ≡ c = cc in record { place = 1; number = omega (arith, n); there = ap Some (same_end-true x.b e q) }
    by false false p q g rest = let r = rest g in let n = r.number in record { place = suc (suc r.place); number = omega (arith, n); there = r.there }

-- so one channel leaves by one port
pub channel-one_port : (n : Network) (e f : End) (c : ℕ) → channel_from n e ≡ Some c → channel_from n f ≡ Some c → e ≡ f
channel-one_port n e f c a b =
    let p = channel-placed 0 n.cables e c a in
    let q = channel-placed 0 n.cables f c b in
    let place : p.place ≡ q.place = (let x = p.number in let y = q.number in omega (arith, x, y)) in
    let two : Some e ≡ Some f = sym p.there ∙ ap (slice_get (ends_of n.cables)) place ∙ q.there in
    cc

pub matched-append : {X Y : Type 0} (R : X → Y → Type 0) (xs us : List X) (ys vs : List Y) → AreMatched R xs ys → AreMatched R us vs → AreMatched R (xs ++ us) (ys ++ vs)
matched-append R [] us [] vs a b = b
matched-append R (x ∷ xs) us (y ∷ ys) vs a b = (a.0, matched-append R xs us ys vs a.1 b)
matched-append R [] us (y ∷ ys) vs a b = absurd a
matched-append R (x ∷ xs) us [] vs a b = absurd a

abbrev own_channel : NetMap → Option MapPort → List MapPort
own_channel m None = []
own_channel m (Some d) = channel_at m d

crossing-none : (n : Network) (x : Option End) → option_and_then (far n) x ≡ None → crossing n x ≡ []
crossing-none n None e = refl
crossing-none n (Some y) e = ap option_to_list (far-no_channel 0 n.cables y e)

crossing-one : (n : Network) (x : End) (c : ℕ) → channel_from n x ≡ Some c → crossing n (Some x) ≡ c ∷ []
crossing-one n x c e = ap option_to_list e

module _ (n : Network) (host : ℕ) (m : NetMap) (fabric : IsFabric n) (rules : IsMap m) (same : IsMapOfPart n host m) where
  abbrev StandsFor : MapPort → ℕ → Type 0
  StandsFor d c = IsChannelOf n host m same d c

  met-channel : (d e : MapPort) (x y : End) → Meets n host m fabric rules same d x → map_far m d ≡ Some e → far n x ≡ Some y → AreMatched StandsFor (channel_at m d) (crossing n (Some x))
  met-channel d e x y at f g =
      let c = far-channel 0 n.cables x y g in
      let number : channel_from n (record { v = same.image d.v; p = x.p }) ≡ Some c.0 = ap (λ v. channel_from n (record { v = v; p = x.p })) (sym at.vertex) ∙ c.1 in
      let one : StandsFor d c.0 = record { in_map = at.in_map; port = x.p; moved = at.port; number = number } in
      subst (λ l. AreMatched StandsFor l (crossing n (Some x))) (sym (channel-one m d e f)) (subst (AreMatched StandsFor (d ∷ [])) (sym (crossing-one n x c.0 c.1)) (one, tt))

  none-matched : (d : MapPort) (x : Option End) → map_far m d ≡ None → option_and_then (far n) x ≡ None → AreMatched StandsFor (channel_at m d) (crossing n x)
  none-matched d x f g = subst (λ l. AreMatched StandsFor l (crossing n x)) (sym (channel-none m d f)) (subst (AreMatched StandsFor []) (sym (crossing-none n x g)) tt)

  one-matched : (d : Option MapPort) (x : Option End) → Pair n host m fabric rules same d x → AreMatched StandsFor (own_channel m d) (crossing n x)
  one-matched d x (meets {d = c} {x = y} at) = by (far-pair n host m fabric rules same c y at)
    where
      by : FarPair n host m fabric rules same c y → AreMatched StandsFor (channel_at m c) (crossing n (Some y))
      by (cabled {e = e} {y = z} f g k) = met-channel c e y z at f g
      by (uncabled f g) = none-matched c (Some y) f g
  one-matched d x (no_port {x = y} f) = subst (AreMatched StandsFor []) (sym (crossing-none n y f)) tt
  one-matched d x (no_cable {d = c} {x = y} f g) = none-matched c y f g

  pub matched : (turns : List ℤ) (d : Option MapPort) (x : Option End) → Pair n host m fabric rules same d x → AreMatched StandsFor (channels_on m d turns) (channels_after n x turns)
  matched [] None x p = one-matched None x p
  matched [] (Some d) x p = one-matched (Some d) x p
  matched (t ∷ ts) None x p = matched-append StandsFor [] [] (crossing n x) (channels_after n (next_exit n x t) ts) (one-matched None x p) (matched ts None (next_exit n x t) (next-pair n host m fabric rules same None x t p))
  matched (t ∷ ts) (Some d) x p =
      matched-append StandsFor (channel_at m d) (channels_on m (next_port m d t) ts) (crossing n x) (channels_after n (next_exit n x t) ts) (one-matched (Some d) x p) (matched ts (next_port m d t) (next_exit n x t) (next-pair n host m fabric rules same (Some d) x t p))

pub channels_are_matched : ChannelsAreMatched
channels_are_matched n host a m turns fabric rules same h = matched n host m fabric rules same turns (port_of_host m a) (Some (host_port a)) (start-pair n host m fabric rules same a h)

one_sum : (a b : ℕ) (z : ℤ) → pos a ≡ z → pos b ≡ z → a ≡ b
one_sum a b z e f = omega (arith, ints)

one_difference : (a b : ℕ) (p q o u : ℤ) → pos a ≡ p +ℤ o → pos b ≡ q +ℤ u → a ≡ b → o ≡ u → p ≡ q
one_difference a b p q o u e f g h = omega (arith, ints)

pub channels_are_one_to_one : ChannelsAreOneToOne
channels_are_one_to_one n host m fabric same = record { one = one; back = back }
  where
    one : (d : MapPort) (b c : ℕ) → IsChannelOf n host m same d b → IsChannelOf n host m same d c → b ≡ c
    one d b c r s =
        let port : r.port ≡ s.port = one_sum r.port s.port (d.p +ℤ same.offset d.v) r.moved s.moved in
        let two : Some b ≡ Some c = sym r.number ∙ ap (λ p. channel_from n (record { v = same.image d.v; p = p })) port ∙ s.number in
        cc

    back : (d e : MapPort) (c : ℕ) → IsChannelOf n host m same d c → IsChannelOf n host m same e c → d ≡ e
    back d e c r s =
        let end = channel-one_port n (record { v = same.image d.v; p = r.port }) (record { v = same.image e.v; p = s.port }) c r.number s.number in
        let image : same.image d.v ≡ same.image e.v = ap (λ (x : End). x.v) end in
        let vertex : d.v ≡ e.v = sym (same.origin_image d.v r.in_map) ∙ ap same.origin image ∙ same.origin_image e.v s.in_map in
        let port : d.p ≡ e.p = one_difference r.port s.port d.p e.p (same.offset d.v) (same.offset e.v) r.moved s.moved (ap (λ (x : End). x.p) end) (ap same.offset vertex) in
        λ i. record { v = vertex i; p = port i }
