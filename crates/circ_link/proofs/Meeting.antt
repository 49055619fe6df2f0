-- A walk's exits meet where its channels do.
use Rattle.std.proofs.Common.{◌≡◌, ℕ, List, [], ◌∷◌, ◌++◌, Bool, true, false, not, ◌&&◌, ◌||◌, nat_eq, if◌then◌else◌, Option, Some, None, IfSome, sym, ◌∙◌, subst, ap, refl, ◌⊎◌, inl, inr}
use Rattle.std.specs.Prelude.{ℤ, map, option_and_then, option_to_list}
use Rattle.std.specs.List.{list_any}
use Rattle.std.proofs.lemmas.Bool.{true≢false}
use Rattle.std.proofs.lemmas.Bool.Decides.{Decides-eqb}
use Rattle.net_defs.specs.declared.vertex.Vertex.{Vertex}
use Rattle.net_defs.specs.declared.vertex.Vertex.TheVariants.{Host, Switch}
use Rattle.net_defs.specs.declared.vertex.End.{End}
use Rattle.net_defs.specs.declared.place.Place.{Place}
use Rattle.net_defs.specs.declared.place.Place.TheVariants.{Host as AtHost, Switch as AtSwitch, Nothing as Stuck}
use Rattle.net_defs.specs.Network.{Network, IsFabric, far, same_end}
use Rattle.net_defs.specs.Route.{channel_from, channels_after, channels_of, entered_after, exit_at, host_port, next_exit, place_at, place_at_vertex, IsPlaceOf, IsEntered}
use Rattle.net_defs.proofs.Ends.{same_end-true, same_end-refl}
use Rattle.net_defs.proofs.Places.{place_at-there}
use Rattle.map_laws.proofs.Channels.{channel-one_port}
use Rattle.circ_defs.specs.Circuit.{are_apart, cable_of, circuit_place, held_place}
use Rattle.circ_defs.specs.Ways.{Joins}
use Rattle.circ_defs.proofs.Cables.{SameCable, far-joins, far-next, joins-back, joins-channel, same-cable}
use Rattle.circ_defs.proofs.Cables.SameCable.{one_way, other_way}
use Rattle.circ_link.specs.Exits.{are_free, exits_after, exits_of, held_at, held_by_exits, is_end, meets}
use Rattle.circ_link.proofs.Following.{entered_after-stuck}

-- an exit with a cable, and its channel
pub record IsExit (n : Network) (e : End) (c : ℕ) : Type 0 where
  pub other : End
  pub cabled : far n e ≡ Some other
  pub is : channel_from n e ≡ Some c

-- exits, each with its channel
abbrev pub AreExits : Network → List End → List ℕ → Type 0
AreExits n [] [] = Unit {0}
AreExits n [] (c ∷ cs) = ⊥
AreExits n (e ∷ es) [] = ⊥
AreExits n (e ∷ es) (c ∷ cs) = IsExit n e c × AreExits n es cs

exit-of : (n : Network) (e d : End) → IsFabric n → far n e ≡ Some d → (c : ℕ) × IsExit n e c
exit-of n e d f p =
    let k = far-joins n e d p in
    let c = joins-channel n k.cable e d f k.joins in
    (c.channel, record { other = d; cabled = p; is = c.is })

-- with the channel that leaves by its first exit
with-exit : (n : Network) (e d : End) (es : List End) (cs : List ℕ) → IsFabric n → far n e ≡ Some d → AreExits n es cs → AreExits n (e ∷ es) (option_to_list (channel_from n e) ++ cs)
with-exit n e d es cs f p rest =
    let x = exit-of n e d f p in
    subst (λ o. AreExits n (e ∷ es) (option_to_list o ++ cs)) (sym x.1.is) (x.1, rest)

-- the exits of a walk that isn't stuck have the channels that it crosses
pub walk-exits : (n : Network) (e : End) (ts : List ℤ) (d : End) → IsFabric n → entered_after n (far n e) ts ≡ Some d → AreExits n (exits_after n (Some e) ts) (channels_after n (Some e) ts)
walk-exits n e [] d f p =
    let x = exit-of n e d f p in
    subst (λ o. AreExits n (e ∷ []) (option_to_list o)) (sym x.1.is) (x.1, tt)
walk-exits n e (t ∷ ts) d f p = by (far n e) refl (next_exit n (Some e) t) refl (λ x q. walk-exits n x ts d f q)
  where
    stuck : next_exit n (Some e) t ≡ None → ⊥
    stuck q = let two : None ≡ Some d = sym (entered_after-stuck n e t ts q) ∙ p in cc

    on : (x : End) → next_exit n (Some e) t ≡ Some x → ((x : End) → entered_after n (far n x) ts ≡ Some d → AreExits n (exits_after n (Some x) ts) (channels_after n (Some x) ts)) → AreExits n (exits_after n (next_exit n (Some e) t) ts) (channels_after n (next_exit n (Some e) t) ts)
    on x q rest =
        let moved : entered_after n (far n x) ts ≡ Some d = ap (λ o. entered_after n o ts) (sym (ap (option_and_then (far n)) q) ∙ far-next n (Some e) t) ∙ p in
        subst (λ o. AreExits n (exits_after n o ts) (channels_after n o ts)) (sym q) (rest x moved)

    by : (o : Option End) → far n e ≡ o → (x : Option End) → next_exit n (Some e) t ≡ x → ((x : End) → entered_after n (far n x) ts ≡ Some d → AreExits n (exits_after n (Some x) ts) (channels_after n (Some x) ts)) → AreExits n (e ∷ exits_after n (next_exit n (Some e) t) ts) (option_to_list (channel_from n e) ++ channels_after n (next_exit n (Some e) t) ts)
    by None q x r rest = absurd (stuck (ap (option_and_then (λ y. exit_at n y.v y.p t)) q))
    by (Some g) q None r rest = absurd (stuck r)
    by (Some g) q (Some x) r rest = with-exit n e g (exits_after n (next_exit n (Some e) t) ts) (channels_after n (next_exit n (Some e) t) ts) f q (on x r rest)

pub same-test : (a b : Bool) → (a ≡ true → b ≡ true) → (b ≡ true → a ≡ true) → a ≡ b
same-test true b f g = sym (f refl)
same-test false true f g = g refl
same-test false false f g = refl

pub or-first : (a b : Bool) → a ≡ true → (a || b) ≡ true
or-first true b e = refl
or-first false b e = absurd (true≢false (sym e))

pub or-second : (a b : Bool) → b ≡ true → (a || b) ≡ true
or-second true b e = refl
or-second false b e = e

pub or-either : (a b : Bool) → (a || b) ≡ true → (a ≡ true) ⊎ (b ≡ true)
or-either true b e = inl refl
or-either false b e = inr e

-- exits that meet no cable again meet no channel again
fewer-met : (n : Network) (e : End) (es : List End) → list_any (meets n true e) es ≡ false → list_any (meets n false e) es ≡ false
fewer-met n e [] p = refl
fewer-met n e (d ∷ es) p = by (same_end d e) (is_end (far n e) d) (list_any (meets n true e) es) (list_any (meets n false e) es) p (fewer-met n e es)
  where
    by : (a b c x : Bool) → ((a || b) || c) ≡ false → (c ≡ false → x ≡ false) → ((a || false) || x) ≡ false
    by true b c x p f = absurd (true≢false p)
    by false true c x p f = absurd (true≢false p)
    by false false c x p f = f p

pub free_as_channels : (n : Network) (es : List End) → are_free n true es ≡ true → are_free n false es ≡ true
free_as_channels n [] p = refl
free_as_channels n (e ∷ es) p = by (list_any (meets n true e) es) (are_free n true es) (list_any (meets n false e) es) (are_free n false es) p (fewer-met n e es) (free_as_channels n es)
  where
    by : (a b x y : Bool) → (not a && b) ≡ true → (a ≡ false → x ≡ false) → (b ≡ true → y ≡ true) → (not x && y) ≡ true
    by true b x y p f g = absurd (true≢false (sym p))
    by false b true y p f g = absurd (true≢false (f refl))
    by false b false y p f g = g p

-- a cable leads on from each exit
cable-at : (n : Network) (e : End) (c : ℕ) → IsFabric n → (x : IsExit n e c) → Joins n (cable_of c) e x.other
cable-at n e c f x =
    let k = far-joins n e x.other x.cabled in
    let h = joins-channel n k.cable e x.other f k.joins in
    let two : Some c ≡ Some h.channel = sym x.is ∙ h.is in
    let one : c ≡ h.channel = cc in
    subst (λ i. Joins n i e x.other) (sym (ap cable_of one ∙ h.half_is)) k.joins

one-channel : (n : Network) (e d : End) (c b : ℕ) → IsExit n e c → IsExit n d b → d ≡ e → c ≡ b
one-channel n e d c b x y p = let two : Some c ≡ Some b = sym x.is ∙ ap (channel_from n) (sym p) ∙ y.is in cc

meets-channel : (n : Network) (e d : End) (c b : ℕ) → IsFabric n → IsExit n e c → IsExit n d b → meets n false e d ≡ nat_eq c b
meets-channel n e d c b f x y = same-test (meets n false e d) (nat_eq c b) to from
  where
    ends : (same_end d e ≡ true) ⊎ (false ≡ true) → nat_eq c b ≡ true
    ends (inl p) = (Decides-eqb c b).1 (one-channel n e d c b x y (same_end-true d e p))
    ends (inr p) = absurd (true≢false (sym p))

    to : meets n false e d ≡ true → nat_eq c b ≡ true
    to p = ends (or-either (same_end d e) false p)

    from : nat_eq c b ≡ true → meets n false e d ≡ true
    from p =
        let one = channel-one_port n d e b y.is (x.is ∙ ap Some ((Decides-eqb c b).0 p)) in
        or-first (same_end d e) false (subst (λ z. same_end d z ≡ true) one (same_end-refl d))

meets-cable : (n : Network) (e d : End) (c b : ℕ) → IsFabric n → IsExit n e c → IsExit n d b → meets n true e d ≡ nat_eq (cable_of c) (cable_of b)
meets-cable n e d c b f x y = same-test (meets n true e d) (nat_eq (cable_of c) (cable_of b)) to from
  where
    is : (o : Option End) → far n e ≡ o → is_end o d ≡ true → far n e ≡ Some d
    is None p q = absurd (true≢false (sym q))
    is (Some g) p q = p ∙ ap Some (sym (same_end-true d g q))

    back : far n e ≡ Some d → cable_of c ≡ cable_of b
    back p =
        let k = cable-at n e c f x in
        let two : Some x.other ≡ Some d = sym x.cabled ∙ p in
        let one : x.other ≡ d = cc in
        let h = joins-channel n (cable_of c) d e f (joins-back n (cable_of c) e d (subst (Joins n (cable_of c) e) one k)) in
        let same : Some b ≡ Some h.channel = sym y.is ∙ h.is in
        let own : b ≡ h.channel = cc in
        sym (ap cable_of own ∙ h.half_is)

    ends : (same_end d e ≡ true) ⊎ (is_end (far n e) d ≡ true) → cable_of c ≡ cable_of b
    ends (inl p) = ap cable_of (one-channel n e d c b x y (same_end-true d e p))
    ends (inr p) = back (is (far n e) refl p)

    to : meets n true e d ≡ true → nat_eq (cable_of c) (cable_of b) ≡ true
    to p = (Decides-eqb (cable_of c) (cable_of b)).1 (ends (or-either (same_end d e) (is_end (far n e) d) p))

    cases : SameCable e x.other d y.other → meets n true e d ≡ true
    cases (one_way p q) = or-first (same_end d e) (is_end (far n e) d) (subst (λ z. same_end d z ≡ true) (sym p) (same_end-refl d))
    cases (other_way p q) = or-second (same_end d e) (is_end (far n e) d) (subst (λ o. is_end o d ≡ true) (sym (x.cabled ∙ ap Some q)) (same_end-refl d))

    from : nat_eq (cable_of c) (cable_of b) ≡ true → meets n true e d ≡ true
    from p = cases (same-cable n (cable_of c) e x.other d y.other (cable-at n e c f x) (subst (λ k. Joins n k d y.other) (sym ((Decides-eqb (cable_of c) (cable_of b)).0 p)) (cable-at n d b f y)))

-- tests of exits that are tests of their channels
any-channel : (n : Network) (test : End → Bool) (other : ℕ → Bool) (es : List End) (cs : List ℕ) → AreExits n es cs → ((d : End) (b : ℕ) → IsExit n d b → test d ≡ other b) → list_any test es ≡ list_any other cs
any-channel n test other [] [] all same = refl
any-channel n test other [] (c ∷ cs) all same = absurd all
any-channel n test other (e ∷ es) [] all same = absurd all
any-channel n test other (e ∷ es) (c ∷ cs) all same = ap (λ b. b || list_any test es) (same e c all.0) ∙ ap (λ b. other c || b) (any-channel n test other es cs all.1 same)

any-cable : (n : Network) (test : End → Bool) (other : ℕ → Bool) (es : List End) (cs : List ℕ) → AreExits n es cs → ((d : End) (b : ℕ) → IsExit n d b → test d ≡ other (cable_of b)) → list_any test es ≡ list_any other (map cable_of cs)
any-cable n test other [] [] all same = refl
any-cable n test other [] (c ∷ cs) all same = absurd all
any-cable n test other (e ∷ es) [] all same = absurd all
any-cable n test other (e ∷ es) (c ∷ cs) all same = ap (λ b. b || list_any test es) (same e c all.0) ∙ ap (λ b. other (cable_of c) || b) (any-cable n test other es cs all.1 same)

pub are_free-channels : (n : Network) (es : List End) (cs : List ℕ) → IsFabric n → AreExits n es cs → are_free n false es ≡ are_apart cs
are_free-channels n [] [] f all = refl
are_free-channels n [] (c ∷ cs) f all = absurd all
are_free-channels n (e ∷ es) [] f all = absurd all
are_free-channels n (e ∷ es) (c ∷ cs) f all =
    ap (λ b. not b && are_free n false es) (any-channel n (meets n false e) (nat_eq c) es cs all.1 (λ d b y. meets-channel n e d c b f all.0 y))
    ∙ ap (λ b. not (list_any (nat_eq c) cs) && b) (are_free-channels n es cs f all.1)

pub are_free-cables : (n : Network) (es : List End) (cs : List ℕ) → IsFabric n → AreExits n es cs → are_free n true es ≡ are_apart (map cable_of cs)
are_free-cables n [] [] f all = refl
are_free-cables n [] (c ∷ cs) f all = absurd all
are_free-cables n (e ∷ es) [] f all = absurd all
are_free-cables n (e ∷ es) (c ∷ cs) f all =
    ap (λ b. not b && are_free n true es) (any-cable n (meets n true e) (nat_eq (cable_of c)) es cs all.1 (λ d b y. meets-cable n e d c b f all.0 y))
    ∙ ap (λ b. not (list_any (nat_eq (cable_of c)) (map cable_of cs)) && b) (are_free-cables n es cs f all.1)

-- so a walk over its exits ends at its circuit place
pub held_by_exits-circuit : (n : Network) (host : ℕ) (ts : List ℤ) (es : List End) → IsFabric n → IfSome (entered_after n (far n (host_port host)) ts) (λ d. es ≡ exits_of n host ts) → held_by_exits n es (entered_after n (far n (host_port host)) ts) ≡ circuit_place n host ts
held_by_exits-circuit n host ts es f some = by (entered_after n (far n (host_port host)) ts) refl some
  where
    by : (o : Option End) → entered_after n (far n (host_port host)) ts ≡ o → IfSome o (λ d. es ≡ exits_of n host ts) → held_by_exits n es o ≡ held_place (channels_of n host ts) (place_at o)
    by None p q = refl
    by (Some d) p q = at d.v
      where
        all : AreExits n es (channels_of n host ts)
        all = subst (λ l. AreExits n l (channels_of n host ts)) (sym q) (walk-exits n (host_port host) ts d f p)

        at : (v : Vertex) → held_at n es v d.p ≡ held_place (channels_of n host ts) (place_at_vertex v d.p)
        at (Host h) = ap (λ b. if b then AtHost h else Stuck) (are_free-channels n es (channels_of n host ts) f all)
        at (Switch s) = ap (λ b. if b then AtSwitch s d.p else Stuck) (are_free-cables n es (channels_of n host ts) f all)

-- and there is a vertex
held_place-there : (n : Network) (cs : List ℕ) (p : Place) → IsPlaceOf n p → IsPlaceOf n (held_place cs p)
held_place-there n cs Stuck i = i
held_place-there n cs (AtHost h) i = by (are_apart cs)
  where
    by : (b : Bool) → IsPlaceOf n (if b then AtHost h else Stuck)
    by true = i
    by false = tt
held_place-there n cs (AtSwitch s p) i = by (are_apart (map cable_of cs))
  where
    by : (b : Bool) → IsPlaceOf n (if b then AtSwitch s p else Stuck)
    by true = i
    by false = tt

pub circuit_place-there : (n : Network) (host : ℕ) (ts : List ℤ) → IsEntered n (entered_after n (far n (host_port host)) ts) → IsPlaceOf n (circuit_place n host ts)
circuit_place-there n host ts e = held_place-there n (channels_of n host ts) (place_at (entered_after n (far n (host_port host)) ts)) (place_at-there n (entered_after n (far n (host_port host)) ts) e)

-- what the place is that a walk's exits show
pub place-told : (n : Network) (host : ℕ) (ts : List ℤ) (es : List End) (o : Option End) (p : Place) → IsFabric n → p ≡ held_by_exits n es o → o ≡ entered_after n (far n (host_port host)) ts → IfSome o (λ d. es ≡ exits_of n host ts) → p ≡ circuit_place n host ts
place-told n host ts es o p f held entered some =
    held ∙ ap (held_by_exits n es) entered ∙ held_by_exits-circuit n host ts es f (subst (λ o. IfSome o (λ d. es ≡ exits_of n host ts)) entered some)

pub place-there : (n : Network) (host : ℕ) (ts : List ℤ) (o : Option End) (p : Place) → p ≡ circuit_place n host ts → o ≡ entered_after n (far n (host_port host)) ts → IsEntered n o → IsPlaceOf n p
place-there n host ts o p is entered there = subst (IsPlaceOf n) (sym is) (circuit_place-there n host ts (subst (IsEntered n) entered there))
