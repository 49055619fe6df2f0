-- The way back of a walk.
use Rattle.std.proofs.Common.{◌≡◌, ℕ, true, List, [], ◌∷◌, ◌++◌, map, reverse, length, nat_lt, Option, Some, None, refl, sym, ap, ◌∙◌, subst, arith, if◌then◌else◌}
use Rattle.std.specs.Prelude.{zero, suc, ℤ, pos, negsuc, neg_ℤ, ◌+ℤ◌, ◌&&◌, int_le, int_lt, nat_abs, option_map, option_and_then}
use Rattle.std.proofs.lemmas.Bool.{and_from}
use Rattle.std.proofs.lemmas.Bool.Decides.{nat_tests}
use Rattle.std.proofs.lemmas.Int.{ints}
use Rattle.std.proofs.lemmas.List.{map-append, length-map, length-reverse}
use mathlib.Core.List.{reverse-cons}
use Rattle.std.specs.List.{AllByRecursion}
use Rattle.net_defs.specs.declared.vertex.Vertex.{Vertex}
use Rattle.net_defs.specs.declared.vertex.Vertex.TheVariants.{Host, Switch}
use Rattle.net_defs.specs.declared.vertex.End.{End}
use Rattle.net_defs.specs.declared.place.Place.TheVariants.{Host as AtHost, Switch as AtSwitch, Nothing as Stuck}
use Rattle.net_defs.specs.Network.{Network, IsFabric, far, has_port, ports_of}
use Rattle.net_defs.specs.Turn.{IsTurn}
use Rattle.net_defs.specs.Route.{turned, exit_at, leaving_port, host_port, entered_after, place, place_at, IsEntered}
use Rattle.net_defs.proofs.Places.{far-there}
use Rattle.net_defs.proofs.Distinct.{all-push}
use Rattle.net_defs.proofs.Cabling.{far-back, exit-leaves, entered-there, host-port}
use Rattle.world_defs.specs.Node.{way_back}

-- walks in a row
pub after-append : (n : Network) (o : Option End) (a b : List ℤ) → entered_after n o (a ++ b) ≡ entered_after n (entered_after n o a) b
after-append n o [] b = refl
after-append n o (t ∷ a) b = after-append n (turned n o t) a b

pub after-none : (n : Network) (walk : List ℤ) → entered_after n None walk ≡ None
after-none n [] = refl
after-none n (t ∷ walk) = after-none n walk

pub way_back-push : (t : ℤ) (walk : List ℤ) → way_back (t ∷ walk) ≡ way_back walk ++ neg_ℤ t ∷ []
way_back-push t walk = ap (map neg_ℤ) (reverse-cons t walk) ∙ map-append neg_ℤ (reverse walk) (t ∷ [])

-- the port that a turn leaves by is the one that it should
leaving : (ports entry q : ℕ) (t : ℤ) → pos q ≡ pos entry +ℤ t → nat_lt q ports ≡ true → leaving_port ports entry t ≡ Some q
leaving ports entry q t e l = rw (← e) (by q l)
  where
    by : (q : ℕ) → nat_lt q ports ≡ true → (if (int_le (pos 0) (pos q) && int_lt (pos q) (pos ports)) then Some (nat_abs (pos q)) else None) ≡ Some q
    by q l = rw (and_from (int_le (pos 0) (pos q)) (int_lt (pos q) (pos ports)) (grind (arith, ints, nat_tests)) (grind (arith, ints, nat_tests))) refl

other_way : (a b : ℕ) (t : ℤ) → pos b ≡ pos a +ℤ t → pos a ≡ pos b +ℤ neg_ℤ t
other_way a b t e = omega (arith, ints)

-- a turn the other way leaves by the port that was entered
exit-back : (n : Network) (v : Vertex) (p : ℕ) (t : ℤ) (x : End) → has_port n (record { v = v; p = p }) ≡ true → exit_at n v p t ≡ Some x → exit_at n x.v x.p (neg_ℤ t) ≡ Some (record { v = v; p = p })
exit-back n (Host h) p t x there e = cc
exit-back n (Switch s) p t x there e =
    let l = exit-leaves n (Switch s) p t x e in
    let back : leaving_port (ports_of n (Switch s)) l.port (neg_ℤ t) ≡ Some p = leaving (ports_of n (Switch s)) l.port p (neg_ℤ t) (other_way p l.port t l.sum) there in
    subst (λ y. exit_at n y.v y.p (neg_ℤ t) ≡ Some (record { v = Switch s; p = p })) (sym l.is) (ap (option_map (λ q. record { v = Switch s; p = q })) back)

-- and leads to the far end of that port
turned-back : (n : Network) (d e : End) (t : ℤ) → IsFabric n → has_port n d ≡ true → turned n (Some d) t ≡ Some e → turned n (far n e) (neg_ℤ t) ≡ far n d
turned-back n d e t f there is = by (exit_at n d.v d.p t) refl is
  where
    by : (o : Option End) → exit_at n d.v d.p t ≡ o → option_and_then (far n) o ≡ Some e → turned n (far n e) (neg_ℤ t) ≡ far n d
    by None p g = cc
    by (Some x) p g =
        let home = far-back n x e f g in
        ap (λ o. turned n o (neg_ℤ t)) home ∙ ap (option_and_then (far n)) (exit-back n d.v d.p t x there p)

-- a walk that enters an end is walked back to where it began
pub walked-back : (n : Network) (d e : End) (walk : List ℤ) → IsFabric n → has_port n d ≡ true → entered_after n (Some d) walk ≡ Some e → entered_after n (far n e) (way_back walk) ≡ far n d
walked-back n d e [] f there is = let same : d ≡ e = cc in ap (far n) (sym same)
walked-back n d e (t ∷ walk) f there is =
    by (turned n (Some d) t) refl is (entered-there n (Some d) (t ∷ []) f there) (λ x low g. walked-back n x e walk f low g)
  where
    by : (o : Option End) → turned n (Some d) t ≡ o → entered_after n o walk ≡ Some e → IsEntered n (turned n (Some d) t) → ((x : End) → has_port n x ≡ true → entered_after n (Some x) walk ≡ Some e → entered_after n (far n e) (way_back walk) ≡ far n x) → entered_after n (far n e) (way_back (t ∷ walk)) ≡ far n d
    by None p g h rest = let bad : None ≡ Some e = sym (after-none n walk) ∙ g in cc
    by (Some x) p g h rest =
        ap (entered_after n (far n e)) (way_back-push t walk)
        ∙ after-append n (far n e) (way_back walk) (neg_ℤ t ∷ [])
        ∙ ap (λ o. turned n o (neg_ℤ t)) (rest x (subst (IsEntered n) p h) g)
        ∙ turned-back n d x t f there p

-- A walk from a host, which enters an end, and begins at the far end of the host's cable.
pub record Walked (n : Network) (host : ℕ) (walk : List ℤ) (e : End) : Type 0 where
  pub first : End
  pub begins : far n (host_port host) ≡ Some first
  pub ends : entered_after n (Some first) walk ≡ Some e

walked-of : (n : Network) (host : ℕ) (walk : List ℤ) (e : End) → entered_after n (far n (host_port host)) walk ≡ Some e → Walked n host walk e
walked-of n host walk e is = by (far n (host_port host)) refl is
  where
    by : (o : Option End) → far n (host_port host) ≡ o → entered_after n o walk ≡ Some e → Walked n host walk e
    by None p g = let bad : None ≡ Some e = sym (after-none n walk) ∙ g in cc
    by (Some d) p g = record { first = d; begins = p; ends = g }

-- from the far end of what it entered, the way back enters the host
pub home : (n : Network) (host : ℕ) (walk : List ℤ) (e : End) → IsFabric n → entered_after n (far n (host_port host)) walk ≡ Some e → entered_after n (far n e) (way_back walk) ≡ Some (host_port host)
home n host walk e f is =
    let w = walked-of n host walk e is in
    let there : has_port n w.first ≡ true = subst (IsEntered n) w.begins (far-there n (host_port host) f) in
    walked-back n w.first e walk f there w.ends ∙ far-back n (host_port host) w.first f w.begins

-- what a place says of the end
pub at_host : (n : Network) (o : Option End) (h : ℕ) → IsFabric n → IsEntered n o → place_at o ≡ AtHost h → o ≡ Some (host_port h)
at_host n None h f there is = cc
at_host n (Some e) h f there is = by e.v e.p there is
  where
    by : (v : Vertex) (p : ℕ) → has_port n (record { v = v; p = p }) ≡ true → place_at (Some (record { v = v; p = p })) ≡ AtHost h → Some (record { v = v; p = p }) ≡ Some (host_port h)
    by (Switch s) p g q = cc
    by (Host k) p g q =
        let zero_port : p ≡ 0 = host-port n k p g in
        let same : k ≡ h = cc in
        ap (λ x. Some (record { v = Host k; p = x })) zero_port ∙ ap (λ x. Some (record { v = Host x; p = 0 })) same

abbrev switch_end : ℕ → ℕ → End
switch_end s p = record { v = Switch s; p = p }

at_switch : (o : Option End) (s p : ℕ) → place_at o ≡ AtSwitch s p → o ≡ Some (switch_end s p)
at_switch None s p is = cc
at_switch (Some e) s p is = by e.v e.p is
  where
    by : (v : Vertex) (q : ℕ) → place_at (Some (record { v = v; p = q })) ≡ AtSwitch s p → Some (record { v = v; p = q }) ≡ Some (switch_end s p)
    by (Host h) q g = cc
    by (Switch k) q g = let a : k ≡ s = cc in let b : q ≡ p = cc in ap (λ x. Some (switch_end x q)) a ∙ ap (λ x. Some (switch_end s x)) b

pub entered-place : (n : Network) (host : ℕ) (walk : List ℤ) → IsFabric n → IsEntered n (entered_after n (far n (host_port host)) walk)
entered-place n host walk f = entered-there n (far n (host_port host)) walk f (far-there n (host_port host) f)

-- from a host at which a walk ends, the way back ends at the host from which it began
pub reply-place : (n : Network) (mapper h : ℕ) (walk : List ℤ) → IsFabric n → place n mapper walk ≡ AtHost h → place n h (way_back walk) ≡ AtHost mapper
reply-place n mapper h walk f is =
    let e = at_host n (entered_after n (far n (host_port mapper)) walk) h f (entered-place n mapper walk f) is in
    ap place_at (home n mapper walk (host_port h) f e)

-- a walk that ends at a switch goes on by a turn of 0 where it came from
same-port : (n : Network) (s p : ℕ) → has_port n (record { v = Switch s; p = p }) ≡ true → exit_at n (Switch s) p (pos 0) ≡ Some (record { v = Switch s; p = p })
same-port n s p there = ap (option_map (λ q. record { v = Switch s; p = q })) (leaving (ports_of n (Switch s)) p p (pos 0) (omega (arith, ints)) there)

pub loop-place : (n : Network) (mapper s p : ℕ) (walk : List ℤ) → IsFabric n → place n mapper walk ≡ AtSwitch s p → place n mapper (walk ++ pos 0 ∷ way_back walk) ≡ AtHost mapper
loop-place n mapper s p walk f is =
    let here : End = record { v = Switch s; p = p } in
    let e : entered_after n (far n (host_port mapper)) walk ≡ Some here = at_switch (entered_after n (far n (host_port mapper)) walk) s p is in
    let there : has_port n here ≡ true = subst (IsEntered n) e (entered-place n mapper walk f) in
    ap place_at
    (after-append n (far n (host_port mapper)) walk (pos 0 ∷ way_back walk)
    ∙ ap (λ o. entered_after n o (pos 0 ∷ way_back walk)) e
    ∙ ap (λ o. entered_after n (option_and_then (far n) o) (way_back walk)) (same-port n s p there)
    ∙ home n mapper walk here f e)

-- and only such a walk does
pub loop-switch : (n : Network) (mapper h : ℕ) (walk : List ℤ) → place n mapper (walk ++ pos 0 ∷ way_back walk) ≡ AtHost h → (s : ℕ) × (p : ℕ) × (place n mapper walk ≡ AtSwitch s p)
loop-switch n mapper h walk is = by (entered_after n (far n (host_port mapper)) walk) refl
  where
    on : (o : Option End) → entered_after n (far n (host_port mapper)) walk ≡ o → place_at (entered_after n (turned n o (pos 0)) (way_back walk)) ≡ AtHost h
    on o e = ap place_at (sym (after-append n (far n (host_port mapper)) walk (pos 0 ∷ way_back walk) ∙ ap (λ x. entered_after n x (pos 0 ∷ way_back walk)) e)) ∙ is

    stuck : entered_after n None (way_back walk) ≡ None
    stuck = after-none n (way_back walk)

    at : (v : Vertex) (p : ℕ) → entered_after n (far n (host_port mapper)) walk ≡ Some (record { v = v; p = p }) → (s : ℕ) × (q : ℕ) × (place n mapper walk ≡ AtSwitch s q)
    at (Switch s) p e = (s, p, ap place_at e)
    at (Host g) p e = let bad : Stuck ≡ AtHost h = sym (ap place_at stuck) ∙ on (Some (record { v = Host g; p = p })) e in cc

    by : (o : Option End) → entered_after n (far n (host_port mapper)) walk ≡ o → (s : ℕ) × (p : ℕ) × (place n mapper walk ≡ AtSwitch s p)
    by None e = let bad : Stuck ≡ AtHost h = sym (ap place_at stuck) ∙ on None e in cc
    by (Some d) e = at d.v d.p e

-- the turns of the way back
neg-turn : (t : ℤ) → IsTurn t → IsTurn (neg_ℤ t)
neg-turn (pos zero) is = refl
neg-turn (pos (suc n)) is = grind (arith, ints, nat_tests)
neg-turn (negsuc n) is = grind (arith, ints, nat_tests)

pub back-turns : (walk : List ℤ) → AllByRecursion IsTurn walk → AllByRecursion IsTurn (way_back walk)
back-turns [] all = tt
back-turns (t ∷ walk) all = subst (AllByRecursion IsTurn) (sym (way_back-push t walk)) (all-push IsTurn (way_back walk) (neg_ℤ t) (back-turns walk all.1) (neg-turn t all.0))

pub back-length : (walk : List ℤ) → length (way_back walk) ≡ length walk
back-length walk = length-map (reverse walk) neg_ℤ ∙ length-reverse walk
