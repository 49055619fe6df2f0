-- All routes of at most so many turns that lead to a port, for the least of them.
use Rattle.std.proofs.Common.{◌≡◌, ◌≤◌, ℕ, zero, suc, List, [], ◌∷◌, ◌++◌, map, length, Bool, true, false, Option, Some, None, sym, ◌∙◌, subst, ap, refl, arith, inl, inr, if◌then◌else◌, nat_eq}
use Rattle.std.specs.Prelude.{ℤ, ◌+ℤ◌, ◌-ℤ◌, option_and_then}
use Rattle.std.proofs.lemmas.Bool.{false≢true}
use Rattle.std.proofs.lemmas.Bool.Decides.{Decides-eqb}
use Rattle.std.proofs.lemmas.Int.{ints}
use Rattle.journal_defs.proofs.Members.{IsMember, member-left, member-right, member-map}
use Rattle.map_defs.specs.declared.vertex.MapCable.{MapCable}
use Rattle.map_defs.specs.NetMap.{NetMap, MapPort, first_end, second_end, same_port, far_port, map_far, map_ends, is_switch_vertex}
use Rattle.map_defs.specs.Routing.{led_to, next_port, turned_to}
use Rattle.map_defs.proofs.Ports.{same_port-true}

-- a port with a far end is the end of a cable
pub far-end : (cs : List MapCable) (d e : MapPort) → far_port cs d ≡ Some e → IsMember d (map_ends cs)
far-end [] d e f = cc
far-end (c ∷ cs) d e f = by (same_port (first_end c) d) (same_port (second_end c) d) refl refl f (far-end cs d e)
  where
    by : (s t : Bool) → same_port (first_end c) d ≡ s → same_port (second_end c) d ≡ t → (if s then Some (second_end c) else if t then Some (first_end c) else far_port cs d) ≡ Some e → (far_port cs d ≡ Some e → IsMember d (map_ends cs)) → IsMember d (map_ends (c ∷ cs))
    by true t p q g rest = inl (sym (same_port-true (first_end c) d p))
    by false true p q g rest = inr (inl (sym (same_port-true (second_end c) d q)))
    by false false p q g rest = inr (inr (rest g))

-- the routes that go on by the ports of an entered vertex
abbrev pub by_ports : (MapPort → List (List ℤ)) → MapPort → List MapPort → List (List ℤ)
by_ports on e [] = []
by_ports on e (x ∷ xs) = (if nat_eq x.v e.v then map (λ w. (x.p -ℤ e.p) ∷ w) (on x) else []) ++ by_ports on e xs

abbrev pub onward_from : (MapPort → List (List ℤ)) → List MapPort → Option MapPort → List (List ℤ)
onward_from on ends None = []
onward_from on ends (Some e) = by_ports on e ends

-- the routes of at most so many turns from a port, wherever they lead
abbrev pub routes_within : NetMap → ℕ → MapPort → List (List ℤ)
routes_within m zero d = [] ∷ []
routes_within m (suc k) d = [] ∷ onward_from (routes_within m k) (map_ends m.cables) (map_far m d)

if-member : (b : Bool) (w : List ℤ) (ws : List (List ℤ)) → b ≡ true → IsMember w ws → IsMember w (if b then ws else [])
if-member true w ws e m = m
if-member false w ws e m = absurd (false≢true e)

ports-member : (on : MapPort → List (List ℤ)) (e x : MapPort) (t : ℤ) (w : List ℤ) (xs : List MapPort) → x.v ≡ e.v → x.p -ℤ e.p ≡ t → IsMember w (on x) → IsMember x xs → IsMember (t ∷ w) (by_ports on e xs)
ports-member on e x t w [] a b i m = absurd m
ports-member on e x t w (y ∷ ys) a b i (inl s) =
    let here : IsMember w (on y) = subst (λ z. IsMember w (on z)) s i in
    let turn : y.p -ℤ e.p ≡ t = ap (λ (z : MapPort). z.p -ℤ e.p) (sym s) ∙ b in
    let vertex : y.v ≡ e.v = ap (λ (z : MapPort). z.v) (sym s) ∙ a in
    member-left (t ∷ w) (if nat_eq y.v e.v then map (λ w. (y.p -ℤ e.p) ∷ w) (on y) else []) (by_ports on e ys) (if-member (nat_eq y.v e.v) (t ∷ w) (map (λ w. (y.p -ℤ e.p) ∷ w) (on y)) ((Decides-eqb y.v e.v).1 vertex) (subst (λ s. IsMember (s ∷ w) (map (λ w. (y.p -ℤ e.p) ∷ w) (on y))) turn (member-map (λ w. (y.p -ℤ e.p) ∷ w) w (on y) here)))
ports-member on e x t w (y ∷ ys) a b i (inr m) =
    member-right (t ∷ w) (if nat_eq y.v e.v then map (λ w. (y.p -ℤ e.p) ∷ w) (on y) else []) (by_ports on e ys) (ports-member on e x t w ys a b i m)

-- the port that a turn leaves by
record Leaves (m : NetMap) (d : MapPort) (t : ℤ) (x : MapPort) : Type 0 where
  pub entered : MapPort
  pub far : map_far m d ≡ Some entered
  pub vertex : x.v ≡ entered.v
  pub turn : x.p -ℤ entered.p ≡ t

next-leaves : (m : NetMap) (d x : MapPort) (t : ℤ) → next_port m d t ≡ Some x → Leaves m d t x
next-leaves m d x t e = by (map_far m d) refl e
  where
    turn-back : (p q s : ℤ) → p +ℤ q ≡ s → s -ℤ p ≡ q
    turn-back p q s e = omega (arith, ints)

    switch : (y : MapPort) (b : Bool) → map_far m d ≡ Some y → (if b then Some (record { v = y.v; p = y.p +ℤ t }) else None) ≡ Some x → Leaves m d t x
    switch y true f g =
        let one : ◌≡◌ {A = MapPort} (record { v = y.v; p = y.p +ℤ t }) x = cc in
        record { entered = y; far = f; vertex = ap (λ (z : MapPort). z.v) (sym one); turn = turn-back y.p t x.p (ap (λ (z : MapPort). z.p) one) }
    switch y false f g = cc

    by : (o : Option MapPort) → map_far m d ≡ o → option_and_then (λ y. turned_to m y t) o ≡ Some x → Leaves m d t x
    by None f g = cc
    by (Some y) f g = switch y (is_switch_vertex m y.v) f g

-- where turns lead on from a port, that port is cabled
leads-cabled : (m : NetMap) (d at : MapPort) (turns : List ℤ) → led_to m (Some d) turns ≡ Some at → IsMember d (map_ends m.cables)
leads-cabled m d at [] e = far-end m.cables d at e
leads-cabled m d at (t ∷ ts) e = by (next_port m d t) refl e
  where
    by : (o : Option MapPort) → next_port m d t ≡ o → led_to m o ts ≡ Some at → IsMember d (map_ends m.cables)
    by None f g = cc
    by (Some x) f g = let l = next-leaves m d x t f in far-end m.cables d l.entered l.far

pub routes-member : (m : NetMap) (k : ℕ) (d at : MapPort) (turns : List ℤ) → led_to m (Some d) turns ≡ Some at → length turns ≤ k → IsMember turns (routes_within m k d)
routes-member m zero d at [] e l = inl refl
routes-member m (suc k) d at [] e l = inl refl
routes-member m zero d at (t ∷ ts) e l = absurd (omega arith)
routes-member m (suc k) d at (t ∷ ts) e l = by (next_port m d t) refl e (λ x g. routes-member m k x at ts g (omega arith))
  where
    by : (o : Option MapPort) → next_port m d t ≡ o → led_to m o ts ≡ Some at → ((x : MapPort) → led_to m (Some x) ts ≡ Some at → IsMember ts (routes_within m k x)) → IsMember (t ∷ ts) (routes_within m (suc k) d)
    by None f g rest = cc
    by (Some x) f g rest =
        let l = next-leaves m d x t f in
        inr (subst (λ o. IsMember (t ∷ ts) (onward_from (routes_within m k) (map_ends m.cables) o)) (sym l.far) (ports-member (routes_within m k) l.entered x t ts (map_ends m.cables) l.vertex l.turn (rest x g) (leads-cabled m x at ts g)))
