-- A fabric has fewer cables than are ever named: its ports are few, and each has one cable.
use Rattle.std.proofs.Common.{◌≡◌, ◌≢◌, ◌<◌, ◌≤◌, ℕ, zero, suc, ◌+◌, ◌*◌, List, [], ◌∷◌, Bool, true, false, ◌||◌, length, map, nat_lt, nat_eq, eqb, if◌then◌else◌, refl, ap, sym, ◌∙◌, subst, true≢false, arith}
use Rattle.std.specs.List.{AllByRecursion, IsDistinct, list_any, slice_get}
use Rattle.std.specs.Option.{option_map_or}
use Rattle.std.proofs.lemmas.Bool.{eqb-true, false_from_ne_true}
use Rattle.std.proofs.lemmas.Bool.Decides.{nat_tests}
use Rattle.std.proofs.lemmas.Map.Steps.{length-le_from_distinct_below}
use Rattle.net_defs.specs.declared.vertex.Vertex.{Vertex}
use Rattle.net_defs.specs.declared.vertex.Vertex.TheVariants.{Host, Switch}
use Rattle.net_defs.specs.declared.vertex.End.{End}
use Rattle.net_defs.specs.declared.vertex.Cable.{Cable}
use Rattle.net_defs.specs.Network.{Network, NamedSwitch, IsFabric, Apart, ends_of, has_port, is_port_count, ports_of}
use Rattle.net_defs.proofs.Distinct.{all-weaker}

-- the ports that a fabric may have, in a row
abbrev MayStand : Vertex → ℕ → Type 0
MayStand (Host h) p = (h < 128) × (p ≡ 0)
MayStand (Switch s) p = (s < 64) × (p < 16)

abbrev row_place : Vertex → ℕ → ℕ
row_place (Host h) p = h
row_place (Switch s) p = 128 + 16 * s + p

abbrev place_in : End → ℕ
place_in e = row_place e.v e.p

record IsPossible (e : End) : Type 0 where
  stands : MayStand e.v e.p

place-low : (v : Vertex) (p : ℕ) → MayStand v p → row_place v p < 1152
place-low (Host h) p m = let low = m.0 in omega (arith, low)
place-low (Switch s) p m = let low = m.0 in let few = m.1 in omega (arith, low, few)

one-end : (v w : Vertex) (p q : ℕ) → v ≡ w → p ≡ q → (let e : End = record { v = v; p = p } in e) ≡ record { v = w; p = q }
one-end v w p q e f = λ i. record { v = e i; p = f i }

place-same : (v w : Vertex) (p q : ℕ) → MayStand v p → MayStand w q → row_place v p ≡ row_place w q → (let e : End = record { v = v; p = p } in e) ≡ record { v = w; p = q }
place-same (Host h) (Host k) p q m n e = one-end (Host h) (Host k) p q (ap Host e) (m.1 ∙ sym n.1)
place-same (Host h) (Switch t) p q m n e = let low = m.0 in absurd (omega (arith, low, e))
place-same (Switch s) (Host k) p q m n e = let low = n.0 in absurd (omega (arith, low, e))
place-same (Switch s) (Switch t) p q m n e =
    let a = m.1 in
    let b = n.1 in
    let one : s ≡ t = omega (arith, a, b, e) in
    let two : p ≡ q = omega (arith, a, b, e) in
    one-end (Switch s) (Switch t) p q (ap Switch one) two

at_most_16 : (p : ℕ) → is_port_count p ≡ true → p ≤ 16
at_most_16 p e = grind (arith, nat_tests)

switch-few : (ws : List NamedSwitch) (s : ℕ) → AllByRecursion (λ w. is_port_count w.ports ≡ true) ws → option_map_or (λ w. w.ports) (slice_get ws s) 0 ≤ 16
switch-few [] s all = omega arith
switch-few (w ∷ ws) zero all = at_most_16 w.ports all.0
switch-few (w ∷ ws) (suc s) all = switch-few ws s all.1

switch-there : (ws : List NamedSwitch) (s : ℕ) → 0 < option_map_or (λ w. w.ports) (slice_get ws s) 0 → s < length ws
switch-there [] s h = absurd (omega (arith, h))
switch-there (w ∷ ws) zero h = omega arith
switch-there (w ∷ ws) (suc s) h = let k : s < length ws = switch-there ws s h in omega (arith, k)

port-stands : (n : Network) → IsFabric n → (v : Vertex) (p : ℕ) → nat_lt p (ports_of n v) ≡ true → MayStand v p
port-stands n f (Host h) p e = by (nat_lt h (length n.hosts)) refl e
  where
    by : (b : Bool) → nat_lt h (length n.hosts) ≡ b → nat_lt p (if b then 1 else 0) ≡ true → (h < 128) × (p ≡ 0)
    by true t k = let few : length n.hosts ≤ 128 = f.few_hosts in (grind (arith, nat_tests), grind (arith, nat_tests))
    by false t k = absurd (let none : p < 0 = grind (arith, nat_tests) in omega (arith, none))
port-stands n f (Switch s) p e =
    let ports : ℕ = option_map_or (λ w. w.ports) (slice_get n.switches s) 0 in
    let below : p < ports = grind (arith, nat_tests) in
    let few : ports ≤ 16 = switch-few n.switches s f.port_counts in
    let there : s < length n.switches = switch-there n.switches s (omega (arith, below)) in
    let switches : length n.switches ≤ 64 = f.few_switches in
    (omega (arith, there, switches), omega (arith, below, few))

places-differ : (e : End) (es : List End) → IsPossible e → AllByRecursion IsPossible es → AllByRecursion (λ d. e ≢ d) es → AllByRecursion (λ y. eqb (place_in e) y ≡ false) (map place_in es)
places-differ e [] i all new = tt
places-differ e (d ∷ ds) i all new =
    (false_from_ne_true _ (λ t. new.0 (place-same e.v d.v e.p d.p i.stands all.0.stands (eqb-true _ _ t))), places-differ e ds i all.1 new.1)

places-distinct : (es : List End) → AllByRecursion IsPossible es → Apart es → IsDistinct eqb (map place_in es)
unfolding IsDistinct
places-distinct [] all apart = tt
places-distinct (e ∷ es) all apart = (places-differ e es all.0 all.1 apart.0, places-distinct es all.1 apart.1)

places-below : (es : List End) (q : ℕ) → AllByRecursion IsPossible es → list_any (eqb q) (map place_in es) ≡ true → q < 1152
places-below [] q all h = absurd (true≢false (sym h))
places-below (e ∷ es) q all h = by (eqb q (place_in e)) refl h (places-below es q all.1)
  where
    by : (b : Bool) → eqb q (place_in e) ≡ b → (b || list_any (eqb q) (map place_in es)) ≡ true → (list_any (eqb q) (map place_in es) ≡ true → q < 1152) → q < 1152
    by true t k rest = let same : q ≡ place_in e = eqb-true q (place_in e) t in let low : place_in e < 1152 = place-low e.v e.p all.0.stands in omega (arith, same, low)
    by false t k rest = rest k

length-map-places : (es : List End) → length (map place_in es) ≡ length es
length-map-places [] = refl
length-map-places (e ∷ es) = ap suc (length-map-places es)

length-ends_of : (cs : List Cable) → length (ends_of cs) ≡ length cs + length cs
length-ends_of [] = refl
length-ends_of (c ∷ cs) = let k = length-ends_of cs in omega (arith, k)

pub few_named : (n : Network) → IsFabric n → length n.cables ≤ 4096
few_named n f =
    let es : List End = ends_of n.cables in
    let possible : AllByRecursion IsPossible es = all-weaker (λ e. has_port n e ≡ true) IsPossible es (λ e h. record { stands = port-stands n f e.v e.p h }) f.cabled_ports in
    let few : length (map place_in es) ≤ 1152 = length-le_from_distinct_below (map place_in es) 1152 (places-distinct es possible f.ports_once) (λ q. places-below es q possible) in
    let a = length-map-places es in
    let b = length-ends_of n.cables in
    omega (arith, few, a, b)
