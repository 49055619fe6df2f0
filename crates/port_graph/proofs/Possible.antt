-- The ports of a fabric are among those that a fabric may have, so there are few of them.
use Rattle.std.proofs.Common.{◌≡◌, ◌≢◌, ◌<◌, ◌≤◌, ℕ, zero, suc, ◌+◌, List, [], ◌∷◌, Bool, true, false, ◌||◌, length, map, nat_lt, eqb, None, refl, ap, sym, ◌∙◌, true≢false, arith}
use Rattle.std.specs.List.{AllByRecursion, IsDistinct, list_any, slice_get}
use Rattle.std.specs.Option.{option_map_or}
use Rattle.std.proofs.lemmas.Bool.{eqb-true, false_from_ne_true}
use Rattle.std.proofs.lemmas.Bool.Decides.{nat_tests}
use Rattle.std.proofs.lemmas.Map.Steps.{length-le_from_distinct_below}
use Rattle.net_defs.specs.declared.vertex.Vertex.{Vertex}
use Rattle.net_defs.specs.declared.vertex.Vertex.TheVariants.{Host, Switch}
use Rattle.net_defs.specs.declared.vertex.End.{End}
use Rattle.net_defs.specs.declared.vertex.Cable.{Cable}
use Rattle.net_defs.specs.Network.{Network, NamedSwitch, IsFabric, Apart, ends_of, has_port, is_port_count, ports_of, far}
use Rattle.net_defs.proofs.Distinct.{all-weaker}
use Rattle.net_defs.proofs.Ends.{far_end-none}
use Rattle.port_graph.specs.Table.{is_possible, may_stand, place_of_end}
use Rattle.port_graph.proofs.Tables.{place_of_end-same, place_of_end-lt}

at_most_16 : (p : ℕ) → is_port_count p ≡ true → p ≤ 16
at_most_16 p e = grind (arith, nat_tests)

-- a switch has at most 16 ports
switch-few : (ws : List NamedSwitch) (s : ℕ) → AllByRecursion (λ w. is_port_count w.ports ≡ true) ws → option_map_or (λ w. w.ports) (slice_get ws s) 0 ≤ 16
switch-few [] s all = omega arith
switch-few (w ∷ ws) zero all = at_most_16 w.ports all.0
switch-few (w ∷ ws) (suc s) all = switch-few ws s all.1

-- and where it has one it is there
switch-there : (ws : List NamedSwitch) (s : ℕ) → 0 < option_map_or (λ w. w.ports) (slice_get ws s) 0 → s < length ws
switch-there [] s h = absurd (omega arith)
switch-there (w ∷ ws) zero h = omega arith
switch-there (w ∷ ws) (suc s) h = let k : s < length ws = switch-there ws s h in omega arith

port-may_stand : (n : Network) → IsFabric n → (v : Vertex) (p : ℕ) → nat_lt p (ports_of n v) ≡ true → may_stand v p ≡ true
port-may_stand n f (Host h) p e = let few : length n.hosts ≤ 128 = f.few_hosts in grind (arith, nat_tests)
port-may_stand n f (Switch s) p e =
    let ports : ℕ = option_map_or (λ w. w.ports) (slice_get n.switches s) 0 in
    let below : p < ports = grind (arith, nat_tests) in
    let few : ports ≤ 16 = switch-few n.switches s f.port_counts in
    let there : s < length n.switches = switch-there n.switches s (omega arith) in
    let switches : length n.switches ≤ 64 = f.few_switches in
    grind (arith, nat_tests)

pub has_port-possible : (n : Network) (e : End) → IsFabric n → has_port n e ≡ true → is_possible e ≡ true
has_port-possible n e f h = port-may_stand n f e.v e.p h

-- a port that isn't there has no far end
pub far-outside : (n : Network) (e : End) → IsFabric n → has_port n e ≡ false → far n e ≡ None
far-outside n e f out =
    let P : End → Type 0 = λ d. has_port n d ≡ true in
    let Q : End → Type 0 = λ d. e ≢ d in
    far_end-none n.cables e (all-weaker P Q (ends_of n.cables) (λ d h same. true≢false (sym h ∙ sym (ap (has_port n) same) ∙ out)) f.cabled_ports)

-- places of ends that are apart are distinct, and there are few
places-differ : (e : End) (es : List End) → is_possible e ≡ true → AllByRecursion (λ d. is_possible d ≡ true) es → AllByRecursion (λ d. e ≢ d) es → AllByRecursion (λ y. eqb (place_of_end e) y ≡ false) (map place_of_end es)
places-differ e [] i all new = tt
places-differ e (d ∷ ds) i all new =
    (false_from_ne_true _ (λ t. new.0 (place_of_end-same e d i all.0 (eqb-true _ _ t))), places-differ e ds i all.1 new.1)

places-distinct : (es : List End) → AllByRecursion (λ e. is_possible e ≡ true) es → Apart es → IsDistinct eqb (map place_of_end es)
unfolding IsDistinct
places-distinct [] all apart = tt
places-distinct (e ∷ es) all apart = (places-differ e es all.0 all.1 apart.0, places-distinct es all.1 apart.1)

places-below : (es : List End) (q : ℕ) → AllByRecursion (λ e. is_possible e ≡ true) es → list_any (eqb q) (map place_of_end es) ≡ true → q < 1152
places-below [] q all h = absurd (true≢false (sym h))
places-below (e ∷ es) q all h = by (eqb q (place_of_end e)) refl h (places-below es q all.1)
  where
    by : (b : Bool) → eqb q (place_of_end e) ≡ b → (b || list_any (eqb q) (map place_of_end es)) ≡ true → (list_any (eqb q) (map place_of_end es) ≡ true → q < 1152) → q < 1152
    by true t k rest = let same : q ≡ place_of_end e = eqb-true q (place_of_end e) t in let lt : place_of_end e < 1152 = place_of_end-lt e all.0 in omega arith
    by false t k rest = rest k

length-map-places : (es : List End) → length (map place_of_end es) ≡ length es
length-map-places [] = refl
length-map-places (e ∷ es) = ap suc (length-map-places es)

length-ends_of : (cs : List Cable) → length (ends_of cs) ≡ length cs + length cs
length-ends_of [] = refl
length-ends_of (c ∷ cs) = let k = length-ends_of cs in omega (arith, k)

-- a fabric has at most 576 cables
pub few_cables : (n : Network) → IsFabric n → length n.cables ≤ 576
few_cables n f =
    let es : List End = ends_of n.cables in
    let possible : AllByRecursion (λ e. is_possible e ≡ true) es = all-weaker _ _ es (λ e. has_port-possible n e f) f.cabled_ports in
    let few : length (map place_of_end es) ≤ 1152 = length-le_from_distinct_below (map place_of_end es) 1152 (places-distinct es possible f.ports_once) (λ q. places-below es q possible) in
    omega (arith, few, length-map-places es, length-ends_of n.cables)
