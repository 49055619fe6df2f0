-- A cable of a map isn't refused by the map with the cables before it.
use Rattle.std.proofs.Common.{◌≡◌, ◌≢◌, ◌<◌, ◌+◌, ℕ, zero, suc, List, [], ◌∷◌, ◌++◌, Bool, true, false, not, ◌&&◌, ◌||◌, length, nat_lt, Option, Some, None, is_some, refl, ap, sym, ◌∙◌, subst, arith, if◌then◌else◌, append_assoc, length-append}
use Rattle.std.specs.Prelude.{pos, slice_get}
use Rattle.std.specs.Ordering.{int_eq}
use Rattle.std.specs.List.{AllByRecursion, list_all}
use Rattle.std.proofs.lemmas.Bool.Decides.{nat_tests, Decides-int_eq}
use Rattle.net_defs.specs.Network.{Apart}
use Rattle.net_defs.specs.Turn.{IsTurn}
use Rattle.net_defs.proofs.Ends.{both}
use Rattle.map_defs.specs.declared.vertex.MapVertex.{MapVertex}
use Rattle.map_defs.specs.declared.vertex.MapVertex.TheVariants.{Host, Switch}
use Rattle.map_defs.specs.declared.vertex.MapCable.{MapCable}
use Rattle.map_defs.specs.NetMap.{NetMap, MapPort, first_end, second_end, same_port, far_port, map_ends, host_of_vertex, host_at, switch_at, IsNearPort, AreNearPorts}
use Rattle.map_defs.proofs.Ports.{same_port-true}
use Rattle.fabric_map.specs.declared.fault.MapFault.TheVariants.{NoVertex, PortRange, PortUsed, Full}
use Rattle.fabric_map.specs.Growing.{IsFabricMap, cable_refusal, is_near, may_have, is_used, is_full}
use Rattle.fabric_map.proofs.Ends.{near-from}
use Rattle.fabric_file.proofs.Names.{all-behind, all-before, all-at, apart-before}

-- the map with the cables up to one
abbrev pub cabled : NetMap → List MapCable → NetMap
cabled m cs = record { vertices = m.vertices; cables = cs; core = m.core }

pub ends-append : (xs ys : List MapCable) → map_ends (xs ++ ys) ≡ map_ends xs ++ map_ends ys
ends-append [] ys = refl
ends-append (c ∷ cs) ys = ap (λ l. first_end c ∷ second_end c ∷ l) (ends-append cs ys)

-- ports before one are near to it
near-before : (xs ys : List MapPort) (d : MapPort) → AreNearPorts (xs ++ d ∷ ys) → AllByRecursion (λ e. IsNearPort e d) xs
near-before [] ys d all = tt
near-before (x ∷ xs) ys d all = (all-at (IsNearPort x) xs ys d all.0, near-before xs ys d all.1)

near-test : (ds : List MapPort) (d : MapPort) → AllByRecursion (λ e. IsNearPort e d) ds → list_all (λ e. is_near e d) ds ≡ true
near-test ds d all = near-from ds d all

-- no cable ends at a port that differs from each end
no-far : (cs : List MapCable) (d : MapPort) → AllByRecursion (λ e. e ≢ d) (map_ends cs) → far_port cs d ≡ None
no-far [] d all = refl
no-far (c ∷ cs) d all = by (same_port (first_end c) d) (same_port (second_end c) d) refl refl (no-far cs d all.1.1)
  where
    by : (s t : Bool) → same_port (first_end c) d ≡ s → same_port (second_end c) d ≡ t → far_port cs d ≡ None → (if s then Some (second_end c) else if t then Some (first_end c) else far_port cs d) ≡ None
    by true t p q rest = absurd (all.0 (same_port-true (first_end c) d p))
    by false true p q rest = absurd (all.1.0 (same_port-true (second_end c) d q))
    by false false p q rest = rest

two-ports : (d e : MapPort) → d ≢ e → same_port d e ≡ false
two-ports d e differ = by (same_port d e) refl
  where
    by : (t : Bool) → same_port d e ≡ t → same_port d e ≡ false
    by true p = absurd (differ (same_port-true d e p))
    by false p = p

-- a vertex that is there may have a port that is 0 at a host
own-port : (vs : List MapVertex) (d : MapPort) → d.v < length vs → ((h : ℕ) → host_at (slice_get vs d.v) ≡ Some h → d.p ≡ pos 0) → (switch_at (slice_get vs d.v) || int_eq d.p (pos 0)) ≡ true
own-port vs d low own = by (slice_get vs d.v) refl
  where
    none : (ws : List MapVertex) (k : ℕ) → k < length ws → slice_get ws k ≡ None → ⊥
    none [] k l e = absurd (omega arith)
    none (w ∷ ws) zero l e = cc
    none (w ∷ ws) (suc k) l e = none ws k (omega arith) e

    by : (o : Option MapVertex) → slice_get vs d.v ≡ o → (switch_at o || int_eq d.p (pos 0)) ≡ true
    by None e = absurd (none vs d.v low e)
    by (Some (Switch s)) e = refl
    by (Some (Host h)) e = (Decides-int_eq d.p (pos 0)).1 (own h (ap host_at e))

-- What a map with these cables asks of an end of the next one.
record MayEnd (m : NetMap) (cs : List MapCable) (d : MapPort) : Type 0 where
  pub low : nat_lt d.v (length m.vertices) ≡ true
  pub may : may_have (cabled m cs) d ≡ true
  pub free : far_port cs d ≡ None

all-of : (P : MapPort → Type 0) (m : NetMap) (done todo : List MapCable) (c : MapCable) → m.cables ≡ done ++ c ∷ todo → AllByRecursion P (map_ends m.cables) → P (first_end c) × P (second_end c)
all-of P m done todo c e all =
    let split : map_ends m.cables ≡ map_ends done ++ (first_end c ∷ second_end c ∷ map_ends todo) = ap map_ends e ∙ ends-append done (c ∷ todo) in
    let rest = all-behind P (map_ends done) (first_end c ∷ second_end c ∷ map_ends todo) (subst (AllByRecursion P) split all) in
    (rest.0, rest.1.0)

may-end : (m : NetMap) (cs : List MapCable) (d : MapPort) → d.v < length m.vertices → IsTurn d.p → ((h : ℕ) → host_of_vertex m d.v ≡ Some h → d.p ≡ pos 0) → AllByRecursion (λ e. IsNearPort e d) (map_ends cs) → AllByRecursion (λ e. e ≢ d) (map_ends cs) → MayEnd m cs d
may-end m cs d there turn own near apart =
    let low : nat_lt d.v (length m.vertices) ≡ true = grind (arith, nat_tests) in
    record {
      low = low;
      may = (λ i. turn i && (own-port m.vertices d there own i && near-test (map_ends cs) d near i));
      free = no-far cs d apart;
    }

not-full : (n : ℕ) → n < 4294967295 → is_full n ≡ false
not-full n l = grind (arith, nat_tests)

-- a cable whose ends a map may have isn't refused
free-cable : (m : NetMap) (cs : List MapCable) (c : MapCable) → MayEnd m cs (first_end c) → MayEnd m cs (second_end c) → is_near (first_end c) (second_end c) ≡ true → first_end c ≢ second_end c → length cs < 4294967295 → cable_refusal (cabled m cs) c ≡ None
free-cable m cs c a b near two few =
    let full = not-full (length cs) few in
    let other = two-ports (first_end c) (second_end c) two in
    let used : is_used (cabled m cs) c ≡ false = λ i. is_some (a.free i) || is_some (b.free i) || other i in
    λ i. if not (a.low i) then Some NoVertex
    else if not (b.low i) then Some NoVertex
    else if not (a.may i) then Some PortRange
    else if not (b.may i) then Some PortRange
    else if not (near i) then Some PortRange
    else if used i then Some PortUsed
    else if full i then Some Full
    else None

-- and none of a map's cables is, by the map with those before it
pub cable-taken : (m : NetMap) (done todo : List MapCable) (c : MapCable) → IsFabricMap m → m.cables ≡ done ++ c ∷ todo → cable_refusal (cabled m done) c ≡ None
cable-taken m done todo c f e =
    let r = f.is_map in
    let a = first_end c in
    let b = second_end c in
    let ends = map_ends done in
    let rest = map_ends todo in
    let split : map_ends m.cables ≡ ends ++ (a ∷ b ∷ rest) = ap map_ends e ∙ ends-append done (c ∷ todo) in
    let shifted : ends ++ (a ∷ b ∷ rest) ≡ (ends ++ a ∷ []) ++ (b ∷ rest) = sym (append_assoc ends (a ∷ []) (b ∷ rest)) in
    let low = all-of (λ d. d.v < length m.vertices) m done todo c e r.cabled_vertices in
    let turn = all-of (λ d. IsTurn d.p) m done todo c e r.ports_in_range in
    let own = all-of (λ d. (h : ℕ) → host_of_vertex m d.v ≡ Some h → d.p ≡ pos 0) m done todo c e r.host_ports in
    let near_all : AreNearPorts (ends ++ (a ∷ b ∷ rest)) = subst AreNearPorts split r.ports_near in
    let near_more : AreNearPorts ((ends ++ a ∷ []) ++ (b ∷ rest)) = subst AreNearPorts shifted near_all in
    let near_a = near-before ends (b ∷ rest) a near_all in
    let near_ab = near-before (ends ++ a ∷ []) rest b near_more in
    let near_b = all-before (λ x. IsNearPort x b) ends (a ∷ []) near_ab in
    let near_two : IsNearPort a b = (all-behind (λ x. IsNearPort x b) ends (a ∷ []) near_ab).0 in
    let apart : Apart (ends ++ (a ∷ b ∷ rest)) = subst Apart split r.ports_once in
    let apart_more : Apart ((ends ++ a ∷ []) ++ (b ∷ rest)) = subst Apart shifted apart in
    let other_a = apart-before ends (b ∷ rest) a apart in
    let other_ab = apart-before (ends ++ a ∷ []) rest b apart_more in
    let other_b = all-before (λ x. x ≢ b) ends (a ∷ []) other_ab in
    let two : a ≢ b = (all-behind (λ x. x ≢ b) ends (a ∷ []) other_ab).0 in
    let near : is_near a b ≡ true = (both (is_near a b) true (near-test (a ∷ []) b (near_two, tt))).0 in
    let long : length m.cables ≡ length done + length (c ∷ todo) = ap length e ∙ length-append done (c ∷ todo) in
    let most = f.few_cables in
    let few : length done < 4294967295 = omega arith in
    free-cable m done c (may-end m done a low.0 turn.0 own.0 near_a other_a) (may-end m done b low.1 turn.1 own.1 near_b other_b) near two few
