-- The best turns from a host's cable are the least legal route.
use Rattle.std.proofs.Common.{◌≡◌, ◌<◌, ◌≤◌, ℕ, zero, suc, List, [], ◌∷◌, length, get_or, Bool, true, false, not, Option, Some, None, refl, ap, sym, ◌∙◌, subst, arith, ◌⊎◌, inl, inr, nat_lt, map}
use Rattle.std.specs.Prelude.{ℤ, pos, ◌-ℤ◌, option_map}
use Rattle.std.specs.List.{list_all}
use Rattle.std.proofs.lemmas.Bool.{false≢true, and_from}
use Rattle.std.proofs.lemmas.Bool.Decides.{Decides-eqb, nat_tests}
use Rattle.std.proofs.lemmas.Int.{ints}
use Rattle.std.proofs.lemmas.List.Quantifiers.{position-Some}
use Rattle.std.proofs.lemmas.Option.{slice_get-get_or}
use Rattle.net_defs.specs.Turn.{is_turn, IsTurn, walk_refusal}
use Rattle.journal_defs.specs.Walks.{turns_below, walk_below}
use Rattle.journal_defs.proofs.Order.{below-parts}
use Rattle.journal_defs.proofs.Members.{IsMember, all-member}
use Rattle.map_defs.specs.declared.vertex.MapVertex.{MapVertex}
use Rattle.map_defs.specs.declared.vertex.MapVertex.TheVariants.{Host, Switch}
use Rattle.map_defs.specs.NetMap.{NetMap, MapPort, IsMap, IsCabled, AreNearPorts, IsNearPort, map_far, map_ends, host_at, host_of_vertex, switch_at, is_switch_vertex, switches_of}
use Rattle.map_defs.specs.NetMap.IsCabled.{forth, back}
use Rattle.map_defs.specs.Orientation.{is_up}
use Rattle.map_defs.specs.Routing.{is_host_named, vertex_of_host, port_of_host, led_to, channels_on, no_up_after_down, LeadsTo, is_legal, IsLeastLegal}
use Rattle.map_defs.proofs.Ports.{far_is_cabled}
use Rattle.map_defs.proofs.Leading.{far-end}
use Rattle.fabric_map.proofs.Ends.{far-holds}
use Rattle.route_calc.specs.Reaching.{port_of_place}
use Rattle.route_calc.specs.Ways.{IsDistance, best_turns}
use Rattle.route_calc.proofs.Going.{Goes, goes-led, goes-legal, led-goes}
use Rattle.route_calc.proofs.Best.{arrival, best-goes, best-long, best-step, goes-reaches, none-less, exit-of, next-distance}
use Rattle.route_calc.proofs.Few.{distance-few}

-- the vertex of a host
pub record IsHostAt (m : NetMap) (a v : ℕ) : Type 0 where
  pub there : v < length m.vertices
  pub host : host_of_vertex m v ≡ Some a
  pub plain : is_switch_vertex m v ≡ false

named-host : (x : MapVertex) (a : ℕ) → is_host_named a x ≡ true → (host_at (Some x) ≡ Some a) × (switch_at (Some x) ≡ false)
named-host (Host h) a e = (ap Some ((Decides-eqb h a).0 e), refl)
named-host (Switch s) a e = absurd (false≢true e)

pub host-at : (m : NetMap) (a v : ℕ) → vertex_of_host m a ≡ Some v → IsHostAt m a v
host-at m a v e =
    let p = position-Some (is_host_named a) m.vertices v (Switch 0) e in
    let there = p.0 in
    let is = slice_get-get_or m.vertices v (Switch 0) there in
    let named = named-host (get_or m.vertices v (Switch 0)) a p.1 in
    record { there = there; host = ap host_at is ∙ named.0; plain = ap switch_at is ∙ named.1 }

-- a host is entered by its one port
pub entered-once : (m : NetMap) (b v : ℕ) → IsMap m → IsHostAt m b v → (c f : MapPort) → map_far m c ≡ Some f → f.v ≡ v → f ≡ record { v = v; p = pos 0 }
entered-once m b v r h c f far same =
    let port : f.p ≡ pos 0 = far-holds (λ (d : MapPort). (g : ℕ) → host_of_vertex m d.v ≡ Some g → d.p ≡ pos 0) m.cables c f r.host_ports far b (ap (host_of_vertex m) same ∙ h.host) in
    λ i. record { v = same i; p = port i }

pub host-port : (m : NetMap) (a v : ℕ) → vertex_of_host m a ≡ Some v → port_of_host m a ≡ Some (record { v = v; p = pos 0 })
host-port m a v e = ap (λ o. option_map (λ x. let d : MapPort = record { v = x; p = pos 0 } in d) o) e

abbrev pub host_start : ℕ → MapPort
host_start v = record { v = v; p = pos 0 }

-- another legal route is a legal way
pub other-way : (m : NetMap) (order : List ℕ) (va vb a b : ℕ) (others : List ℤ) → vertex_of_host m a ≡ Some va → vertex_of_host m b ≡ Some vb → LeadsTo m a b others → is_legal m order a others ≡ true → Goes m order false (host_start va) others (host_start vb)
other-way m order va vb a b others is_a is_b l legal =
    let start = host-port m a va is_a in
    let one : ◌≡◌ {A = Option MapPort} (Some l.at) (Some (host_start vb)) = sym l.is_at ∙ host-port m b vb is_b in
    let led : led_to m (Some (host_start va)) others ≡ Some (host_start vb) = ap (λ o. led_to m o others) (sym start) ∙ l.led ∙ one in
    let right : no_up_after_down (map (is_up m order) (channels_on m (Some (host_start va)) others)) ≡ true = ap (λ o. no_up_after_down (map (is_up m order) (channels_on m o others))) (sym start) ∙ legal in
    led-goes m order false (host_start va) (host_start vb) others led right

-- and no less than the best turns
not-less : (m : NetMap) (order : List ℕ) (k va vb : ℕ) (e : MapPort) (others : List ℤ) → IsMap m → map_far m (host_start va) ≡ Some e → IsDistance m order vb k e.v (not (is_up m order (host_start va))) → Goes m order false (host_start va) others (host_start vb) → walk_below others (best_turns m order vb k (arrival m order (host_start va) e)) ≡ false
not-less m order k va vb e others r far dist way = by (walk_below others (best_turns m order vb k (arrival m order (host_start va) e))) refl
  where
    long : length (best_turns m order vb k (arrival m order (host_start va) e)) ≡ k
    long = best-long m order vb k (arrival m order (host_start va) e) r dist

    parts : (length others < length (best_turns m order vb k (arrival m order (host_start va) e))) ⊎ ((length others ≡ length (best_turns m order vb k (arrival m order (host_start va) e))) × (turns_below others (best_turns m order vb k (arrival m order (host_start va) e)) ≡ true)) → ⊥
    parts (inl l) = false≢true (sym (dist.least (length others) (let s = long in let n : length others < k = omega arith in n)) ∙ goes-reaches m order vb false (host_start va) e (host_start vb) others r refl far way)
    parts (inr p) = none-less m order vb k false (host_start va) e (host_start vb) others r refl far dist way (p.0 ∙ long) p.1

    by : (t : Bool) → walk_below others (best_turns m order vb k (arrival m order (host_start va) e)) ≡ t → walk_below others (best_turns m order vb k (arrival m order (host_start va) e)) ≡ false
    by true w = absurd (parts (below-parts others (best_turns m order vb k (arrival m order (host_start va) e)) w))
    by false w = w

pub least-legal : (m : NetMap) (order : List ℕ) (k va vb a b : ℕ) (e : MapPort) → IsMap m → vertex_of_host m a ≡ Some va → vertex_of_host m b ≡ Some vb → map_far m (host_start va) ≡ Some e → IsDistance m order vb k e.v (not (is_up m order (host_start va))) → IsLeastLegal m order a b (best_turns m order vb k (arrival m order (host_start va) e))
least-legal m order k va vb a b e r is_a is_b far dist =
    let ts = best_turns m order vb k (arrival m order (host_start va) e) in
    let way = best-goes m order vb k false (host_start va) e (host_start vb) r (entered-once m b vb r (host-at m b vb is_b)) refl far dist in
    record {
      leads = record { at = host_start vb; is_at = host-port m b vb is_b; led = ap (λ o. led_to m o ts) (host-port m a va is_a) ∙ goes-led m order false (host_start va) (host_start vb) ts way };
      legal = ap (λ o. no_up_after_down (map (is_up m order) (channels_on m o ts))) (host-port m a va is_a) ∙ goes-legal m order false (host_start va) (host_start vb) ts way;
      least = λ others l legal. not-less m order k va vb e others r far dist (other-way m order va vb a b others is_a is_b l legal);
    }

-- two cabled ports of a vertex are near
turn_back : (p q : ℤ) → IsTurn (p -ℤ q) → IsTurn (q -ℤ p)
turn_back p q t = grind (arith, ints)

turn_none : (p : ℤ) → IsTurn (p -ℤ p)
turn_none p = let z : p -ℤ p ≡ pos 0 = omega (arith, ints) in subst IsTurn (sym z) refl

pub near-ports : (ds : List MapPort) (d e : MapPort) → AreNearPorts ds → IsMember d ds → IsMember e ds → IsNearPort d e
near-ports [] d e near i j = absurd i
near-ports (x ∷ ds) d e near (inl p) (inl q) = λ v. subst (λ (z : MapPort). IsTurn (d.p -ℤ z.p)) (p ∙ sym q) (turn_none d.p)
near-ports (x ∷ ds) d e near (inl p) (inr j) = λ v. subst (λ (z : MapPort). IsTurn (z.p -ℤ e.p)) (sym p) (all-member (IsNearPort x) e ds near.0 j (ap (λ (z : MapPort). z.v) (sym p) ∙ v))
near-ports (x ∷ ds) d e near (inr i) (inl q) = λ v. subst (λ (z : MapPort). IsTurn (d.p -ℤ z.p)) (sym q) (turn_back x.p d.p (all-member (IsNearPort x) d ds near.0 i (ap (λ (z : MapPort). z.v) (sym q) ∙ sym v)))
near-ports (x ∷ ds) d e near (inr i) (inr j) = near-ports ds d e near.1 i j

cabled-back : (m : NetMap) (d e : MapPort) → IsCabled m d e → IsCabled m e d
cabled-back m d e (forth k p) = back k p
cabled-back m d e (back k p) = forth k p

-- the best turns are turns
pub best-turns : (m : NetMap) (order : List ℕ) (to k : ℕ) (d e : MapPort) (down : Bool) → IsMap m → map_far m d ≡ Some e → IsDistance m order to k e.v down → list_all is_turn (best_turns m order to k (record { v = e.v; port = e.p; down = down })) ≡ true
best-turns m order to zero d e down r far dist = refl
best-turns m order to (suc k) d e down r far dist =
    let x = exit-of m order to k e.v down dist in
    let back = (far_is_cabled m e d r).1 (cabled-back m d e ((far_is_cabled m d e r).0 far)) in
    let turn = near-ports (map_ends m.cables) (port_of_place e.v x.at) e r.ports_near (far-end m.cables (port_of_place e.v x.at) x.far x.leads) (far-end m.cables e d back) refl in
    let rest = best-turns m order to k (port_of_place e.v x.at) x.far (not (is_up m order (port_of_place e.v x.at))) r x.leads (next-distance m order to k e.v down r dist x) in
    ap (list_all is_turn) (best-step m order to k (record { v = e.v; port = e.p; down = down }) x) ∙ and_from (is_turn ((pos x.at -ℤ pos 15) -ℤ e.p)) _ turn rest

-- and few
pub best-walk : (m : NetMap) (order : List ℕ) (to k : ℕ) (d e : MapPort) (down : Bool) → IsMap m → length (switches_of m.vertices) ≤ 64 → map_far m d ≡ Some e → IsDistance m order to k e.v down → walk_refusal (best_turns m order to k (record { v = e.v; port = e.p; down = down })) ≡ None
best-walk m order to k d e down r few far dist =
    let ts = best_turns m order to k (record { v = e.v; port = e.p; down = down }) in
    let long = best-long m order to k (record { v = e.v; port = e.p; down = down }) r dist in
    let most = distance-few m order to k e.v down r dist in
    let short : nat_lt 64 (length ts) ≡ false = not_long (length ts) (let n : length ts ≤ 64 = omega arith in n) in
    rw (short, best-turns m order to k d e down r far dist) refl
  where
    not_long : (n : ℕ) → n ≤ 64 → nat_lt 64 n ≡ false
    not_long n l = grind (arith, nat_tests)
