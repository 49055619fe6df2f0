-- From each host a way leads to each other, and the distances have its length.
use Rattle.std.proofs.Common.{◌≡◌, ◌≢◌, ◌<◌, ◌≤◌, ℕ, List, length, Bool, true, false, not, Option, Some, None, refl, ap, sym, ◌∙◌, subst, arith, nat_le}
use Rattle.std.specs.Prelude.{option_map}
use Rattle.std.proofs.lemmas.Bool.Decides.{nat_tests}
use Rattle.map_defs.specs.NetMap.{NetMap, MapPort, IsMap, IsConnected, map_far, host_of_vertex, switches_of}
use Rattle.map_defs.specs.Orientation.{order_of, is_up}
use Rattle.net_defs.specs.Turn.{IsTurn, walk_refusal}
use Rattle.map_defs.specs.Routing.{vertex_of_host, IsLeastLegal}
use Rattle.fabric_map.proofs.Ends.{far-holds}
use Rattle.route_calc.specs.declared.entered.Entered.{Entered}
use Rattle.route_calc.specs.Reaching.{reaches}
use Rattle.route_calc.specs.Ways.{IsDistance, entered_by, best_turns}
use Rattle.route_calc.specs.Far.{far_at, AreDistances}
use Rattle.route_calc.proofs.Best.{arrival}
use Rattle.route_calc.proofs.Existing.{Starts, host-starts}
use Rattle.route_calc.proofs.Few.{fewest, distance-few}
use Rattle.route_calc.proofs.Least.{host-at, host_start, least-legal, best-walk}

-- hosts of different addresses stand at different vertices
pub start-there : (m : NetMap) (va vb a b : ℕ) → IsMap m → IsConnected m → vertex_of_host m a ≡ Some va → vertex_of_host m b ≡ Some vb → a ≢ b → Starts m vb va
start-there m va vb a b r c is_a is_b differ =
    let x = host-at m a va is_a in
    let y = host-at m b vb is_b in
    host-starts m vb va r c y.there x.there x.plain (λ e. differ (let two : ◌≡◌ {A = Option ℕ} (Some a) (Some b) = sym x.host ∙ ap (λ v. host_of_vertex m v) e ∙ y.host in cc))

pub entered-there : (m : NetMap) (vb va : ℕ) → (s : Starts m vb va) → entered_by m (order_of m) (host_start va) ≡ Some (arrival m (order_of m) (host_start va) s.entered)
entered-there m vb va s = ap (λ o. option_map (λ (f : MapPort). arrival m (order_of m) (host_start va) f) o) s.far

le-itself : (a : ℕ) → nat_le a a ≡ true
le-itself a = grind (arith, nat_tests)

le-not : (a b : ℕ) → b < a → nat_le a b ≡ false
le-not a b l = grind (arith, nat_tests)

le-so : (a b : ℕ) → nat_le a b ≡ true → a ≤ b
le-so a b e = grind (arith, nat_tests)

-- what leads there at all has its distance
pub distance-there : (m : NetMap) (order : List ℕ) (to k v : ℕ) (down : Bool) (far : List ℕ) → IsMap m → length (switches_of m.vertices) ≤ 64 → AreDistances m order to far → reaches m order to k v down ≡ true → IsDistance m order to (far_at far v down) v down
distance-there m order to k v down far r few d e =
    let f = fewest m order to k v down e in
    let most = distance-few m order to f.channels v down r f.is in
    let near = le-so (far_at far v down) f.channels (d.each f.channels v down (omega arith) ∙ f.is.near) in
    let low : far_at far v down < 255 = omega arith in
    record { near = sym (d.each (far_at far v down) v down low) ∙ le-itself (far_at far v down); least = λ j l. sym (d.each j v down (less-trans j (far_at far v down) 255 l low)) ∙ le-not (far_at far v down) j l }
  where
    less-trans : (i j k : ℕ) → i < j → j < k → i < k
    less-trans i j k a b = omega arith

pub distance-low : (m : NetMap) (order : List ℕ) (to k v : ℕ) (down : Bool) (far : List ℕ) → IsMap m → length (switches_of m.vertices) ≤ 64 → AreDistances m order to far → reaches m order to k v down ≡ true → far_at far v down < 255
distance-low m order to k v down far r few d e =
    let f = fewest m order to k v down e in
    let most = distance-few m order to f.channels v down r f.is in
    let near = le-so (far_at far v down) f.channels (d.each f.channels v down (omega arith) ∙ f.is.near) in
    omega arith

-- Where a channel leads, as a port.
pub record Arrived (m : NetMap) (order : List ℕ) (d : MapPort) (s : Entered) : Type 0 where
  pub entered : MapPort
  pub far : map_far m d ≡ Some entered
  pub is : arrival m order d entered ≡ s

pub arrived : (m : NetMap) (order : List ℕ) (d : MapPort) (s : Entered) → entered_by m order d ≡ Some s → Arrived m order d s
arrived m order d s e = by (map_far m d) refl e
  where
    by : (o : Option MapPort) → map_far m d ≡ o → option_map (λ (f : MapPort). arrival m order d f) o ≡ Some s → Arrived m order d s
    by None f g = cc
    by (Some x) f g = record { entered = x; far = f; is = (let one : arrival m order d x ≡ s = cc in one) }

-- the best turns from where a host's cable leads are the least legal route
pub walk-least : (m : NetMap) (order : List ℕ) (k va vb a b : ℕ) (s : Entered) → IsMap m → vertex_of_host m a ≡ Some va → vertex_of_host m b ≡ Some vb → entered_by m order (host_start va) ≡ Some s → IsDistance m order vb k s.v s.down → IsLeastLegal m order a b (best_turns m order vb k s)
walk-least m order k va vb a b s r is_a is_b e dist =
    let x = arrived m order (host_start va) s e in
    subst (λ (z : Entered). IsDistance m order vb k z.v z.down → IsLeastLegal m order a b (best_turns m order vb k z)) x.is (least-legal m order k va vb a b x.entered r is_a is_b x.far) dist

-- and a walk
pub walk-fits : (m : NetMap) (order : List ℕ) (k va vb : ℕ) (s : Entered) → IsMap m → length (switches_of m.vertices) ≤ 64 → entered_by m order (host_start va) ≡ Some s → IsDistance m order vb k s.v s.down → walk_refusal (best_turns m order vb k s) ≡ None
walk-fits m order k va vb s r few e dist =
    let x = arrived m order (host_start va) s e in
    subst (λ (z : Entered). IsDistance m order vb k z.v z.down → walk_refusal (best_turns m order vb k z) ≡ None) x.is (best-walk m order vb k (host_start va) x.entered (not (is_up m order (host_start va))) r few x.far) dist

-- a port that is entered is from -15 to 15
pub start-turn : (m : NetMap) (order : List ℕ) (d : MapPort) (s : Entered) → IsMap m → entered_by m order d ≡ Some s → IsTurn s.port
start-turn m order d s r e =
    let x = arrived m order d s e in
    subst (λ (z : Entered). IsTurn z.port) x.is (far-holds (λ (y : MapPort). IsTurn y.p) m.cables d x.entered r.ports_in_range x.far)
