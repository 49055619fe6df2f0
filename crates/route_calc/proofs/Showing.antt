-- What the walk of the last route shows of the next, where two hosts hang at one switch.
use Rattle.std.proofs.Common.{◌≡◌, ◌-◌, ℕ, List, length, Bool, true, false, not, ◌&&◌, nat_eq, if◌then◌else◌, Option, Some, None, IfSome, refl, sym, subst, arith, w8, to_z, of_z}
use Rattle.std.specs.Prelude.{ℤ, ◌+ℤ◌, ◌-ℤ◌, slice_get}
use Rattle.std.proofs.lemmas.Bool.{false≢true, and_parts}
use Rattle.std.proofs.lemmas.Bool.Decides.{Decides-eqb}
use Rattle.std.proofs.lemmas.Int.{ints, to_z-of_z}
use Rattle.net_defs.specs.declared.route.Route.{Route}
use Rattle.port_graph.specs.Routes.{goes, walk_at}
use Rattle.map_defs.specs.NetMap.{NetMap, IsMap, is_switch_vertex}
use Rattle.map_defs.specs.Routing.{vertex_of_host, IsLeastLegal}
use Rattle.route_calc.specs.declared.entered.Entered.{Entered}
use Rattle.route_calc.specs.Adding.{IsLastLeast}
use Rattle.route_calc.specs.Beside.{hang_at_one, ports_apart}
use Rattle.route_calc.specs.Ways.{entered_by}
use Rattle.route_calc.proofs.Least.{host_start}
use Rattle.route_calc.proofs.Moved.{AreAtOne, IsMoved, falls-from, least-moved}
use Rattle.route_calc.proofs.Starting.{start-turn}
use Rattle.route_calc.proofs.Turned.{difference-fits}

-- two hosts whose cables lead up to one switch
pub at-one : (m : NetMap) (order : List ℕ) (v w : ℕ) (p q : Entered) → IsMap m → entered_by m order (host_start v) ≡ Some p → entered_by m order (host_start w) ≡ Some q → hang_at_one m p q ≡ true → AreAtOne m order (record { v = p.v; p = p.port }) (record { v = q.v; p = q.port }) v w (q.port -ℤ p.port)
at-one m order v w p q r e f hang =
    let one = and_parts (nat_eq p.v q.v) (is_switch_vertex m p.v && (not p.down && not q.down)) hang in
    let two = and_parts (is_switch_vertex m p.v) (not p.down && not q.down) one.1 in
    let three = and_parts (not p.down) (not q.down) two.1 in
    record {
      first = falls-from m order v p r e (off p.down three.0);
      second = falls-from m order w q r f (off q.down three.1);
      one = sym ((Decides-eqb p.v q.v).0 one.0);
      switch = two.0;
      apart = apart-by p.port q.port;
    }
  where
    off : (b : Bool) → not b ≡ true → b ≡ false
    off false n = refl
    off true n = absurd (false≢true n)

    apart-by : (i j : ℤ) → j ≡ i +ℤ (j -ℤ i)
    apart-by i j = omega (arith, ints)

-- how far their ports are apart fits its type
pub apart-fits : (m : NetMap) (order : List ℕ) (v w : ℕ) (o p : Option Entered) (more : ℤ) → IsMap m → o ≡ entered_by m order (host_start v) → p ≡ entered_by m order (host_start w) → ports_apart m o p ≡ Some more → to_z w8 (of_z w8 more) ≡ more
apart-fits m order v w None p more r e f told = cc
apart-fits m order v w (Some x) None more r e f told = cc
apart-fits m order v w (Some x) (Some y) more r e f told = by (hang_at_one m x y) told
  where
    by : (t : Bool) → (if t then Some (y.port -ℤ x.port) else None) ≡ Some more → to_z w8 (of_z w8 more) ≡ more
    by true g =
        let same : y.port -ℤ x.port ≡ more = cc in
        subst (λ z. to_z w8 (of_z w8 z) ≡ z) same (to_z-of_z w8 (y.port -ℤ x.port) (difference-fits y.port x.port (start-turn m order (host_start w) y r (sym f)) (start-turn m order (host_start v) x r (sym e))))
    by false g = cc

-- what a walk to a host shows of that to another, where their ports are told apart
pub shown-apart : (m : NetMap) (order : List ℕ) (va v w a b c : ℕ) (o p : Option Entered) (more : ℤ) (ts : List ℤ) → IsMap m → vertex_of_host m a ≡ Some va → vertex_of_host m b ≡ Some v → vertex_of_host m c ≡ Some w → o ≡ entered_by m order (host_start v) → p ≡ entered_by m order (host_start w) → ports_apart m o p ≡ Some more → IsLeastLegal m order a b ts → IsMoved m order a c more ts
shown-apart m order va v w a b c None p more ts r is_a is_b is_c e f told l = cc
shown-apart m order va v w a b c (Some x) None more ts r is_a is_b is_c e f told l = cc
shown-apart m order va v w a b c (Some x) (Some y) more ts r is_a is_b is_c e f told l = by (hang_at_one m x y) refl told
  where
    by : (t : Bool) → hang_at_one m x y ≡ t → (if t then Some (y.port -ℤ x.port) else None) ≡ Some more → IsMoved m order a c more ts
    by true h g =
        let same : y.port -ℤ x.port ≡ more = cc in
        subst (λ z. IsMoved m order a c z ts) same (least-moved m order (record { v = x.v; p = x.port }) (record { v = y.v; p = y.port }) va v w a b c (y.port -ℤ x.port) ts r is_a is_b is_c (at-one m order v w x y r (sym e) (sym f) h) l)
    by false h g = cc

-- the walk of the last route, if it leads there
pub last-least : (m : NetMap) (order : List ℕ) (from to : ℕ) (routes : List Route) (o : Option (List ℤ)) → o ≡ walk_at (slice_get routes (length routes - 1)) from to → IsLastLeast m order from routes → IfSome o (IsLeastLegal m order from to)
last-least m order from to routes o e last = subst (λ w. IfSome w (IsLeastLegal m order from to)) (sym e) (by (slice_get routes (length routes - 1)) refl)
  where
    there : (r : Route) (b : Bool) → goes from to r ≡ b → slice_get routes (length routes - 1) ≡ Some r → IfSome (if b then Some r.walk else None) (IsLeastLegal m order from to)
    there r true g f =
        let two = and_parts (nat_eq r.from from) (nat_eq r.to to) g in
        let same = (Decides-eqb r.from from).0 two.0 in
        subst (λ h. IsLeastLegal m order h to r.walk) same (subst (λ h. IsLeastLegal m order r.from h r.walk) ((Decides-eqb r.to to).0 two.1) (last r f same))
    there r false g f = tt

    by : (s : Option Route) → slice_get routes (length routes - 1) ≡ s → IfSome (walk_at s from to) (IsLeastLegal m order from to)
    by None f = tt
    by (Some r) f = there r (goes from to r) refl f
