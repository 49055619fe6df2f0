-- The far end of a far end, and the ends that walks enter.
use Rattle.std.proofs.Common.{◌≡◌, ◌≢◌, ◌≤◌, ℕ, zero, suc, List, [], ◌∷◌, Bool, true, false, ◌&&◌, Option, Some, None, subst, ap, refl, arith, if◌then◌else◌, nat_lt, length}
use Rattle.std.specs.List.{AllByRecursion, slice_get}
use Rattle.std.specs.Option.{option_map_or}
use Rattle.std.specs.Prelude.{ℤ, pos, negsuc, ◌+ℤ◌, int_le, int_lt, nat_abs, option_map, option_and_then}
use Rattle.std.proofs.lemmas.Bool.{false≢true, and_parts}
use Rattle.std.proofs.lemmas.Bool.Decides.{nat_tests}
use Rattle.net_defs.specs.declared.vertex.Vertex.{Vertex}
use Rattle.net_defs.specs.declared.vertex.Vertex.TheVariants.{Host, Switch}
use Rattle.net_defs.specs.declared.vertex.End.{End}
use Rattle.net_defs.specs.declared.vertex.Cable.{Cable}
use Rattle.net_defs.specs.Network.{Network, NamedSwitch, IsFabric, Apart, far, far_end, ends_of, has_port, ports_of, is_port_count, same_end}
use Rattle.net_defs.specs.Route.{exit_at, turned, entered_after, IsEntered}
use Rattle.net_defs.proofs.Ends.{same_end-true, same_end-refl, same_end-false}
use Rattle.net_defs.proofs.Places.{far-there}

-- what holds of each end holds of a far end
pub far_end-holds : (cs : List Cable) (P : End → Type 0) (d e : End) → AllByRecursion P (ends_of cs) → far_end cs d ≡ Some e → P e
far_end-holds [] P d e all f = cc
far_end-holds (c ∷ cs) P d e all f = by (same_end c.a d) (same_end c.b d) f (far_end-holds cs P d e all.1.1)
  where
    by : (s t : Bool) → (if s then Some c.b else if t then Some c.a else far_end cs d) ≡ Some e → (far_end cs d ≡ Some e → P e) → P e
    by true t g rest = let p : c.b ≡ e = cc in subst P p all.1.0
    by false true g rest = let p : c.a ≡ e = cc in subst P p all.0
    by false false g rest = rest g

pub far_end-back : (cs : List Cable) (d e : End) → Apart (ends_of cs) → far_end cs d ≡ Some e → far_end cs e ≡ Some d
far_end-back [] d e apart f = cc
far_end-back (c ∷ cs) d e apart f = by (same_end c.a d) (same_end c.b d) refl refl f (far_end-back cs d e apart.1.1)
  where
    by : (s t : Bool) → same_end c.a d ≡ s → same_end c.b d ≡ t → (if s then Some c.b else if t then Some c.a else far_end cs d) ≡ Some e → (far_end cs d ≡ Some e → far_end cs e ≡ Some d) → far_end (c ∷ cs) e ≡ Some d
    by true t p q g rest =
        let at_b : c.b ≡ e = cc in
        let at_a : c.a ≡ d = same_end-true c.a d p in
        rw (← at_b, same_end-false c.a c.b apart.0.0, same_end-refl c.b) (ap Some at_a)
    by false true p q g rest =
        let at_a : c.a ≡ e = cc in
        let at_b : c.b ≡ d = same_end-true c.b d q in
        rw (← at_a, same_end-refl c.a) (ap Some at_b)
    by false false p q g rest =
        let not_a : c.a ≢ e = far_end-holds cs (λ x. c.a ≢ x) d e apart.0.1 g in
        let not_b : c.b ≢ e = far_end-holds cs (λ x. c.b ≢ x) d e apart.1.0 g in
        rw (same_end-false c.a e not_a, same_end-false c.b e not_b) (rest g)

-- the far end of a far end is the end itself
pub far-back : (n : Network) (d e : End) → IsFabric n → far n d ≡ Some e → far n e ≡ Some d
far-back n d e f p = far_end-back n.cables d e f.ports_once p

-- the end that a turn leaves by
pub record LeavesBy (v : Vertex) (q : ℕ) (t : ℤ) (e : End) : Type 0 where
  pub port : ℕ
  pub is : e ≡ record { v = v; p = port }
  pub sum : pos port ≡ pos q +ℤ t

nat_abs-back : (z : ℤ) → int_le (pos 0) z ≡ true → pos (nat_abs z) ≡ z
nat_abs-back (pos k) h = refl
nat_abs-back (negsuc k) h = absurd (false≢true h)

pub exit-leaves : (n : Network) (v : Vertex) (q : ℕ) (t : ℤ) (e : End) → exit_at n v q t ≡ Some e → LeavesBy v q t e
exit-leaves n (Host h) q t e f = cc
exit-leaves n (Switch s) q t e f = by (int_le (pos 0) (pos q +ℤ t) && int_lt (pos q +ℤ t) (pos (ports_of n (Switch s)))) refl f
  where
    by : (b : Bool) → (int_le (pos 0) (pos q +ℤ t) && int_lt (pos q +ℤ t) (pos (ports_of n (Switch s)))) ≡ b → option_map (λ p. record { v = Switch s; p = p }) (if b then Some (nat_abs (pos q +ℤ t)) else None) ≡ Some e → LeavesBy (Switch s) q t e
    by true c g =
        let two = and_parts (int_le (pos 0) (pos q +ℤ t)) _ c in
        record { port = nat_abs (pos q +ℤ t); is = cc; sum = nat_abs-back (pos q +ℤ t) two.0 }
    by false c g = cc

-- a walk enters ports of the fabric
turned-there : (n : Network) (entered : Option End) (t : ℤ) → IsFabric n → IsEntered n (turned n entered t)
turned-there n None t f = tt
turned-there n (Some e) t f = by (exit_at n e.v e.p t)
  where
    by : (x : Option End) → IsEntered n (option_and_then (far n) x)
    by None = tt
    by (Some d) = far-there n d f

pub entered-there : (n : Network) (entered : Option End) (w : List ℤ) → IsFabric n → IsEntered n entered → IsEntered n (entered_after n entered w)
entered-there n entered [] f e = e
entered-there n entered (t ∷ ts) f e = entered-there n (turned n entered t) ts f (turned-there n entered t f)

-- a host has port 0 alone, and no vertex more than 16
pub host-port : (n : Network) (h p : ℕ) → has_port n (record { v = Host h; p = p }) ≡ true → p ≡ 0
host-port n h p e = by (nat_lt h (length n.hosts)) e
  where
    by : (b : Bool) → nat_lt p (if b then 1 else 0) ≡ true → p ≡ 0
    by true g = grind (arith, nat_tests)
    by false g = absurd (grind (arith, nat_tests))

counted : (p : ℕ) → is_port_count p ≡ true → p ≤ 16
counted p e = grind (arith, nat_tests)

few-ports : (ws : List NamedSwitch) (s : ℕ) → AllByRecursion (λ w. is_port_count w.ports ≡ true) ws → option_map_or (λ w. w.ports) (slice_get ws s) 0 ≤ 16
few-ports [] s all = omega arith
few-ports (w ∷ ws) zero all = counted w.ports all.0
few-ports (w ∷ ws) (suc s) all = few-ports ws s all.1

pub at_most_sixteen : (n : Network) (v : Vertex) → IsFabric n → ports_of n v ≤ 16
at_most_sixteen n (Host h) f = by (nat_lt h (length n.hosts))
  where
    by : (b : Bool) → (if b then 1 else 0) ≤ 16
    by true = omega arith
    by false = omega arith
at_most_sixteen n (Switch s) f = few-ports n.switches s f.port_counts
