-- Walks stay in the fabric.
use Rattle.std.proofs.Common.{◌≡◌, ℕ, zero, suc, List, [], ◌∷◌, Bool, true, false, length, nat_lt, Option, Some, None, IfSome, refl, arith, if◌then◌else◌}
use Rattle.std.specs.List.{AllByRecursion, slice_get}
use Rattle.std.specs.Option.{option_map_or}
use Rattle.std.proofs.lemmas.Bool.Decides.{nat_tests}
use Rattle.net_defs.specs.declared.vertex.Vertex.{Vertex}
use Rattle.net_defs.specs.declared.vertex.Vertex.TheVariants.{Host, Switch}
use Rattle.net_defs.specs.declared.vertex.End.{End}
use Rattle.net_defs.specs.declared.vertex.Cable.{Cable}
use Rattle.net_defs.specs.Network.{Network, NamedSwitch, IsFabric, far, far_end, ends_of, has_port, has_vertex, ports_of, same_end}
use Rattle.net_defs.specs.Route.{place_at, IsPlaceOf, IsEntered}

-- a far end is one of the ends
far_end-there : (cs : List Cable) (P : End → Type 0) (e : End) → AllByRecursion P (ends_of cs) → IfSome (far_end cs e) P
far_end-there [] P e all = tt
far_end-there (c ∷ cs) P e all = by (same_end c.a e) (same_end c.b e) (far_end-there cs P e all.1.1)
  where
    by : (s t : Bool) → IfSome (far_end cs e) P → IfSome (if s then Some c.b else if t then Some c.a else far_end cs e) P
    by true t rest = all.1.0
    by false true rest = all.0
    by false false rest = rest

pub far-there : (n : Network) (e : End) → IsFabric n → IsEntered n (far n e)
far-there n e f = far_end-there n.cables (λ d. has_port n d ≡ true) e f.cabled_ports

-- a vertex with a port is there
switch-there : (ws : List NamedSwitch) (s p : ℕ) → nat_lt p (option_map_or (λ w. w.ports) (slice_get ws s) 0) ≡ true → nat_lt s (length ws) ≡ true
switch-there [] s p h = absurd (grind (arith, nat_tests))
switch-there (w ∷ ws) zero p h = grind (arith, nat_tests)
switch-there (w ∷ ws) (suc s) p h = let k : nat_lt s (length ws) ≡ true = switch-there ws s p h in grind (arith, nat_tests)

host-there : (t : Bool) (p : ℕ) → nat_lt p (if t then 1 else 0) ≡ true → t ≡ true
host-there true p h = refl
host-there false p h = absurd (grind (arith, nat_tests))

port-vertex : (n : Network) (v : Vertex) (p : ℕ) → nat_lt p (ports_of n v) ≡ true → has_vertex n v ≡ true
port-vertex n (Host h) p e = host-there (nat_lt h (length n.hosts)) p e
port-vertex n (Switch s) p e = switch-there n.switches s p e

place_at-vertex : (n : Network) (v : Vertex) (p : ℕ) → has_vertex n v ≡ true → IsPlaceOf n (place_at (Some (record { v = v; p = p })))
place_at-vertex n (Host h) p e = e
place_at-vertex n (Switch s) p e = e

-- the place of an end that was entered is in the fabric
pub place_at-there : (n : Network) (entered : Option End) → IsEntered n entered → IsPlaceOf n (place_at entered)
place_at-there n None e = tt
place_at-there n (Some d) e = place_at-vertex n d.v d.p (port-vertex n d.v d.p e)
