-- How a report names a channel.
use Rattle.std.proofs.Common.{◌≡◌, ◌/◌, ◌%◌, ℕ, zero, suc, Bool, true, false, List, [], ◌∷◌, nat_eq, nat_lt, length, Option, Some, None, refl, sym, ap, subst, arith, if◌then◌else◌}
use Rattle.std.specs.Prelude.{slice_get}
use Rattle.std.specs.Option.{option_map, option_map_or}
use Rattle.std.proofs.lemmas.Bool.Decides.{nat_tests}
use Rattle.net_defs.specs.declared.vertex.Vertex.{Vertex}
use Rattle.net_defs.specs.declared.vertex.Vertex.TheVariants.{Host, Switch}
use Rattle.net_defs.specs.declared.vertex.End.{End}
use Rattle.net_defs.specs.Network.{Network, has_vertex, has_port}
use Rattle.world_defs.specs.declared.wire.Wire.{Wire}
use Rattle.world_defs.specs.Crossed.{life_tail}
use Rattle.world_defs.proofs.There.{ends_are_there}
use Rattle.world_defs.specs.World.{WorldState, fabric_of}
use Rattle.run_defs.specs.Outcome.{named_by_tail, tail_of}
use Rattle.fab_world.specs.Held.{IsMoment}

-- a channel is named by the end that it leaves
pub tail_named : (w : WorldState) (c : ℕ) (e : End) → life_tail w.links.cables c ≡ Some e → e ≡ named_by_tail w c
tail_named w c e is = sym (ap tail_of is)

-- what has a port stands in its list
switch-there : {A : Type 0} (ports : A → ℕ) (xs : List A) (k p : ℕ) → nat_lt p (option_map_or ports (slice_get xs k) 0) ≡ true → nat_lt k (length xs) ≡ true
switch-there ports [] k p is = absurd (grind (arith, nat_tests))
switch-there ports (x ∷ xs) zero p is = grind (arith, nat_tests)
switch-there ports (x ∷ xs) (suc k) p is =
    let rest : nat_lt k (length xs) ≡ true = switch-there ports xs k p is in
    grind (arith, nat_tests)

-- a vertex with a port is one of the fabric
pub port-vertex : (n : Network) (e : End) → has_port n e ≡ true → has_vertex n e.v ≡ true
port-vertex n e is = of e.v is
  where
    host : (h : ℕ) (t : Bool) → nat_lt h (length n.hosts) ≡ t → nat_lt e.p (if t then 1 else 0) ≡ true → nat_lt h (length n.hosts) ≡ true
    host h true f is = f
    host h false f is = absurd (grind (arith, nat_tests))

    of : (v : Vertex) → has_port n (record { v = v; p = e.p }) ≡ true → has_vertex n v ≡ true
    of (Host h) is = host h (nat_lt h (length n.hosts)) refl is
    of (Switch s) is = switch-there (λ w. w.ports) n.switches s e.p is

-- it is an end of the fabric
pub tail_there : (w : WorldState) (c : ℕ) (e : End) → IsMoment w → life_tail w.links.cables c ≡ Some e → has_vertex (fabric_of w) e.v ≡ true
tail_there w c e m is = by (slice_get w.links.cables.wires (c / 2)) refl is
  where
    n : Network
    n = fabric_of w

    side : (wire : Wire) (t : Bool) → (has_port n wire.cable.a ≡ true) × (has_port n wire.cable.b ≡ true) → has_vertex n (if t then wire.cable.a else wire.cable.b).v ≡ true
    side wire true ports = port-vertex n wire.cable.a ports.0
    side wire false ports = port-vertex n wire.cable.b ports.1

    by : (o : Option Wire) → slice_get w.links.cables.wires (c / 2) ≡ o → option_map (λ wire. if nat_eq (c % 2) 0 then wire.cable.a else wire.cable.b) o ≡ Some e → has_vertex n e.v ≡ true
    by None got f = cc
    by (Some wire) got f =
        let same : (if nat_eq (c % 2) 0 then wire.cable.a else wire.cable.b) ≡ e = cc in
        subst (λ (x : End). has_vertex n x.v ≡ true) same (side wire (nat_eq (c % 2) 0) (ends_are_there w.links.cables (c / 2) wire m.history got))
