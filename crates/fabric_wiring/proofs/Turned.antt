-- The channel by which a turn leaves a switch, by a table that asks for no number of ports.
use Rattle.std.proofs.Common.{◌≡◌, ◌<◌, ◌≤◌, ℕ, zero, suc, Bool, true, false, ◌&&◌, nat_le, nat_lt, List, [], ◌∷◌, Option, Some, None, refl, sym, ap, ◌∙◌, arith, if◌then◌else◌}
use Rattle.std.specs.Prelude.{ℤ, pos, negsuc, ◌+ℤ◌, int_le, int_lt, nat_abs, option_map, option_and_then}
use Rattle.std.specs.List.{slice_get, AllByRecursion}
use Rattle.std.specs.Option.{option_map_or}
use Rattle.std.proofs.lemmas.Bool.Decides.{nat_tests}
use Rattle.net_defs.specs.declared.vertex.End.{End}
use Rattle.net_defs.specs.declared.vertex.Vertex.TheVariants.{Switch}
use Rattle.net_defs.specs.Network.{NamedSwitch, IsFabric, is_port_count, ports_of}
use Rattle.net_defs.specs.Route.{leaving_port}
use Rattle.world_defs.specs.History.{CableHistory, fabric_now}
use Rattle.world_defs.specs.Crossed.{leaving}
use Rattle.fabric_wiring.specs.Hops.{turned_from}
use Rattle.fabric_wiring.proofs.Wirings.{leaving-outside}

at_most_16 : (p : ℕ) → is_port_count p ≡ true → p ≤ 16
at_most_16 p e = grind (arith, nat_tests)

-- a switch has at most 16 ports
ports-few : (ws : List NamedSwitch) (s : ℕ) → AllByRecursion (λ w. is_port_count w.ports ≡ true) ws → option_map_or (λ w. w.ports) (slice_get ws s) 0 ≤ 16
ports-few [] s all = omega arith
ports-few (w ∷ ws) zero all = at_most_16 w.ports all.0
ports-few (w ∷ ws) (suc s) all = ports-few ws s all.1

-- the port of a number, where a switch of so many has it
abbrev port_in : ℕ → ℤ → Option ℕ
port_in ports z = if int_le (pos 0) z && int_lt z (pos ports) then Some (nat_abs z) else None

-- no port is below 0
low : (k : ℕ) → int_le (pos 0) (pos k) ≡ true
low k = let test : nat_le 0 k ≡ true = grind (arith, nat_tests) in test

-- a switch of fewer ports has the same port or none
fewer-port : (ports : ℕ) (z : ℤ) (port : ℕ) → port_in 16 z ≡ Some port → port_in ports z ≡ (if nat_lt port ports then Some port else None)
fewer-port ports (pos k) port is =
    ap (λ t. if t && nat_lt k ports then Some k else None) (low k) ∙ by (nat_lt k 16) (sym (ap (λ t. if t && nat_lt k 16 then Some k else None) (low k)) ∙ is)
  where
    by : (b : Bool) → (if b then Some k else None) ≡ Some port → (if nat_lt k ports then Some k else None) ≡ (if nat_lt port ports then Some port else None)
    by true e = let same : k ≡ port = cc in ap (λ i. if nat_lt i ports then Some i else None) same
    by false e = cc
fewer-port ports (negsuc k) port is = cc

fewer-none : (ports : ℕ) (z : ℤ) → ports ≤ 16 → port_in 16 z ≡ None → port_in ports z ≡ None
fewer-none ports (pos k) few is =
    ap (λ t. if t && nat_lt k ports then Some k else None) (low k) ∙ by (nat_lt k 16) refl (sym (ap (λ t. if t && nat_lt k 16 then Some k else None) (low k)) ∙ is)
  where
    by : (b : Bool) → nat_lt k 16 ≡ b → (if b then Some k else None) ≡ None → (if nat_lt k ports then Some k else None) ≡ None
    by true e f = cc
    by false e f = let more : nat_lt k ports ≡ false = grind (arith, nat_tests) in ap (λ t. if t then Some k else None) more
fewer-none ports (negsuc k) few is = refl

-- a turn to one of 16 ports takes the channel that leaves by it, also where the switch has fewer
pub turned-by : (h : CableHistory) (s p port : ℕ) (turn : ℤ) → IsFabric (fabric_now h) → leaving_port 16 p turn ≡ Some port → turned_from h (record { v = Switch s; p = p }) turn ≡ leaving h (record { v = Switch s; p = port })
turned-by h s p port turn f is =
    ap (λ o. option_and_then (leaving h) (option_map (λ q. end_by q) o)) (fewer-port (ports_of (fabric_now h) (Switch s)) (pos p +ℤ turn) port is)
    ∙ by (nat_lt port (ports_of (fabric_now h) (Switch s))) refl
  where
    end_by : ℕ → End
    end_by q = record { v = Switch s; p = q }

    by : (b : Bool) → nat_lt port (ports_of (fabric_now h) (Switch s)) ≡ b → option_and_then (leaving h) (option_map (λ q. end_by q) (if b then Some port else None)) ≡ leaving h (end_by port)
    by true e = refl
    by false e = sym (leaving-outside h (end_by port) f e)

-- and a turn to none of them takes none
pub turned-none : (h : CableHistory) (s p : ℕ) (turn : ℤ) → IsFabric (fabric_now h) → leaving_port 16 p turn ≡ None → turned_from h (record { v = Switch s; p = p }) turn ≡ None
turned-none h s p turn f is =
    ap (λ o. option_and_then (leaving h) (option_map (λ q. record { v = Switch s; p = q }) o)) (fewer-none (ports_of (fabric_now h) (Switch s)) (pos p +ℤ turn) (ports-few h.switches s f.port_counts) is)

-- a number is a port, is past the 16, or is below 0
pub leaving-is : (p port : ℕ) (turn : ℤ) → pos p +ℤ turn ≡ pos port → port < 16 → leaving_port 16 p turn ≡ Some port
leaving-is p port turn sum few =
    let test : nat_lt port 16 ≡ true = grind (arith, nat_tests) in
    ap (port_in 16) sum ∙ ap (λ t. if t && nat_lt port 16 then Some port else None) (low port) ∙ ap (λ t. if t then Some port else None) test

pub leaving-past : (p k : ℕ) (turn : ℤ) → pos p +ℤ turn ≡ pos k → 16 ≤ k → leaving_port 16 p turn ≡ None
leaving-past p k turn sum many =
    let test : nat_lt k 16 ≡ false = grind (arith, nat_tests) in
    ap (port_in 16) sum ∙ ap (λ t. if t && nat_lt k 16 then Some k else None) (low k) ∙ ap (λ t. if t then Some k else None) test

pub leaving-below : (p k : ℕ) (turn : ℤ) → pos p +ℤ turn ≡ negsuc k → leaving_port 16 p turn ≡ None
leaving-below p k turn sum = ap (port_in 16) sum
