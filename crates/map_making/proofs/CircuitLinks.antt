-- What is printed of circuit links is what the definition says of them.
use Rattle.std.proofs.Common.{◌≡◌, ◌<◌, ℕ, [], ◌∷◌, length, sym, subst, ap, arith, Result, Ok, Err, IfOk}
use Rattle.std.proofs.lemmas.Bool.Decides.{nat_tests}
use Rattle.net_defs.specs.Network.{Network, IsFabric}
use Rattle.map_defs.specs.NetMap.{NetMap}
use Rattle.probe.specs.Drowning.{OverFabric}
use Rattle.circ_laws.proofs.Telling.{circuit-true}
use Rattle.circ_laws.proofs.Ruled.{kept-host}
use Rattle.circ_map.specs.declared.mapping.CircMapped.{CircMapped}
use Rattle.circ_map.specs.declared.mapping.CircEnd.{CircEnd}
use Rattle.circ_map.specs.declared.mapping.CircEnd.TheVariants.{Whole, Nodes}
use Rattle.circ_map.specs.Mapping.{IsMappedBy}
use Rattle.run_defs.specs.declared.line.Line.TheVariants.{Circuit, CircuitNodes}
use Rattle.run_defs.specs.Circuit.{IsCircuitTold}
use Rattle.run_defs.specs.Circuit.IsCircuitTold.{whole, too_many_nodes}
use Rattle.run_defs.specs.Output.{OneLine, MapLines}
use Rattle.fab_report.specs.Printed.{PrintedState, printed_of}
use Rattle.fab_report.specs.There.{IsHost}
use Rattle.map_canon.specs.Printing.{AreOfFabric}
use Rattle.map_canon.proofs.OfFabric.{each-of_fabric, host-of_fabric}
use Rattle.map_making.specs.Circuit.{circuit_pieces, IsCircuitPrinted}
use Rattle.map_making.proofs.Hosts.{quotient-of_fabric}

-- a host of the fabric has an address below their number
pub host_there : (n : Network) (h : ℕ) → IsHost n h → h < length n.hosts
host_there n h e = grind (arith, nat_tests)

-- what a mapping answers is what is reported
told : (n : Network) (host depth : ℕ) (m : NetMap) (asks : ℕ) (end : CircEnd) → IsMappedBy n host depth m asks end → IsCircuitTold n host depth (circuit_pieces host depth m asks end)
told n host depth m asks Whole w = whole w.journal m w.growing w.ended w.map_is (ap (λ a. OneLine (Circuit host depth a) ∷ MapLines m ∷ []) w.asks_is)
told n host depth m asks Nodes p = too_many_nodes p.0.journal p.0.growing p.0.passed (ap (λ a. OneLine (CircuitNodes host a) ∷ []) p.0.asks_is)

pub circuit_told : (n : Network) (host depth : ℕ) (m : NetMap) (asks : ℕ) (end : CircEnd) (p : PrintedState) → IsMappedBy n host depth m asks end → p ≡ printed_of n (circuit_pieces host depth m asks end) → IsCircuitPrinted n host depth p
circuit_told n host depth m asks end p is e = record { output = circuit_pieces host depth m asks end; is_told = told n host depth m asks end is; printed = e }

-- the hosts of the map are hosts of the fabric; without a map there are none
pub circuit_of_fabric : (n : Network) (host depth : ℕ) (m : NetMap) (asks : ℕ) (end : CircEnd) → IsFabric n → host < length n.hosts → IsMappedBy n host depth m asks end → AreOfFabric n m
circuit_of_fabric n host depth m asks Whole f there w =
    let c = w.map_is in
    let with_outside : NetMap = c.with_outside in
    let all = quotient-of_fabric n host w.journal f there (circuit-true n host w.journal c.tree.circuit) with_outside c.quotient in
    each-of_fabric n m.vertices (λ v h e. let u = kept-host with_outside m c.without_outside v h e in host-of_fabric n with_outside.vertices u.0 h all u.1)
circuit_of_fabric n host depth m asks Nodes f there p = subst (AreOfFabric n) (sym p.1) tt

-- so they are of an answer's map, if there was memory
pub mapped-hosts : {E : Type 0} (n : Network) (host depth : ℕ) (p : OverFabric) (r : Result CircMapped E) → IsFabric n → IsHost n host → p ≡ record { fabric = n; host = host }
    → IfOk r (λ m. IsMappedBy p.fabric p.host depth m.map m.asks m.end) → IfOk r (λ m. AreOfFabric n m.map)
mapped-hosts n host depth p (Ok m) f there e is =
    circuit_of_fabric n host depth m.map m.asks m.end f (host_there n host there) (subst (λ (q : OverFabric). IsMappedBy q.fabric q.host depth m.map m.asks m.end) e is)
mapped-hosts n host depth p (Err x) f there e is = tt
