-- Every map that was made can be printed, and what can be printed is read again.
use Rattle.std.proofs.Common.{◌≡◌, ◌<◌, ◌≤◌, ◌+◌, ◌⊎◌, inl, inr, length, sym, ap, subst, arith}
use Rattle.net_defs.specs.Network.{Network}
use Rattle.journal_defs.specs.Growth.{IsEndedAtLimit, node_limit}
use Rattle.map_defs.specs.NetMap.{NetMap}
use Rattle.world_defs.proofs.Now.{now_is_fabric}
use Rattle.map_canon.specs.Printing.{AreOfFabric}
use Rattle.map_canon.proofs.OfFabric.{each-of_fabric}
use Rattle.map_canon.proofs.ReadBack.{map-read-back}
use Rattle.world_defs.specs.World.{fabric_of}
use Rattle.mapping_laws.proofs.Made.{at-limit, found_is_there, made_map_is_map}
use Rattle.circ_laws.proofs.Telling.{circuit-true}
use Rattle.circ_laws.proofs.Ruled.{circuit_map_is_map, few-kept, kept-host}
use Rattle.print_laws.specs.Printed.{IsPrintable, MadeMapIsPrintable, CircuitMapIsPrintable, PrintableIsReadAgain}
use Rattle.print_laws.proofs.Fewness.{few-vertices, few-nodes, few-cables}
use Rattle.print_laws.proofs.Hosts.{host-there, hosts-of_fabric}
use Rattle.print_laws.proofs.Lengths.{text-short}

pub made_map_is_printable : MadeMapIsPrintable
made_map_is_printable host depth tries before after j m words can made = by (at-limit host depth j made.grown)
  where
    by : IsEndedAtLimit j ⊎ (¬ IsEndedAtLimit j) → IsPrintable (fabric_of before) m
    by (inl l) =
        let rules = made_map_is_map host depth tries before after j m words can made in
        record {
          rules = rules;
          hosts = subst (AreOfFabric (fabric_of before)) (sym (made.beyond l)) tt;
          few_vertices = subst (λ (z : NetMap). length z.vertices ≤ node_limit + 1) (sym (made.beyond l)) (omega arith);
          few_cables = few-cables m rules;
        }
    by (inr l) =
        let n : Network = fabric_of before in
        let shown = made.within l in
        let k : NetMap = shown.unmarked in
        let rules = made_map_is_map host depth tries before after j m words can made in
        let found = found_is_there host depth tries before after j m words can made in
        let there : host < length n.hosts = subst (λ c. host < c) can.world.hosts can.is_host in
        let vertices = few-vertices host j k shown.quotient in
        let nodes = few-nodes host depth j made.grown in
        let same : length m.vertices ≡ length k.vertices = ap (λ (z : NetMap). length z.vertices) shown.marked in
        record {
          rules = rules;
          hosts = subst (AreOfFabric n) (sym shown.marked) (hosts-of_fabric n host j k (now_is_fabric before.links.cables can.history) there found shown.quotient);
          few_vertices = omega arith;
          few_cables = few-cables m rules;
        }

pub circuit_map_is_printable : CircuitMapIsPrintable
circuit_map_is_printable n host depth j k fabric there ended is =
    let m : NetMap = is.with_outside in
    let rules = circuit_map_is_map n host depth j k fabric is in
    let found = circuit-true n host j is.tree.circuit in
    let vertices = few-vertices host j m is.quotient in
    let kept = few-kept m k is.without_outside in
    let nodes = ended.kept in
    record {
      rules = rules;
      hosts = each-of_fabric n k.vertices (λ v h e. let u = kept-host m k is.without_outside v h e in host-there n host j m fabric there found is.quotient u.0 h u.1);
      few_vertices = omega arith;
      few_cables = few-cables k rules;
    }

pub printable_is_read_again : PrintableIsReadAgain
printable_is_read_again n m fabric named is =
    let few = is.few_vertices in
    let few_too = is.few_cables in
    record {
      read = map-read-back n m (record { is_map = is.rules; few_vertices = omega arith; few_cables = omega arith }) is.hosts fabric named;
      short = text-short n m fabric named is;
    }
