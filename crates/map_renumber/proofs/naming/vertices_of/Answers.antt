use Rattle.std.proofs.Common.{ap}
use Rattle.map_defs.specs.NetMap.{NetMap, host_of_vertex}
use Rattle.map_renumber.specs.Canon.{is_of_core}
use Rattle.map_quotient.proofs.Vertices.{next-fits}
use Rattle.map_renumber.proofs.Named.{named-next, host-marked}
use Rattle.map_renumber.proofs.naming.vertices_of.Goals as goal

pub add_vertex-requires : goal.add_vertex-requires
add_vertex-requires c =
    next-fits (λ d. host_of_vertex c.args.m.now d.0) c.args.found.now _ c.loop-entry.entry-index c.loop-entry.map c.address_at.result c.requires.few c.requires.own c.loop-entry-test.true (ap (λ (y : NetMap). y.vertices) c.loop-entry.invariant) c.address_at.ensures

pub loop-entry-preserved : goal.loop-entry-preserved
loop-entry-preserved c =
    named-next (λ d. host_of_vertex c.args.m.now d.0) (λ d. is_of_core c.args.m.now d.0) c.args.found.now _ c.loop-entry.entry-index c.loop-entry.map c.add_vertex.new.map c.address_at.result c.is_of_core.result (λ d h e. host-marked c.args.m.now c.vertices.ensures.is_map.is_map d.0 h e) c.loop-entry-test.true c.loop-entry.invariant c.address_at.ensures c.is_of_core.ensures c.in_ok-add_vertex.ensures
