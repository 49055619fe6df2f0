use Rattle.std.proofs.Common.{ap, get_or, ◌∙◌}
use Rattle.std.proofs.lemmas.List.{take_all}
use Rattle.journal_defs.specs.Tree.{host_of}
use Rattle.map_defs.specs.NetMap.{NetMap}
use Rattle.replicate_merge.specs.Nodes.{nodes_of}
use Rattle.replicate_merge.specs.Ways.{node_at}
use Rattle.map_quotient.specs.Naming.{bare_map, vertices_of}
use Rattle.map_quotient.proofs.Addresses.{address-is}
use Rattle.map_quotient.proofs.Named.{named-next}
use Rattle.map_quotient.proofs.Vertices.{next-fits}
use Rattle.map_quotient.proofs.naming.named_for.Goals as goal

pub loop-node-init : goal.loop-node-init
loop-node-init c = c.reserve.ensures ∙ c.new-map.ensures

pub add_vertex-requires : goal.add_vertex-requires
add_vertex-requires c =
    next-fits (λ n. host_of c.args.j.now.host c.args.j.now.entries (node_at (nodes_of c.args.walks.now) n)) c.args.least.now 0 c.loop-node.node-index c.loop-node.map c.address_of.result c.requires.few c.requires.own c.loop-node-test.true (ap (λ (y : NetMap). y.vertices) c.loop-node.invariant) (address-is c.args.j.now.host c.args.j.now.entries c.args.walks.now (get_or c.args.least.now c.loop-node.node-index 0) c.host.result c.deref.result.now c.in_ok-addresses.addresses.items c.address_of.result c.address_of.ensures c.deref.ensures.value c.in_ok-addresses.ensures c.host.ensures c.requires.walked)

pub loop-node-preserved : goal.loop-node-preserved
loop-node-preserved c =
    named-next c.args.j.now.host c.args.j.now.entries c.args.walks.now c.args.least.now c.loop-node.node-index c.loop-node.map c.add_vertex.new.map c.address_of.result c.loop-node-test.true c.loop-node.invariant (address-is c.args.j.now.host c.args.j.now.entries c.args.walks.now (get_or c.args.least.now c.loop-node.node-index 0) c.host.result c.deref.result.now c.in_ok-addresses.addresses.items c.address_of.result c.address_of.ensures c.deref.ensures.value c.in_ok-addresses.ensures c.host.ensures c.requires.walked) c.in_ok-add_vertex.ensures

pub returns : goal.returns
returns c = c.loop-node.invariant ∙ ap (λ ns. bare_map (vertices_of c.args.j.now.host c.args.j.now.entries c.args.walks.now ns)) (take_all c.loop-node.node-index c.args.least.now c.loop-node-test.false)
