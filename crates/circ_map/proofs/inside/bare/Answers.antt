use Rattle.std.proofs.Common.{get_or}
use Rattle.std.proofs.lemmas.Option.{slice_get-get_or}
use Rattle.circ_map.proofs.Fitting.{vertex-fits}
use Rattle.circ_map.proofs.Keeping.{bare-next}
use Rattle.circ_map.proofs.inside.bare.Goals as goal

pub loop-v-preserved : goal.loop-v-preserved
loop-v-preserved c =
    bare-next c.args.m.now c.args.kept.now c.loop-v.v-index c.loop-v.map c.add_vertex.new.map c.address_of.result c.loop-v-test.true c.loop-v.invariant c.address_of.ensures c.in_ok-add_vertex.ensures

pub add_vertex-requires : goal.add_vertex-requires
add_vertex-requires c =
    vertex-fits c.args.m.now c.args.kept.now c.loop-v.v-index (get_or c.args.kept.now c.loop-v.v-index 0) c.loop-v.map c.address_of.result
    c.vertices.ensures.is_map c.requires.rising c.requires.few (slice_get-get_or c.args.kept.now c.loop-v.v-index 0 c.loop-v-test.true) c.loop-v.invariant c.address_of.ensures
